use Rattle.std.proofs.Common.{take}
use Rattle.desk_json.specs.Whole.{Each, IsWholeDiscard}
use Rattle.desk_json.proofs.laws.see_discards.Given as goal

abbrev pub invariant-loop-place : goal.invariant-loop-place
invariant-loop-place l = Each IsWholeDiscard (take l.place l.discards)
