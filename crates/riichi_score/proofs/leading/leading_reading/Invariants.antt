use Rattle.std.proofs.Common.{◌≤◌}
use Rattle.riichi_score.specs.Read.{IsScored}
use Rattle.riichi_score.specs.Worths.{leading_answer, leading_base}
use Rattle.riichi_score.proofs.Greatest.{IsSoFar}
use Rattle.riichi_score.proofs.leading.leading_reading.Given as goal

abbrev pub invariant-loop-reading : goal.invariant-loop-reading
invariant-loop-reading l =
    IsSoFar l.win l.initial.reading-iterator l.yielded l.reading-iterator (leading_answer l.leading.best l.win)
    × (leading_base l.leading.best ≤ 800000)
    × IsScored l.win l.leading.reading l.leading.best
