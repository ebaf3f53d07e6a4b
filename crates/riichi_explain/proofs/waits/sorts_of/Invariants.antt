use Rattle.std.proofs.Common.{◌≡◌}
use Rattle.riichi_explain.specs.Waits.{sorts_in, both_sorts}
use Rattle.riichi_explain.proofs.waits.sorts_of.Given as goal

-- the sorts so far, and those of the readings that are left
abbrev pub invariant-loop-reading : goal.invariant-loop-reading
invariant-loop-reading l = sorts_in l.winning l.initial.reading-iterator ≡ both_sorts l.sorts (sorts_in l.winning l.reading-iterator)
