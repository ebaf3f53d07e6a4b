use Rattle.std.proofs.Common.{◌≡◌, ◌≤◌, length}
use Rattle.std.specs.List.{flat_map, range_with_len}
use Rattle.riichi_explain.specs.Waits.{waits_at}
use Rattle.riichi_explain.proofs.waits.explain_waits.Given as goal

abbrev pub invariant-loop-number : goal.invariant-loop-number
invariant-loop-number l = (l.rows.items ≡ flat_map (waits_at l.hand) (range_with_len 0 l.number)) × (length l.rows.items ≤ l.number)
