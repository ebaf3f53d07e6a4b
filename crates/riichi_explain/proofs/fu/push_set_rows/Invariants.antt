use Rattle.std.proofs.Common.{◌≡◌, ◌≤◌, ◌+◌, ◌++◌, length, take}
use Rattle.std.specs.List.{flat_map}
use Rattle.riichi_explain.specs.Fu.{set_rows}
use Rattle.riichi_explain.proofs.fu.push_set_rows.Given as goal

abbrev pub invariant-loop-block : goal.invariant-loop-block
invariant-loop-block l =
    (l.rows.items ≡ l.initial.rows.items ++ flat_map (set_rows l.win) (take l.block-index l.block-items))
    × (length l.rows.items ≤ length l.initial.rows.items + l.block-index)
