use Rattle.std.proofs.Common.{◌≡◌, ◌≤◌, ◌+◌, ◌*◌, ◌++◌, length, take}
use Rattle.std.specs.List.{flat_map}
use Rattle.arrayvec.specs.ArrayString.{array_string_len}
use Rattle.riichi_text.proofs.list.push_more.Given as goal

-- the items so far are written
abbrev pub invariant-loop-item : goal.invariant-loop-item
invariant-loop-item g l =
    (l.text.bytes ≡ l.initial.text.bytes ++ flat_map (λ next. l.separator ++ g.T.ListItem.item_text next) (take l.item-index l.items))
    × (array_string_len l.text ≤ array_string_len l.initial.text + l.item-index * (length l.separator + g.T.ListItem.most))
