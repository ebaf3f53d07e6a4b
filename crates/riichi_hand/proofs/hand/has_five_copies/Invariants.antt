use Rattle.std.proofs.Common.{◌≡◌, take}
use Rattle.std.specs.Prelude.{nat_lt}
use Rattle.std.specs.List.{list_any}
use Rattle.riichi_tiles.specs.Melds.{every_kind}
use Rattle.riichi_hand.specs.Hand.{copies_held}
use Rattle.riichi_hand.proofs.hand.has_five_copies.Given as goal

-- among the kinds so far
abbrev pub invariant-loop-number : goal.invariant-loop-number
invariant-loop-number l = l.found ≡ list_any (λ kind. nat_lt 4 (copies_held l.concealed l.fn.melds kind)) (take l.number every_kind)
