use Rattle.std.proofs.Common.{◌≡◌, take}
use Rattle.std.specs.Prelude.{nat_lt}
use Rattle.std.specs.List.{list_any}
use Rattle.riichi_tiles.specs.Melds.{every_kind}
use Rattle.riichi_hand.specs.Win.{copies_with_indicators}
use Rattle.riichi_hand.proofs.win.has_five_in.Given as goal

-- among the kinds so far
abbrev pub invariant-loop-number : goal.invariant-loop-number
invariant-loop-number l = l.found ≡ list_any (λ kind. nat_lt 4 (copies_with_indicators l.parts kind)) (take l.number every_kind)
