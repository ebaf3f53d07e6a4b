use Rattle.std.proofs.Common.{◌≡◌, take}
use Rattle.std.specs.Prelude.{nat_lt}
use Rattle.std.specs.List.{list_any}
use Rattle.riichi_tiles.specs.Melds.{every_kind}
use Rattle.riichi_hand.specs.Hand.{copies_with}
use Rattle.riichi_hand.proofs.shape.has_five_seen.Given as goal

-- among the kinds so far
abbrev pub invariant-loop-number : goal.invariant-loop-number
invariant-loop-number l = l.found ≡ list_any (λ kind. nat_lt 4 (copies_with (record { tiles = l.tiles; melds = l.fn.melds; seen = l.seen }) kind)) (take l.number every_kind)
