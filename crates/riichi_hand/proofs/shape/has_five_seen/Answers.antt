use Rattle.std.proofs.Common.{◌≡◌, ◌∙◌, ap, arith, take}
use Rattle.std.specs.Prelude.{nat_lt}
use Rattle.std.specs.List.{list_any}
use Rattle.riichi_tiles.specs.Melds.{every_kind}
use Rattle.riichi_hand.specs.Hand.{copies_with}
use Rattle.riichi_hand.proofs.shape.has_five_seen.Goals as goal

pub returns : goal.returns
returns c =
    let all : c.loop-number.number ≡ 34 = omega arith in
    c.loop-number.invariant ∙ ap (λ n. list_any (λ kind. nat_lt 4 (copies_with (record { tiles = c.args.tiles.now; melds = c.args.melds.now; seen = c.args.seen.now }) kind)) (take n every_kind)) all
