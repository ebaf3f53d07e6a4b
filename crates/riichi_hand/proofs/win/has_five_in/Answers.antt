use Rattle.std.proofs.Common.{◌≡◌, ◌∙◌, ap, arith, take}
use Rattle.std.specs.Prelude.{nat_lt}
use Rattle.std.specs.List.{list_any}
use Rattle.riichi_tiles.specs.Melds.{every_kind}
use Rattle.riichi_hand.specs.Win.{copies_with_indicators}
use Rattle.riichi_hand.proofs.win.has_five_in.Goals as goal

pub returns : goal.returns
returns c =
    let all : c.loop-number.number ≡ 34 = omega arith in
    c.loop-number.invariant ∙ ap (λ n. list_any (λ kind. nat_lt 4 (copies_with_indicators c.args.parts.now kind)) (take n every_kind)) all
