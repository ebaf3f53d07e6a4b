use Rattle.std.proofs.Common.{◌≡◌, ◌∙◌, ap, arith, take}
use Rattle.std.specs.Prelude.{nat_lt}
use Rattle.std.specs.List.{list_any}
use Rattle.riichi_tiles.specs.Melds.{every_kind}
use Rattle.riichi_safe.specs.Records.{copies_seen}
use Rattle.riichi_safe.proofs.safe_record.has_five.Goals as goal

pub returns : goal.returns
returns c =
    let all : c.loop-number.number ≡ 34 = omega arith in
    c.loop-number.invariant ∙ ap (λ n. list_any (λ kind. nat_lt 4 (copies_seen (record { hand = c.args.hand.now; own = c.args.own.now; thrown = c.args.thrown.now; since = c.args.since.now }) kind)) (take n every_kind)) all
