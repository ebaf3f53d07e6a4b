use Rattle.std.proofs.Common.{rules, ◌≡◌}
use Rattle.std.specs.Prelude.{codes}
use Rattle.riichi_hand.proofs.FlagLemmas.{with_ippatsu, with_rinshan, with_chankan, with_last, with_first}
use Rattle.riichi_hand.proofs.line.flags.with_flag.Goals as goal

pub returns-then-eq : goal.returns-then-eq
returns-then-eq c items are flags = let same : c.args.item.now ≡ codes "ippatsu" = search rules in rw (same, c.unless.ensures, flags) (with_ippatsu items are)

pub returns-then-eq-2 : goal.returns-then-eq-2
returns-then-eq-2 c items are flags = let same : c.args.item.now ≡ codes "rinshan" = search rules in rw (same, c.unless-then-eq-2.ensures, flags) (with_rinshan items are)

pub returns-then-eq-3 : goal.returns-then-eq-3
returns-then-eq-3 c items are flags = let same : c.args.item.now ≡ codes "chankan" = search rules in rw (same, c.unless-then-eq-3.ensures, flags) (with_chankan items are)

pub returns-then-eq-4 : goal.returns-then-eq-4
returns-then-eq-4 c items are flags = let same : c.args.item.now ≡ codes "last" = search rules in rw (same, c.unless-then-eq-4.ensures, flags) (with_last items are)

pub returns-then-eq-5 : goal.returns-then-eq-5
returns-then-eq-5 c items are flags = let same : c.args.item.now ≡ codes "first" = search rules in rw (same, c.unless-then-eq-5.ensures, flags) (with_first items are)
