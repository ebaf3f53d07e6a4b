use Rattle.std.proofs.Common.{arith}
use Rattle.std.proofs.lemmas.Bool.{false≢true}
use Rattle.riichi_split.proofs.PairTotals.{by-pair, by-sets, by-none}
use Rattle.riichi_split.proofs.standard.Suits.is_completed_by.Goals as goal

pub returns-in-0 : goal.returns-in-0
returns-in-0 c =
    by-pair c.args.self.now.tiles c.args.self.now.pairs c.args.suit c.args.rank c.are_sets_and_pair_with.result
    (record {
      counted = c.requires.counted;
      small = c.requires.rank;
      left = omega (arith, rw c.lent-tiles.ensures at c.get.ensures.value, c.if-get-ge4.false);
      beside = omega (arith, c.in-0.is, c.requires.others);
    })
    (rw c.lent-tiles.ensures at c.are_sets_and_pair_with.ensures)

pub returns-in-1 : goal.returns-in-1
returns-in-1 c =
    by-sets c.args.self.now.tiles c.args.self.now.pairs c.args.suit c.args.rank c.are_sets_with.result
    (record {
      counted = c.requires.counted;
      small = c.requires.rank;
      left = omega (arith, rw c.lent-tiles.ensures at c.get.ensures.value, c.if-get-ge4.false);
      beside = omega (arith, c.in-1.is, c.requires.others);
    })
    (rw c.lent-tiles.ensures at c.are_sets_with.ensures)

pub returns-in_default : goal.returns-in_default
returns-in_default c = (
  λ t. absurd (false≢true t),
  λ h. absurd (by-none c.args.self.now.tiles c.args.self.now.pairs c.args.suit c.args.rank c.args.others
      (record {
        counted = c.requires.counted;
        small = c.requires.rank;
        left = omega (arith, rw c.lent-tiles.ensures at c.get.ensures.value, c.if-get-ge4.false);
        beside = c.requires.others;
      })
      (λ e. omega (arith, e, c.in_default)) (λ e. omega (arith, e, c.in_default)) h),
)
