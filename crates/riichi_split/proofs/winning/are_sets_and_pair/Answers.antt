use Rattle.std.proofs.Common.{arith}
use Rattle.riichi_split.proofs.SplitSuits.{split-size}
use Rattle.riichi_split.proofs.winning.are_sets_and_pair.Goals as goal
use Rattle.riichi_split.proofs.winning.are_sets_and_pair.Goals.{then-melds-gt4-via-then-melds-gt4, then-melds-gt4-via-else-melds-gt4+then-total-melds-ne14}

pub returns-then-melds-gt4 : goal.returns-then-melds-gt4
returns-then-melds-gt4 c = (
  λ t. absurd (cc),
  λ h. absurd (elim c.then-melds-gt4.branch [
    | then-melds-gt4-via-then-melds-gt4 w ↦ let four = h.2.four in omega (arith, four, w.if-melds-gt4.true)
    | then-melds-gt4-via-else-melds-gt4+then-total-melds-ne14 w ↦
        let size = split-size c.args.counts.now c.args.melds w.total.ensures.counts.each_kind h in
        w.if-total-melds-ne14.true (omega (arith, size, w.total.ensures.value))
  ]),
)
