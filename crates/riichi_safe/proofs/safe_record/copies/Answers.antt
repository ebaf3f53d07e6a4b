use Rattle.std.proofs.Common.{arith}
use Rattle.riichi_safe.proofs.safe_record.copies.Goals as goal

pub overflow_add-result-3 : goal.overflow_add-result-3
overflow_add-result-3 c =
    let kind = c.args.kind in
    omega (arith, c.get.ensures.counts.at_most_four kind, c.get-2.ensures.counts.at_most_four kind, c.get-3.ensures.counts.at_most_four kind, c.get-4.ensures.counts.at_most_four kind, c.get-5.ensures.counts.at_most_four kind)
