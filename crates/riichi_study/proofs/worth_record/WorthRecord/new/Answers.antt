use Rattle.std.proofs.Common.{◌≤◌, arith}
use Rattle.std.specs.Prelude.{sum}
use Rattle.riichi_study.proofs.WorthRecordLemmas.{is_worth}
use Rattle.riichi_study.proofs.worth_record.WorthRecord.new.Goals as goal

pub invariant_of-result : goal.invariant_of-result
invariant_of-result c =
    let few : sum c.args.stakes.dora ≤ 5 = omega (arith, c.if-total-gt5.false, c.total.ensures.value) in
    is_worth c.args.hand c.in_ok-hand.hand c.args.stakes few c.in_ok-hand.ensures
