use Rattle.riichi_need.proofs.Rising.{greater_reaches_too}
use Rattle.riichi_need.proofs.need.least_row.Goals as goal

pub returns-in-Some : goal.returns-in-Some
returns-in-Some c =
    let least = c.in-Some.ensures.least in (
      least,
      λ base h. greater_reaches_too c.args.question.now c.args.aim c.args.way c.in-Some.base base h least.1,
      c.payment_for.ensures.value,
    )
