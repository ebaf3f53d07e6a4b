use Rattle.std.proofs.Common.{◌∙◌}
use Rattle.desk_hall.specs.Decided.{Withdraws}
use Rattle.desk_hall.proofs.SeenLemmas.{judged_so}
use Rattle.desk_hall.proofs.judged.withdraw.Goals as goal

pub returns : goal.returns
returns g c =
    let told = c.judged_by.ensures in
    judged_so g.P.Position.reads g.P.Position.same c.args.start.now c.args.text.now c.args.number Withdraws c.in-Some.sight c.judged_by.result c.in-Some.ensures (told.decision ∙ c.withdrawal_decided-decision.ensures) told.front told.next told.last told.place
