use Rattle.desk_hall.proofs.DealsAfter.{gone_are_the_withdrawn}
use Rattle.desk_hall.proofs.laws.what_is_withdrawn_stays_withdrawn.Goals as goal

pub returns : goal.returns
returns g c = gone_are_the_withdrawn g.P.Position.reads g.P.Position.same
