use Rattle.desk_hall.proofs.Apart as apart
use Rattle.desk_hall.proofs.laws.tables_are_apart.Goals as goal

pub returns : goal.returns
returns g c = apart.tables_are_apart g.P.Position.reads g.P.Position.same
