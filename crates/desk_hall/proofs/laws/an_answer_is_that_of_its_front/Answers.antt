use Rattle.desk_hall.proofs.FrontsStay.{fronts_stay, taken_from_its_front, again_as_the_first, doubled_is_again}
use Rattle.desk_hall.proofs.laws.an_answer_is_that_of_its_front.Goals as goal

pub returns-clause-taken : goal.returns-clause-taken
returns-clause-taken g c = taken_from_its_front g.P.Position.reads g.P.Position.same

pub returns-clause-fronts : goal.returns-clause-fronts
returns-clause-fronts g c = fronts_stay g.P.Position.reads g.P.Position.same

pub returns-clause-again : goal.returns-clause-again
returns-clause-again g c = again_as_the_first g.P.Position.reads g.P.Position.same

pub returns-clause-doubled : goal.returns-clause-doubled
returns-clause-doubled g c = doubled_is_again g.P.Position.reads g.P.Position.same g.met.P.Position.itself
