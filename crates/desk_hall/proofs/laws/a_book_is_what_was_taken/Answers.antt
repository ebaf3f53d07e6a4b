use Rattle.desk_hall.proofs.DealsAfter.{deals_are_the_taken, others_change_nothing}
use Rattle.desk_hall.proofs.laws.a_book_is_what_was_taken.Goals as goal

pub returns-clause-taken : goal.returns-clause-taken
returns-clause-taken g c = deals_are_the_taken g.P.Position.reads g.P.Position.same

pub returns-clause-others : goal.returns-clause-others
returns-clause-others g c = others_change_nothing g.P.Position.reads g.P.Position.same
