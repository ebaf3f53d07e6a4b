use Rattle.desk_hall.proofs.TextFollows.{text_follows}
use Rattle.desk_hall.proofs.laws.a_text_follows_its_book.Goals as goal

pub returns : goal.returns
returns g c = text_follows g.P.Position.reads g.P.Position.same
