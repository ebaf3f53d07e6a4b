use Rattle.std.proofs.Common.{rules}
use Rattle.desk_crew.proofs.PieceLemmas.{answered_nothing}
use Rattle.desk_crew.proofs.piece.Piece.answer.Goals as goal

pub returns-then-from-to : goal.returns-then-from-to
returns-then-from-to g c =
    let none = answered_nothing g.A.Responder.may_tell c.args.rules c.args.text.now c.clear.new.self.items c.min-from.result c.min-to.result c.if-from-to.true c.clear.ensures.items in
    search (rules, none)
