use Rattle.desk_games.specs.Texts.{text_of_reply}
use Rattle.desk_games.proofs.ReplyLemmas.{tells_line}
use Rattle.desk_games.proofs.games.GamesTeller.tell.Goals as goal

pub returns-clause-told : goal.returns-clause-told
returns-clause-told g c =
    let taken = c.take.ensures.reply in record {
      answer = text_of_reply c.number_if-front.result taken.0;
      put = taken.2.put;
      tells_more = λ first lines told report next counted as_this tells.
          tells_line first c.args.self.now c.take.new.self lines told report c.args.number c.number_if-front.result c.args.line.now next taken.0 c.take.result _ _
          c.number_if-front.ensures c.take.ensures.given taken.1 taken.2 counted as_this tells;
    }
