use Rattle.std.proofs.Common.{◌++◌, List, ℕ, ap, ◌∙◌}
use Rattle.desk_game_hints.specs.Hinted.{text_with}
use Rattle.desk_games.specs.Texts.{text_of_reply}
use Rattle.desk_game_hints.proofs.HintLemmas.{both_lines, tells_hinted_line}
use Rattle.desk_game_hints.proofs.hinted.HintedGamesTeller.tell.Goals as goal

pub returns-clause-told : goal.returns-clause-told
returns-clause-told g c =
    let taken = c.take.ensures.reply in
    let puts = taken.2 in
    let front = c.front_of-front.result in record {
      answer = text_with (text_of_reply front taken.0) puts.hint;
      put = puts.put ∙ ap (λ (text : List ℕ). c.args.outbox.now.bytes.items ++ text) (both_lines (text_of_reply front taken.0) puts.hint);
      tells_more = λ first lines told report next counted as_this tells.
          tells_hinted_line first c.args.self.now c.take.new.self lines told report c.args.number front c.args.line.now next taken.0 puts.hint c.take.result
          c.front_of-front.ensures c.take.ensures.given taken.1 puts.kind_is puts.desk_is puts.is_hint counted as_this tells;
    }
