use Rattle.std.proofs.Common.{ℕ, List, ◌++◌, ap, subst, Bool, ◌∙◌, append_assoc}
use Rattle.std.specs.Prelude.{IfSome}
use Rattle.desk_lines.specs.Telling.{with_line_feed}
use Rattle.desk_games.specs.Desks.{is_held_desk}
use Rattle.desk_games.specs.Texts.{text_of_reply}
use Rattle.desk_game_hints.specs.Hinted.{IsHintBehind}
use Rattle.desk_game_hints.proofs.FaultLemmas.{hint_named}
use Rattle.desk_game_hints.proofs.hinted.HintedGames.take.Goals as goal

pub returns-clause-reply : goal.returns-clause-reply
returns-clause-reply c =
    let old = c.args.self.now.games in let new = c.take-kind.new.self in let taken = c.take-kind.ensures.reply in let hint = c.put_hint.ensures in let kind = c.take-kind.result in let line = c.args.line.now in
    let held = c.is_held-was_held.ensures ∙ ap is_held_desk c.desk.ensures in let before = c.args.outbox.now.bytes.items in (
      taken.0,
      taken.1,
      record {
        kind_is = taken.2.kind_is;
        desk_is = taken.2.desk_is;
        hint = hint.0;
        is_hint = hint_named old.form old.given new.given old.desk new.desk line taken.0 kind hint.0 taken.1 taken.2.kind_is taken.2.desk_is c.take-kind.ensures.given.0
            (subst (λ (was : Bool). IfSome hint.0 (λ text. IsHintBehind new.given was new.desk kind line text)) held hint.1);
        put = hint.2 ∙ ap (λ (text : List ℕ). text ++ with_line_feed hint.0) taken.2.put ∙ append_assoc before (with_line_feed (text_of_reply c.args.front taken.0)) (with_line_feed hint.0);
      },
    )
