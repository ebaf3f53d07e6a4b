-- The text of answers, and the end of the last game behind it.
use Rattle.std.proofs.Common.{◌≡◌, ℕ, List, [], inr, Bool, refl, sym, subst}
use Rattle.std.proofs.lemmas.List.{append-nil}
use Rattle.riichi_hand.specs.Rules.{Rules}
use Rattle.desk_io.specs.declared.sink.Sink.{Ghosts as OfSink}
use Rattle.desk_io.specs.declared.source.Source.{Ghosts as OfSource}
use Rattle.desk_lines.specs.declared.report.DeskReport.{DeskReport}
use Rattle.desk_lines.specs.Lines.{lines}
use Rattle.desk_lines.specs.Streams.{GivesAll, WritesAll, StopsWriting}
use Rattle.desk_lines.specs.Telling.{text_of, with_line_feed}
use Rattle.desk_lines.proofs.StreamLemmas.{WritesAll-trans, StopsWriting-after}
use Rattle.desk_lines.proofs.TellingLemmas.{text_of_more}
use Rattle.desk_games.specs.Desks.{told_at_end}
use Rattle.desk_games.specs.Streams.{OfLines, games_answers, TellsGames, TellsFront}
use Rattle.desk_games.specs.declared.desk.GameDesk.{GameDesk}
use Rattle.desk_games.specs.declared.desk.GameDesk.TheVariants.{NoGame}
use Rattle.desk_games.specs.declared.form.GamesForm.{GamesForm}
use Rattle.desk_games.specs.declared.games.Games.{Games}

module _ {W : Type 0} (sink : OfSink W) (start old new : W) (form : GamesForm) (answers : List (List ℕ)) (last : GameDesk) where
  -- the answers were written, and then the end of the last game
  pub written_with_end : WritesAll sink start old (text_of answers) → WritesAll sink old new (with_line_feed (told_at_end form last)) → WritesAll sink start new (games_answers form answers last)
  written_with_end first then =
      subst (λ (text : List ℕ). WritesAll sink start new text) (sym (text_of_more answers (told_at_end form last))) (WritesAll-trans sink start old new (text_of answers) (with_line_feed (told_at_end form last)) first then)

  -- the answers were written, and then the writing of the end stopped
  pub stops_at_end : WritesAll sink start old (text_of answers) → StopsWriting sink old new (with_line_feed (told_at_end form last)) → StopsWriting sink start new (games_answers form answers last)
  stops_at_end first then =
      subst (λ (text : List ℕ). StopsWriting sink start new text) (sym (text_of_more answers (told_at_end form last))) (StopsWriting-after sink start old new (text_of answers) (with_line_feed (told_at_end form last)) first then)

-- what a new teller told
pub from_none : (Told : Bool → GamesForm → Rules → GameDesk → Type 0) (first : Games) (is_numbered : Bool) (form : GamesForm) (given : Rules) → first.given ≡ given → first.is_numbered ≡ is_numbered → first.form ≡ form → first.desk ≡ NoGame
    → Told first.is_numbered first.form first.given first.desk → Told is_numbered form given NoGame
from_none Told first is_numbered form given given_is numbered_is form_is none told =
    subst (λ (d : GameDesk). Told is_numbered form given d) none
    (subst (λ (rules : Rules). Told is_numbered form rules first.desk) given_is
    (subst (λ (how : GamesForm). Told is_numbered how first.given first.desk) form_is
    (subst (λ (b : Bool). Told b first.form first.given first.desk) numbered_is told)))

module _ {R W : Type 0} (source : OfSource R) (sink : OfSink W) (form : GamesForm) (Answered : OfLines) (reader read : R) (writer then written : W) (text : List ℕ) (answers : List (List ℕ)) (report : DeskReport) (last : GameDesk) where
  pub tells_games : GivesAll source reader read text → Answered (lines text) answers report last → WritesAll sink writer then (text_of answers)
      → WritesAll sink then written (with_line_feed (told_at_end form last)) → TellsGames source sink form Answered reader read writer written report last
  tells_games all answered first behind = record {
    text = text;
    answers = answers;
    gives = all;
    answered = answered;
    writes = written_with_end sink writer then written form answers last first behind;
  }

  pub tells_to_end : GivesAll source reader read text → Answered (lines text) answers report last → WritesAll sink writer then (text_of answers)
      → StopsWriting sink then written (with_line_feed (told_at_end form last)) → TellsFront source sink form Answered reader read writer written
  tells_to_end all answered first behind = record {
    text = text;
    whole = lines text;
    first = lines text;
    others = [];
    answers = answers;
    report = report;
    last = last;
    gives = all.gives;
    are_whole = inr (all.ended, refl);
    parts = sym (append-nil (lines text));
    answered = answered;
    stops = inr (all, refl, stops_at_end sink writer then written form answers last first behind);
  }
