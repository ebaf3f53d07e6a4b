-- A text of games over streams.
use Rattle.std.specs.Prelude.{◌≡◌, ◌⊎◌, ℕ, List, ◌++◌}
use Rattle.desk_io.specs.declared.sink.Sink.{Ghosts as OfSink}
use Rattle.desk_io.specs.declared.source.Source.{Ghosts as OfSource}
use Rattle.desk_lines.specs.declared.report.DeskReport.{DeskReport}
use Rattle.desk_lines.specs.Lines.{ended_lines, lines}
use Rattle.desk_lines.specs.Streams.{Gives, GivesAll, WritesAll, StopsWriting, AreWhole}
use Rattle.desk_lines.specs.Telling.{answers_in, text_of}
use Rattle.desk_games.specs.Desks.{told_at_end}
use Rattle.desk_games.specs.declared.desk.GameDesk.{GameDesk}
use Rattle.desk_games.specs.declared.form.GamesForm.{GamesForm}

-- what is written of the answers to all lines of a text, and of the end of its last game
abbrev pub games_answers : GamesForm → List (List ℕ) → GameDesk → List ℕ
games_answers form answers last = text_of (answers ++ answers_in (told_at_end form last))

-- that lines have these answers, are counted so, and leave this text of games
abbrev pub OfLines : Type 1
OfLines = List (List ℕ) → List (List ℕ) → DeskReport → GameDesk → Type 0

-- The reader gave a text to its end, and the answers to its lines were written, and the end of its last game.
pub record TellsGames {R W : Type 0} (source : OfSource R) (sink : OfSink W) (form : GamesForm) (Answered : OfLines) (reader read : R) (writer written : W) (report : DeskReport) (last : GameDesk) : Type 0 where
  pub text : List ℕ
  pub answers : List (List ℕ)
  pub gives : GivesAll source reader read text
  pub answered : Answered (lines text) answers report last
  pub writes : WritesAll sink writer written (games_answers form answers last)

-- The reader gave a text, and the answers to its lines that had ended were written.
pub record TellsEnded {R W : Type 0} (source : OfSource R) (sink : OfSink W) (form : GamesForm) (Answered : OfLines) (reader read : R) (writer written : W) : Type 0 where
  pub text : List ℕ
  pub answers : List (List ℕ)
  pub report : DeskReport
  pub last : GameDesk
  pub gives : Gives source reader read text
  pub answered : Answered (ended_lines text) answers report last
  pub writes : WritesAll sink writer written (text_of answers)

-- Of the whole lines that the reader gave the first were answered, and the writer failed at their answers; or they were all lines of its
-- text, and it failed at these answers and the end of the last game.
pub record TellsFront {R W : Type 0} (source : OfSource R) (sink : OfSink W) (form : GamesForm) (Answered : OfLines) (reader read : R) (writer written : W) : Type 0 where
  pub text : List ℕ
  pub whole : List (List ℕ)
  pub first : List (List ℕ)
  pub others : List (List ℕ)
  pub answers : List (List ℕ)
  pub report : DeskReport
  pub last : GameDesk
  pub gives : Gives source reader read text
  pub are_whole : AreWhole (source.is_ended read) text whole
  pub parts : whole ≡ first ++ others
  pub answered : Answered first answers report last
  pub stops : StopsWriting sink writer written (text_of answers)
      ⊎ (GivesAll source reader read text × (first ≡ lines text) × StopsWriting sink writer written (games_answers form answers last))
