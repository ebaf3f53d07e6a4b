-- The pieces of a text that many threads answer.
use Rattle.std.specs.Prelude.{◌≡◌, ◌≢◌, ◌⊎◌, ℕ, ◌*◌, ◌+◌, ◌-◌, min, List, None, ◌++◌, map, length, take, drop, Bool, if◌then◌else◌, MatchOption}
use Rattle.std.specs.List.{All, Any, concat}
use Rattle.riichi_hand.specs.Rules.{Rules}
use Rattle.desk_lines.specs.declared.tally.Tally.{Tally}
use Rattle.desk_lines.specs.LineAnswers.{report_on}
use Rattle.desk_lines.specs.Lines.{cut_of, ended_lines}
use Rattle.desk_lines.specs.Records.{AnswerKind, AreTold}
use Rattle.desk_lines.specs.Slips.{both_tallies, slip_in, tally_of}
use Rattle.desk_lines.specs.Telling.{text_of}
use Rattle.desk_crew.specs.declared.piece.Piece.{Piece}
use Rattle.desk_crew.specs.declared.rooms.Rooms.{Rooms}
use Rattle.desk_crew.specs.declared.share.Share.{Share}

-- where the piece of a number begins, of pieces of so many bytes
abbrev pub edge : List ℕ → ℕ → ℕ → ℕ
edge text size number = min (number * size) (length text)

-- the lines of a text that end between two places
abbrev pub lines_between : List ℕ → ℕ → ℕ → List (List ℕ)
lines_between text from to = ended_lines ((cut_of (take from text)).rest ++ take (to - from) (drop from text))

-- These texts answer the lines, and this is what they come to.
pub record AreCounted (May : AnswerKind) (rules : Rules) (lines : List (List ℕ)) (text : List ℕ) (tally : Tally) : Type 0 where
  pub told : List (List ℕ)
  pub are_told : AreTold May rules lines told
  pub text_is : text ≡ text_of told
  pub tally_is : tally ≡ tally_of rules lines

-- the lines that end in a piece of a text are answered, where there was memory for that
abbrev pub HasAnswers : AnswerKind → Rules → List ℕ → ℕ → Piece → Type 0
HasAnswers May rules text size piece =
    MatchOption piece.tally (Unit {0}) (AreCounted May rules (lines_between text (edge text size piece.number) (edge text size (piece.number + 1))) piece.answers.items)

-- those of each piece that a thread took
abbrev pub HaveAnswers : AnswerKind → Rules → List ℕ → ℕ → Share → Type 0
HaveAnswers May rules text size share = All (HasAnswers May rules text size) share.pieces.items

-- A thread has nothing for the piece of a number: it did not take it, or had no memory for its answers.
abbrev pub IsWithout : ℕ → Share → Type 0
IsWithout number share =
    All (λ piece. piece.number ≢ number) share.pieces.items ⊎ Any (λ piece. (piece.number ≡ number) × (piece.tally ≡ None)) share.pieces.items

-- the answers in these rooms, one behind another
abbrev pub answers_in_rooms : Rooms → List ℕ
answers_in_rooms rooms = concat (map (λ room. room.items) rooms.rooms.items)

-- This text answers the lines, and they are counted with others.
pub record AreGathered (May : AnswerKind) (rules : Rules) (lines : List (List ℕ)) (text : List ℕ) (tally new : Tally) : Type 0 where
  pub told : List (List ℕ)
  pub are_told : AreTold May rules lines told
  pub text_is : text ≡ text_of told
  pub tally_is : new ≡ both_tallies tally (tally_of rules lines)

-- what the lines of a stream come to, the line that sets its profile too
abbrev pub stream_tally : Rules → List (List ℕ) → Tally
stream_tally given lines = record { counts = report_on given lines; lines = length lines; slip = slip_in lines }

-- the same where the first line was read, and perhaps set the profile
abbrev pub begun_tally : Bool → Tally → Tally
begun_tally sets_profile tally = record { counts = tally.counts; lines = if sets_profile then 1 else tally.lines; slip = tally.slip }
