-- The lines of a text in memory, whose answers go into a room.
use Rattle.std.specs.Prelude.{◌≡◌, ◌⊎◌, ℕ, ◌+◌, ◌-◌, ◌<◌, ◌≤◌, List, [], ◌∷◌, ◌++◌, length, drop, Option, None, Some}
use Rattle.std.specs.List.{filter_map}
use Rattle.riichi_hand.specs.Rules.{Rules}
use Rattle.desk_lines.specs.Lines.{cut_of, lines}
use Rattle.desk_lines.specs.Profile.{profile_of}
use Rattle.desk_lines.specs.Records.{AnswerKind, AreTold}
use Rattle.desk_lines.specs.Telling.{text_of}

-- A text is cut behind a line: the front ends with a line feed or is empty, or nothing comes behind it.
pub record IsCutBehindLine (text front rest : List ℕ) : Type 0 where
  pub parts : text ≡ front ++ rest
  pub whole : ((cut_of front).rest ≡ []) ⊎ (rest ≡ [])

-- The text begins with this line, and then comes more.
pub record IsFirstLine (text line after : List ℕ) : Type 0 where
  pub front : List ℕ
  pub cut : IsCutBehindLine text front after
  pub line_is : lines front ≡ line ∷ []
  pub shorter : length after < length text

-- The first line of a text may have an answer that is too long, with its line feed, for so many bytes.
pub record HasNoRoom (Answers : AnswerKind) (rules : Rules) (left : ℕ) (text : List ℕ) : Type 0 where
  pub line : List ℕ
  pub others : List (List ℕ)
  pub lines_are : lines text ≡ line ∷ others
  pub answer : List ℕ
  pub is_told : Answers rules line (Some answer)
  pub is_longer : left < length answer + 1

-- The front of a text is answered, and the answers fill the front of a room, each with its line feed. What follows is no
-- text, or begins with a line whose answer has no room.
pub record Fills (Answers : AnswerKind) (rules : Rules) (text before after : List ℕ) (taken filled : ℕ) : Type 0 where
  pub front : List ℕ
  pub rest : List ℕ
  pub cut : IsCutBehindLine text front rest
  pub taken_is : taken ≡ length front
  pub told : List (List ℕ)
  pub are_told : AreTold Answers rules (lines front) told
  pub filled_is : filled ≡ length (text_of told)
  pub is_within : filled ≤ length before
  pub room_is : after ≡ text_of told ++ drop filled before
  pub stops : (rest ≡ []) ⊎ HasNoRoom Answers rules (length before - filled) rest

-- ---- the law

-- the answers of a function to the lines of a text, as they are written; a line that would set a profile is a record
abbrev pub replies_by : (List ℕ → Option (List ℕ)) → List ℕ → List ℕ
replies_by answer text = text_of (filter_map answer (lines text))

-- no profile is set by the first line of a text
abbrev pub SetsNone : List ℕ → Type 0
SetsNone text = (line : List ℕ) (others : List (List ℕ)) → lines text ≡ line ∷ others → profile_of line ≡ None
