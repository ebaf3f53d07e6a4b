-- What a program is told of a message to a table's book.
use Rattle.std.specs.Prelude.{◌≡◌, ◌⊎◌, ℕ, ◌-◌, List, length, Option, None, Some, codes}
use Rattle.riichi_hand.specs.Rules.{Rules}
use Rattle.desk_hall.specs.Decided.{Request, IsJudged}
use Rattle.desk_hall.specs.Fronts.{first_front}
use Rattle.desk_hall.specs.Playing.{MeetsFault}
use Rattle.desk_hall.specs.declared.judged.Judged.{Judged}
use Rattle.desk_hall_games.specs.Opened.{Opens, OpensNone}
use Rattle.desk_hall_games.specs.Positions.{reads_entry, same_outcome}
use Rattle.desk_hall_games.specs.Rows.{judged_row, row_of_nothing}
use Rattle.desk_hall_games.specs.Texts.{judged_text}
use Rattle.desk_hall_games.specs.declared.position.GamePosition.{GamePosition}
use Rattle.desk_hall_games.specs.declared.row.JudgedRow.{JudgedRow}
use Rattle.riichi_desk_c.specs.Reasons.{IsPlaced}
use Rattle.riichi_desk_c.specs.Replies.{rules_numbered}

-- A text opens as a game and the text of its deals, which are no book's.
pub record HasFault (given : Rules) (text : List ℕ) : Type 0 where
  pub start : GamePosition
  pub deals : List ℕ
  pub opens : Opens given text start deals
  pub fault : MeetsFault reads_entry (first_front start) deals

-- nothing is decided of a text that is no book's
pub record TellsNone (words : List ℕ) (before after : List ℕ) (needed : ℕ) (row : JudgedRow) : Type 0 where
  pub row_is : row ≡ row_of_nothing
  pub placed : IsPlaced words needed before after

-- The text opens as a book, and what the message comes to there is told as numbers and as a text.
pub record TellsJudged (given : Rules) (text : List ℕ) (number : ℕ) (request : Request) (before after : List ℕ) (needed : ℕ) (row : JudgedRow) : Type 0 where
  pub start : GamePosition
  pub deals : List ℕ
  pub opens : Opens given text start deals
  pub judged : Judged GamePosition
  pub is_judged : IsJudged reads_entry same_outcome start deals number request judged
  pub row_is : row ≡ judged_row judged (length text - length deals)
  pub placed : IsPlaced (judged_text number request judged) needed before after

pub data TellsBook (given : Rules) (text : List ℕ) (number : ℕ) (request : Request) (before after : List ℕ) (needed : ℕ) (row : JudgedRow) : Type 0 where
  NoBook : OpensNone given text ⊎ HasFault given text → TellsNone (codes "refused book") before after needed row → TellsBook given text number request before after needed row
  Told : TellsJudged given text number request before after needed row → TellsBook given text number request before after needed row

abbrev pub TellsUnder : Option Rules → List ℕ → ℕ → Request → List ℕ → List ℕ → ℕ → JudgedRow → Type 0
TellsUnder None text number request before after needed row = TellsNone (codes "refused rules") before after needed row
TellsUnder (Some given) text number request before after needed row = TellsBook given text number request before after needed row

-- Of a message to a book so much was told under the rules of this number.
abbrev pub TellsHall : ℕ → List ℕ → ℕ → Request → List ℕ → List ℕ → ℕ → JudgedRow → Type 0
TellsHall number text at request before after needed row = TellsUnder (rules_numbered number) text at request before after needed row
