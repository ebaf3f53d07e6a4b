-- What a text of games is answered.
use Rattle.std.specs.Prelude.{◌≡◌, ℕ, ◌+◌, List, [], ◌∷◌, ◌++◌, map, Bool, true, false, Option, None, Some}
use Rattle.std.specs.List.{cons_option}
use Rattle.riichi_hand.specs.Rules.{Rules}
use Rattle.desk_lines.specs.declared.line_kind.LineKind.{LineKind}
use Rattle.desk_lines.specs.declared.report.DeskReport.{DeskReport}
use Rattle.desk_lines.specs.Telling.{report_of, with_line_feed}
use Rattle.desk_games.specs.Forms.{front_text}
use Rattle.desk_games.specs.Replies.{Reply, AreReplies}
use Rattle.desk_games.specs.declared.desk.GameDesk.{GameDesk}
use Rattle.desk_games.specs.declared.form.GamesForm.{GamesForm}

-- ---- the text of one answer

-- an answer behind what stands before each
abbrev pub behind_front : List ℕ → Option (List ℕ) → Option (List ℕ)
behind_front front None = None
behind_front front (Some answer) = Some (front ++ answer)

-- behind a line with the end of the game before it, which has no number
abbrev pub behind_end : List ℕ → Option (List ℕ) → Option (List ℕ)
behind_end ended None = None
behind_end ended (Some answer) = Some (ended ++ answer)

abbrev pub text_of_reply : Option ℕ → Reply → Option (List ℕ)
text_of_reply number reply = behind_end (with_line_feed reply.ended) (behind_front (front_text reply.form number) reply.answer)

-- A reply was counted so, its answer put behind the text that stood there, and this is the text of games behind it.
pub record PutsReply (number : Option ℕ) (reply : Reply) (kind : LineKind) (before after : List ℕ) (now : GameDesk) : Type 0 where
  pub kind_is : kind ≡ reply.kind
  pub put : after ≡ before ++ with_line_feed (text_of_reply number reply)
  pub desk_is : now ≡ reply.desk

-- ---- the answers to lines

-- the number of a line, where answers are numbered
abbrev pub number_if : Bool → ℕ → Option ℕ
number_if false number = None
number_if true number = Some number

-- the answers of replies, of which the first is that to the line of this number
abbrev pub answers_from : Bool → ℕ → List Reply → List (List ℕ)
answers_from is_numbered number [] = []
answers_from is_numbered number (reply ∷ replies) =
    cons_option (text_of_reply (number_if is_numbered number) reply) (answers_from is_numbered (number + 1) replies)

abbrev pub kind_in : Reply → LineKind
kind_in reply = reply.kind

-- These lines, behind a text of games, have these answers in this form, with the numbers of their lines or without, and are counted so; behind them
-- the text of games is the last one. The first line has the number 1.
pub record AnswersLines (is_numbered : Bool) (form : GamesForm) (given : Rules) (first : GameDesk) (lines answers : List (List ℕ)) (report : DeskReport) (last : GameDesk) : Type 0 where
  pub replies : List Reply
  pub are : AreReplies form given first lines replies last
  pub answers_are : answers ≡ answers_from is_numbered 1 replies
  pub report_is : report ≡ report_of (map kind_in replies)
