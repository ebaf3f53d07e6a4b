-- What each line of a text of games comes to.
use Rattle.std.specs.Prelude.{◌≡◌, ℕ, List, [], ◌∷◌, ◌++◌, codes, Option, None, Some, Result, Ok, Err, if◌then◌else◌, Bool, false}
use Rattle.std.specs.Str.{bytes_eq}
use Rattle.riichi_hand.specs.Rules.{Rules}
use Rattle.riichi_table.specs.Players.{of_player}
use Rattle.riichi_table.specs.declared.outcome.Outcome.{Outcome}
use Rattle.riichi_table.specs.declared.outcome.Outcome.TheVariants.{Penalty, End}
use Rattle.riichi_game.specs.Games.{after_one}
use Rattle.riichi_table.specs.declared.state.GameState.{GameState}
use Rattle.riichi_game.specs.declared.game.Progress.{Progress}
use Rattle.riichi_game_text.specs.Answers.{begun_text, deal_text, penalty_text, stands_text}
use Rattle.riichi_game_text.specs.Entries.{outcome_of_entry, is_odd}
use Rattle.riichi_game_text.specs.FaultTexts.{refused_text}
use Rattle.riichi_game_text.specs.GameLines.{GameSaid, game_of, hand_rules_word}
use Rattle.riichi_game_text.specs.TableWords.{IsHandRules}
use Rattle.riichi_game_text.specs.Words.{said_in}
use Rattle.riichi_game_text.specs.declared.fault.GameFault.{GameFault}
use Rattle.riichi_game_text.specs.declared.fault.GameFault.TheVariants.{G1, G2, G3, G4, G14}
use Rattle.desk_lines.specs.declared.line_kind.LineKind.{LineKind}
use Rattle.desk_lines.specs.declared.line_kind.LineKind.TheVariants.{NoRecord, Answered, Refused}
use Rattle.riichi_game_json.specs.Begun.{begun_members}
use Rattle.riichi_game_json.specs.Deals.{outcome_members}
use Rattle.riichi_game_json.specs.Refusals.{refused_members}
use Rattle.riichi_game_json.specs.States.{stands_members}
use Rattle.riichi_game_sheet.specs.Begun.{begun_rows}
use Rattle.riichi_game_sheet.specs.Deals.{outcome_rows, stands_row}
use Rattle.desk_games.specs.Below.{GameStep, below_deal, said_end}
use Rattle.desk_games.specs.Forms.{writing_of, written}
use Rattle.desk_games.specs.Played.{GameSoFar, release, come_back}
use Rattle.desk_games.specs.Desks.{begun_desk, held_desk, is_held_desk, told_at_end}
use Rattle.desk_games.specs.declared.desk.GameDesk.{GameDesk}
use Rattle.desk_games.specs.declared.desk.GameDesk.TheVariants as desk
use Rattle.desk_games.specs.declared.form.GamesForm.{GamesForm}
use Rattle.desk_games.specs.declared.form.Writing.{Writing}
use Rattle.desk_games.specs.declared.form.Writing.TheVariants.{Words, Members, Rows}

-- ---- what a line is, before any game is looked at

pub data LineOfGame : Type 0 where
  Odd : LineOfGame
  Blank : LineOfGame
  Begins : List (List ℕ) → LineOfGame
  Undo : LineOfGame
  Entry : LineOfGame

-- the word `undo` stands alone
abbrev pub says_undo : List ℕ → List (List ℕ) → Bool
says_undo first [] = bytes_eq first (codes "undo")
says_undo first (word ∷ words) = false

abbrev pub line_of_words : List (List ℕ) → LineOfGame
line_of_words [] = Blank
line_of_words (first ∷ words) = if bytes_eq first (codes "game") then Begins words else if says_undo first words then Undo else Entry

-- A line may be odd. Else it has no words; or its first word is `game` and these words stand behind it; or it is the word `undo`; or it
-- says something else.
abbrev pub seen_in : List ℕ → LineOfGame
seen_in line = if is_odd line then Odd else line_of_words (said_in line)

-- ---- what a line comes to

-- The form of the answers; how the game before a line ended, where the line begins another; the answer to the line itself, where it has
-- one, without what stands before each; the outcome that was accepted, where it is one; how the line counts; and the text of games behind it.
pub record Reply : Type 0 where
  pub form : GamesForm
  pub ended : Option (List ℕ)
  pub answer : Option (List ℕ)
  pub outcome : Option Outcome
  pub kind : LineKind
  pub desk : GameDesk

-- a line without words
abbrev pub blank_reply : GamesForm → GameDesk → Reply
blank_reply form now = record { form = form; ended = None; answer = None; outcome = None; kind = NoRecord; desk = now }

-- in a sheet a refused line has its words as a row
unfoldable pub refused_in : GamesForm → GameFault → List ℕ
refused_in form fault = written (writing_of form) (refused_text fault) (refused_members fault) (refused_text fault)

-- a line is refused, and holds its game; behind a refused line of the same game that is its fault, whatever it says
abbrev pub refusal : GamesForm → GameDesk → GameFault → Reply
refusal form now fault = record {
  form = form;
  ended = None;
  answer = Some (refused_in form (if is_held_desk now then G14 else fault));
  outcome = None;
  kind = Refused;
  desk = held_desk now;
}

unfoldable pub begun_in : GamesForm → GameSaid → List ℕ
begun_in form said = written (writing_of form) (begun_text said.names said.rules.start) (begun_members said) (begun_rows said)

-- a line `game` ends the game before it
abbrev pub begin_reply : GamesForm → GameDesk → Option GameSaid → Reply
begin_reply form now None = record {
  form = form;
  ended = told_at_end form now;
  answer = Some (refused_in form G3);
  outcome = None;
  kind = Refused;
  desk = begun_desk None;
}
begin_reply form now (Some said) = record {
  form = form;
  ended = told_at_end form now;
  answer = Some (begun_in form said);
  outcome = None;
  kind = Answered;
  desk = begun_desk (Some said);
}

-- in words an outcome has its answer, with what stands below it
abbrev pub answer_to_outcome : GamesForm → GameStep → Outcome → Option (List ℕ)
answer_to_outcome form step (Penalty player points) = Some (penalty_text (of_player step.names player) points)
answer_to_outcome form step End = said_end form step
answer_to_outcome form step other = Some (deal_text step.before.state step.after.state.points ++ below_deal form step)

-- in a sheet it has its rows, but for an `end`
abbrev pub rows_of_outcome : GameStep → Outcome → Option (List ℕ)
rows_of_outcome step End = None
rows_of_outcome step other = Some (outcome_rows step.names step.rules step.before.state step.after.state.points other)

abbrev pub outcome_written : Writing → GamesForm → GameStep → Option (List ℕ)
outcome_written Words form step = answer_to_outcome form step step.outcome
outcome_written Members form step = Some (outcome_members step.rules step.before step.after step.outcome)
outcome_written Rows form step = rows_of_outcome step step.outcome

-- the answer to an outcome by how far the game had come before it and has come after it
abbrev pub outcome_answer : GamesForm → GameStep → Option (List ℕ)
outcome_answer form step = outcome_written (writing_of form) form step

abbrev pub step_of : GameSoFar → List ℕ → Outcome → Progress → GameStep
step_of game line outcome after = record {
  names = game.names;
  rules = game.rules;
  before = game.progress;
  after = after;
  outcome = outcome;
  line = line;
}

-- the outcome that a line says brings the game on
abbrev pub accept : GamesForm → GameSoFar → List ℕ → Outcome → Reply
accept form game line outcome =
    let after = after_one game.progress game.rules outcome in record {
      form = form;
      ended = None;
      answer = outcome_answer form (step_of game line outcome after);
      outcome = Some outcome;
      kind = Answered;
      desk = desk.Game (record game { progress = after; former = Some game.progress });
    }

abbrev pub entry_reply : GamesForm → GameSoFar → List ℕ → Result Outcome GameFault → Reply
entry_reply form game line (Err fault) = refusal form (desk.Game game) fault
entry_reply form game line (Ok outcome) = accept form game line outcome

abbrev pub game_reply : GamesForm → GameSoFar → List ℕ → Reply
game_reply form game line =
    if game.is_held then refusal form (desk.Game game) G14
    else entry_reply form game line (outcome_of_entry game.names game.progress game.rules line)

-- ---- where a line is taken back

unfoldable pub stands_told : GamesForm → GameState → List ℕ
stands_told form state = written (writing_of form) (stands_text state) (stands_members state) (stands_row state)

-- the answer is the state that the game is in again
abbrev pub back_reply : GamesForm → GameSoFar → Reply
back_reply form game = record {
  form = form;
  ended = None;
  answer = Some (stands_told form game.progress.state);
  outcome = None;
  kind = Answered;
  desk = desk.Game game;
}

-- the last accepted line, where it wasn't taken back before
abbrev pub last_reply : GamesForm → GameSoFar → Option Progress → Reply
last_reply form game None = refusal form (desk.Game game) G4
last_reply form game (Some before) = back_reply form (come_back game before)

-- the refused line and those behind it, or else the last accepted one
abbrev pub game_undo : GamesForm → GameSoFar → Reply
game_undo form game = if game.is_held then back_reply form (release game) else last_reply form game game.former

abbrev pub undo_reply : GamesForm → GameDesk → Reply
undo_reply form desk.NoGame = refusal form desk.NoGame G2
undo_reply form desk.Refused = refusal form desk.Refused G2
undo_reply form (desk.Game game) = game_undo form game

-- ---- together

-- a line that isn't odd, and whose first word is neither `game` nor a lone `undo`
abbrev pub other_reply : GamesForm → GameDesk → List ℕ → Reply
other_reply form desk.NoGame line = refusal form desk.NoGame G2
other_reply form desk.Refused line = refusal form desk.Refused G2
other_reply form (desk.Game game) line = game_reply form game line

-- By what a line is: of a line `game` the words say the game, and the rules for hands, where these aren't the given ones.
abbrev pub IsReplyTo : GamesForm → Rules → GameDesk → LineOfGame → List ℕ → Reply → Type 0
IsReplyTo form given now Odd line reply = reply ≡ refusal form now G1
IsReplyTo form given now Blank line reply = reply ≡ blank_reply form now
IsReplyTo form given now (Begins words) line reply =
    (hand : Option Rules) × IsHandRules given (hand_rules_word words) hand × (reply ≡ begin_reply form now (game_of hand words))
IsReplyTo form given now Undo line reply = reply ≡ undo_reply form now
IsReplyTo form given now Entry line reply = reply ≡ other_reply form now line

-- what a line comes to behind a text of games, under the given rules for hands
abbrev pub IsReply : GamesForm → Rules → GameDesk → List ℕ → Reply → Type 0
IsReply form given now line reply = IsReplyTo form given now (seen_in line) line reply

-- what lines come to, one after another, and the text of games behind the last
abbrev pub AreReplies : GamesForm → Rules → GameDesk → List (List ℕ) → List Reply → GameDesk → Type 0
AreReplies form given now [] replies last = (replies ≡ []) × (last ≡ now)
AreReplies form given now (line ∷ lines) replies last =
    (reply : Reply) × (others : List Reply) × IsReply form given now line reply
    × (replies ≡ reply ∷ others) × AreReplies form given reply.desk lines others last
