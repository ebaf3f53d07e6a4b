-- Laws of texts of games.
use Rattle.std.specs.Prelude.{◌≡◌, ℕ, List, [], ◌∷◌, ◌++◌, Bool, true, false, ◌||◌, Option, None, Some}
use Rattle.std.specs.List.{AllByRecursion, filter_map, list_any}
use Rattle.riichi_hand.specs.Rules.{Rules}
use Rattle.riichi_table.specs.declared.outcome.Outcome.{Outcome}
use Rattle.riichi_game.specs.Games.{first_progress, after_all}
use Rattle.riichi_game.specs.declared.game.Progress.{Progress}
use Rattle.riichi_game_text.specs.GameLines.{GameSaid, game_of, hand_rules_word}
use Rattle.riichi_game_text.specs.TableWords.{IsHandRules}
use Rattle.desk_lines.specs.declared.report.DeskReport.{DeskReport}
use Rattle.desk_lines.specs.Filling.{IsCutBehindLine}
use Rattle.desk_lines.specs.Lines.{lines}
use Rattle.desk_lines.specs.Telling.{both_reports, is_refused}
use Rattle.desk_games.specs.Played.{GameSoFar}
use Rattle.desk_games.specs.Desks.{new_game, held_desk}
use Rattle.desk_games.specs.Replies.{LineOfGame, Odd, Blank, Begins, Undo, Entry, seen_in, Reply, accept, undo_reply, AreReplies}
use Rattle.desk_games.specs.Texts.{AnswersLines}
use Rattle.desk_games.specs.declared.desk.GameDesk.{GameDesk}
use Rattle.desk_games.specs.declared.desk.GameDesk.TheVariants as desk
use Rattle.desk_games.specs.declared.form.GamesForm.{GamesForm}

-- ---- one answer

-- lines behind a text of games have one list of answers, are counted in one way, and leave one text of games
abbrev pub AnswersAreOne : Type 0
AnswersAreOne = (is_numbered : Bool) (form : GamesForm) (given : Rules) (first : GameDesk) (lines one other : List (List ℕ)) (count other_count : DeskReport) (last other_last : GameDesk)
    → AnswersLines is_numbered form given first lines one count last → AnswersLines is_numbered form given first lines other other_count other_last
    → (one ≡ other) × (count ≡ other_count) × (last ≡ other_last)

-- ---- pieces

-- A text of games that is cut behind a line: what its pieces are answered, one behind the other, is what the whole is answered, and both
-- are counted so.
abbrev pub GamesByPieces : Type 0
GamesByPieces = (form : GamesForm) (given : Rules) (first now last : GameDesk) (text front rest : List ℕ) (one other : List (List ℕ)) (count more : DeskReport) → IsCutBehindLine text front rest
    → AnswersLines false form given first (lines front) one count now → AnswersLines false form given now (lines rest) other more last
    → AnswersLines false form given first (lines text) (one ++ other) (both_reports count more) last

-- ---- how far a game has come

abbrev pub is_begin : LineOfGame → Bool
is_begin Odd = false
is_begin Blank = false
is_begin (Begins words) = true
is_begin Undo = false
is_begin Entry = false

-- none of the lines begins a game
abbrev pub BeginNone : List (List ℕ) → Type 0
BeginNone lines = AllByRecursion (λ line. is_begin (seen_in line) ≡ false) lines

abbrev pub is_undo : LineOfGame → Bool
is_undo Odd = false
is_undo Blank = false
is_undo (Begins words) = false
is_undo Undo = true
is_undo Entry = false

-- none of the lines takes another one back
abbrev pub UndoNone : List (List ℕ) → Type 0
UndoNone lines = AllByRecursion (λ line. is_undo (seen_in line) ≡ false) lines

-- the outcomes of the accepted lines
abbrev pub outcomes_in : List Reply → List Outcome
outcomes_in replies = filter_map (λ reply. reply.outcome) replies

abbrev pub refuses : Reply → Bool
refuses reply = is_refused reply.kind

-- by lines of which none begins another game or takes a line back a game comes as far as the outcomes of the accepted ones bring it, one
-- after another
abbrev pub GoesOnByOutcomes : Type 0
GoesOnByOutcomes = (form : GamesForm) (given : Rules) (game : GameSoFar) (lines : List (List ℕ)) (replies : List Reply) (last : GameDesk) → BeginNone lines → UndoNone lines
    → AreReplies form given (desk.Game game) lines replies last
    → (former : Option Progress)
    × (last ≡ desk.Game (record {
      names = game.names;
      rules = game.rules;
      progress = after_all game.progress game.rules (outcomes_in replies);
      former = former;
      is_held = game.is_held || list_any refuses replies;
    }))

-- behind a refused line no line of the game is accepted, where none is taken back
abbrev pub HeldTakesNone : Type 0
HeldTakesNone = (form : GamesForm) (given : Rules) (game : GameSoFar) (lines : List (List ℕ)) (replies : List Reply) (last : GameDesk) → BeginNone lines → UndoNone lines
    → game.is_held ≡ true → AreReplies form given (desk.Game game) lines replies last → outcomes_in replies ≡ []

-- ---- a line that is taken back

-- `undo` behind an accepted line leaves the game as far as it had come before
abbrev pub UndoTakesTheLastBack : Type 0
UndoTakesTheLastBack = (form : GamesForm) (game : GameSoFar) (line : List ℕ) (outcome : Outcome) → game.is_held ≡ false
    → (undo_reply form (accept form game line outcome).desk).desk ≡ desk.Game (record game { former = None })

-- `undo` behind a refused line, and others that were refused for it, leaves the game as it was before the first of them
abbrev pub UndoReleases : Type 0
UndoReleases = (form : GamesForm) (game : GameSoFar) → game.is_held ≡ false → (undo_reply form (held_desk (desk.Game game))).desk ≡ desk.Game game

-- ---- where a game at hand comes from

-- The game began with one of the lines, and none behind that begins another; it has the names and the rules that the line says, and has
-- come as far as the outcomes of the accepted lines behind it bring it.
pub record IsAtHand (form : GamesForm) (given : Rules) (lines : List (List ℕ)) (game : GameSoFar) : Type 0 where
  pub front : List (List ℕ)
  pub line : List ℕ
  pub behind : List (List ℕ)
  pub parts : lines ≡ front ++ line ∷ behind
  pub words : List (List ℕ)
  pub begins : seen_in line ≡ Begins words
  pub others : BeginNone behind
  pub hand : Option Rules
  pub named : IsHandRules given (hand_rules_word words) hand
  pub said : GameSaid
  pub says : game_of hand words ≡ Some said
  pub replies : List Reply
  pub are : AreReplies form given (desk.Game (new_game said)) behind replies (desk.Game game)
  pub names : game.names ≡ said.names
  pub rules : game.rules ≡ said.rules
  pub progress : game.progress ≡ after_all (first_progress said.rules) said.rules (outcomes_in replies)

-- the game that is at hand behind the lines of a text, of which none takes another one back
abbrev pub GameComesFromItsLines : Type 0
GameComesFromItsLines = (is_numbered : Bool) (form : GamesForm) (given : Rules) (lines answers : List (List ℕ)) (report : DeskReport) (game : GameSoFar)
    → UndoNone lines → AnswersLines is_numbered form given desk.NoGame lines answers report (desk.Game game) → IsAtHand form given lines game
