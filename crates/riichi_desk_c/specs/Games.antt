-- What a program is told of a game.
use Rattle.std.specs.Prelude.{◌≡◌, ℕ, List, length, min, ◌&&◌, nat_lt, Option, Some, None, Result, Ok, Err, if◌then◌else◌}
use Rattle.riichi_hand.specs.Rules.{Rules}
use Rattle.riichi_hand.specs.declared.win.By.{By}
use Rattle.riichi_table.specs.declared.outcome.Outcome.{Outcome}
use Rattle.riichi_table.specs.declared.player.Player.{Player}
use Rattle.riichi_table.specs.declared.rules.TableRules.{TableRules}
use Rattle.riichi_table.specs.declared.worth.Worth.{Worth}
use Rattle.riichi_settle.specs.Settled.{moves_of}
use Rattle.riichi_settle.specs.declared.moved.Move.{Move}
use Rattle.riichi_game.specs.Games.{first_progress}
use Rattle.riichi_game.specs.declared.game.Progress.{Progress}
use Rattle.riichi_places.specs.Finals.{finals_of}
use Rattle.riichi_need.specs.Needs.{AreRonNeeds, IsNeed}
use Rattle.riichi_need.specs.declared.need.Needs.{Needs}
use Rattle.riichi_need.specs.declared.question.Question.{Question}
use Rattle.riichi_need.specs.declared.question.Way.TheVariants.{Tsumo}
use Rattle.riichi_win_arrays.specs.declared.win_row.WinRow.{WinRow}
use Rattle.riichi_game_rows.specs.FaultNumbers.{row_fault_number}
use Rattle.riichi_game_rows.specs.FinalRows.{finals_row}
use Rattle.riichi_game_rows.specs.HandRows.{worth_of_row, told_number}
use Rattle.riichi_game_rows.specs.MoveRows.{AreMovesPut, changes_row}
use Rattle.riichi_game_rows.specs.NeedRows.{needs_row, question_in}
use Rattle.riichi_game_rows.specs.Playing.{IsPlayedByRows, accepted_outcome}
use Rattle.riichi_game_rows.specs.StateRows.{progress_in, progress_row}
use Rattle.riichi_game_rows.specs.WorthRows.{counted_base, worth_row}
use Rattle.riichi_game_rows.specs.declared.fault_numbers.RowFault.{RowFault}
use Rattle.riichi_game_rows.specs.declared.final_row.FinalsRow.{FinalsRow}
use Rattle.riichi_game_rows.specs.declared.hand_row.HandFault.{HandFault}
use Rattle.riichi_game_rows.specs.declared.move_row.ChangesRow.{ChangesRow}
use Rattle.riichi_game_rows.specs.declared.move_row.MoveRow.{MoveRow}
use Rattle.riichi_game_rows.specs.declared.need_row.NeedsRow.{NeedsRow}
use Rattle.riichi_game_rows.specs.declared.need_row.QuestionRow.{QuestionRow}
use Rattle.riichi_game_rows.specs.declared.outcome_row.OutcomeRow.{OutcomeRow}
use Rattle.riichi_game_rows.specs.declared.playing.Played.{Played}
use Rattle.riichi_game_rows.specs.declared.state_row.ProgressRow.{ProgressRow}
use Rattle.riichi_game_rows.specs.declared.table_row.TableRow.{TableRow}
use Rattle.riichi_game_rows.specs.declared.worth_row.WorthRow.{WorthRow}
use Rattle.riichi_desk_c.specs.GameTables.{allowed_rules_in}
use Rattle.riichi_desk_c.specs.declared.game_rows.Game.{Game}

-- ---- what the rows of a game say

-- 200 where there are no rules that a table may choose, 201 where the progress says nothing
abbrev pub game_by : Option TableRules → Option Progress → Result Game ℕ
game_by None progress = Err 200
game_by (Some rules) None = Err 201
game_by (Some rules) (Some progress) = Ok (record { rules = rules; progress = progress })

abbrev pub game_in_rows : TableRow → ProgressRow → Result Game ℕ
game_in_rows table progress = game_by (allowed_rules_in table) (progress_in progress)

-- ---- how far a game comes

-- the game before its first deal
abbrev pub IsFirst : Option TableRules → ℕ → ProgressRow → ProgressRow → Type 0
IsFirst None told before after = (told ≡ 200) × (after ≡ before)
IsFirst (Some rules) told before after = (told ≡ 0) × (after ≡ progress_row (first_progress rules))

-- a game goes on by so many rows of outcomes; the fault is that of the next row, or 0
pub record GameGoesOn (game : Game) (rows : List OutcomeRow) (fault accepted : ℕ) (after : ProgressRow) : Type 0 where
  pub played : Played
  pub is_played : IsPlayedByRows game.progress game.rules rows played
  pub fault_is : fault ≡ row_fault_number played.fault
  pub accepted_is : accepted ≡ played.accepted
  pub after_is : after ≡ progress_row played.progress

-- where there is no game, for a fault of this number, no row is accepted
abbrev pub GoesOnBy : Result Game ℕ → List OutcomeRow → ℕ → ℕ → ProgressRow → ProgressRow → Type 0
GoesOnBy (Err number) rows fault accepted before after = (fault ≡ number) × (accepted ≡ 0) × (after ≡ before)
GoesOnBy (Ok game) rows fault accepted before after = GameGoesOn game rows fault accepted after

-- ---- what an outcome moves

-- as many moves as have a place, and what all of them change
abbrev pub AreMovesTold : ℕ → List Move → List MoveRow → List MoveRow → ChangesRow → Type 0
AreMovesTold sticks moves before after changes =
    AreMovesPut (min (length moves) (length before)) moves before after × (changes ≡ changes_row sticks moves)

-- nothing is told of an outcome that is refused
abbrev pub TellsMovesOf : Game → Result Outcome RowFault → ℕ → List MoveRow → List MoveRow → ChangesRow → ChangesRow → Type 0
TellsMovesOf game (Err fault) told before after none changes = (told ≡ row_fault_number (Some fault)) × (after ≡ before) × (changes ≡ none)
TellsMovesOf game (Ok outcome) told before after none changes =
    (told ≡ 0) × AreMovesTold game.progress.state.sticks (moves_of game.progress.state game.rules outcome) before after changes

abbrev pub TellsMoves : Result Game ℕ → OutcomeRow → ℕ → List MoveRow → List MoveRow → ChangesRow → ChangesRow → Type 0
TellsMoves (Err number) row told before after none changes = (told ≡ number) × (after ≡ before) × (changes ≡ none)
TellsMoves (Ok game) row told before after none changes =
    TellsMovesOf game (accepted_outcome game.progress game.rules row) told before after none changes

-- ---- final points

-- what each player has where the game ends there
abbrev pub TellsFinals : Result Game ℕ → ℕ → FinalsRow → FinalsRow → Type 0
TellsFinals (Err number) told before after = (told ≡ number) × (after ≡ before)
TellsFinals (Ok game) told before after =
    (told ≡ 0) × (after ≡ finals_row (finals_of game.rules game.progress.state game.progress.penalties))

-- ---- what a player needs

abbrev pub or_203 : Option Question → Result Question ℕ
or_203 None = Err 203
or_203 (Some question) = Ok question

-- a game that is over has no next deal
abbrev pub asked : Result Game ℕ → QuestionRow → Result Question ℕ
asked (Err number) row = Err number
asked (Ok game) row = if game.progress.is_over then Err 15 else or_203 (question_in game.rules game.progress.state row)

-- the least rows of the table of payments, off each player and by self-draw
pub record AreNeeds (question : Question) (row : NeedsRow) : Type 0 where
  pub needs : Needs
  pub by_ron : AreRonNeeds question needs.by_ron
  pub by_tsumo : IsNeed question Tsumo needs.by_tsumo
  pub row_is : row ≡ needs_row needs

abbrev pub TellsNeeds : Result Question ℕ → ℕ → NeedsRow → NeedsRow → Type 0
TellsNeeds (Err number) told before after = (told ≡ number) × (after ≡ before)
TellsNeeds (Ok question) told before after = (told ≡ 0) × AreNeeds question after

-- ---- what a hand is worth

-- nothing is put where the hand is worth nothing
abbrev pub worth_or : Result Worth HandFault → WorthRow → WorthRow
worth_or (Ok worth) before = worth_row worth
worth_or (Err fault) before = before

abbrev pub TellsWorthOf : Result Worth HandFault → ℕ → WorthRow → WorthRow → Type 0
TellsWorthOf worth told before after = (told ≡ told_number worth) × (after ≡ worth_or worth before)

abbrev pub TellsWorthBy : Game → Option Player → Option By → WinRow → ℕ → WorthRow → WorthRow → Type 0
TellsWorthBy game None by hand told before after = (told ≡ 203) × (after ≡ before)
TellsWorthBy game (Some winner) None hand told before after = (told ≡ 203) × (after ≡ before)
TellsWorthBy game (Some winner) (Some by) hand told before after =
    TellsWorthOf (worth_of_row game.progress.state game.rules winner by hand) told before after

abbrev pub TellsWorth : Result Game ℕ → Option Player → Option By → WinRow → ℕ → WorthRow → WorthRow → Type 0
TellsWorth (Err number) winner by hand told before after = (told ≡ number) × (after ≡ before)
TellsWorth (Ok game) winner by hand told before after = TellsWorthBy game winner by hand told before after

-- ---- base points

-- no hand has more than 255 of either
abbrev pub told_base : Option Rules → Option By → ℕ → ℕ → ℕ
told_base None by han fu = 0
told_base (Some rules) None han fu = 0
told_base (Some rules) (Some by) han fu = if nat_lt han 256 && nat_lt fu 256 then counted_base rules by han fu else 0
