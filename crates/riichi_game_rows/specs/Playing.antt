-- How far a game goes by rows of outcomes.
use Rattle.std.specs.Prelude.{◌≡◌, ◌<◌, ◌≤◌, ℕ, List, length, take, Option, Some, None, Result, Ok, Err, slice_get}
use Rattle.std.specs.List.{filter_map}
use Rattle.riichi_table.specs.declared.rules.TableRules.{TableRules}
use Rattle.riichi_table.specs.declared.fault.OutcomeFault.{OutcomeFault}
use Rattle.riichi_table.specs.declared.outcome.Outcome.{Outcome}
use Rattle.riichi_game.specs.Faults.{fault_of, next_of}
use Rattle.riichi_game.specs.Games.{after_all}
use Rattle.riichi_game.specs.declared.game.Progress.{Progress}
use Rattle.riichi_game_rows.specs.OutcomeRows.{outcome_in}
use Rattle.riichi_game_rows.specs.declared.fault_numbers.RowFault.{RowFault}
use Rattle.riichi_game_rows.specs.declared.fault_numbers.RowFault.TheVariants.{SaysNothing, Refused}
use Rattle.riichi_game_rows.specs.declared.outcome_row.OutcomeRow.{OutcomeRow}
use Rattle.riichi_game_rows.specs.declared.playing.Played.{Played}

-- ---- one row

-- the fault of an outcome, if it has one
abbrev pub row_fault_of : Option OutcomeFault → Option RowFault
row_fault_of None = None
row_fault_of (Some fault) = Some (Refused fault)

abbrev pub fault_by : Progress → TableRules → Option Outcome → Option RowFault
fault_by progress rules None = Some SaysNothing
fault_by progress rules (Some outcome) = row_fault_of (fault_of progress rules outcome)

-- why a row is refused, or nothing
abbrev pub fault_of_row : Progress → TableRules → OutcomeRow → Option RowFault
fault_of_row progress rules row = fault_by progress rules (outcome_in row)

abbrev pub unless_refused : Option RowFault → Option Outcome → Result Outcome RowFault
unless_refused None (Some outcome) = Ok outcome
unless_refused None None = Err SaysNothing
unless_refused (Some fault) outcome = Err fault

-- the outcome of a row that is accepted
abbrev pub accepted_outcome : Progress → TableRules → OutcomeRow → Result Outcome RowFault
accepted_outcome progress rules row = unless_refused (fault_of_row progress rules row) (outcome_in row)

abbrev pub or_refused : Result Progress OutcomeFault → Result Progress RowFault
or_refused (Ok after) = Ok after
or_refused (Err fault) = Err (Refused fault)

abbrev pub after_by : Progress → TableRules → Option Outcome → Result Progress RowFault
after_by progress rules None = Err SaysNothing
after_by progress rules (Some outcome) = or_refused (next_of progress rules outcome)

-- how far the game has come after a row, or why the row is refused
abbrev pub after_row : Progress → TableRules → OutcomeRow → Result Progress RowFault
after_row progress rules row = after_by progress rules (outcome_in row)

-- ---- many rows

-- how far the game has come after the outcomes of so many rows
abbrev pub progress_at : Progress → TableRules → List OutcomeRow → ℕ → Progress
progress_at progress rules rows number = after_all progress rules (filter_map outcome_in (take number rows))

-- there is no fault where there is no row
abbrev pub fault_there : Progress → TableRules → Option OutcomeRow → Option RowFault
fault_there progress rules None = None
fault_there progress rules (Some row) = fault_of_row progress rules row

-- why the row behind so many is refused, by how far the game has come there; nothing behind the last
abbrev pub fault_behind : Progress → TableRules → List OutcomeRow → ℕ → Option RowFault
fault_behind progress rules rows number = fault_there (progress_at progress rules rows number) rules (slice_get rows number)

-- The game went on by all rows before the first that is refused.
pub record IsPlayedByRows (progress : Progress) (rules : TableRules) (rows : List OutcomeRow) (played : Played) : Type 0 where
  pub some : played.accepted ≤ length rows
  pub none_before : (number : ℕ) → number < played.accepted → fault_behind progress rules rows number ≡ None
  pub fault_is : played.fault ≡ fault_behind progress rules rows played.accepted
  pub all : played.fault ≡ None → played.accepted ≡ length rows
  pub progress_is : played.progress ≡ progress_at progress rules rows played.accepted
