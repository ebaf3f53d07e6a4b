-- How far a game has come, as a row.
use Rattle.std.specs.Prelude.{nat_lt, ◌&&◌, Bool, pos, Option, Some, None, if◌then◌else◌}
use Rattle.riichi_table.specs.declared.state.GameState.{GameState}
use Rattle.riichi_game.specs.declared.game.Progress.{Progress}
use Rattle.riichi_game.specs.Ends.{round_number}
use Rattle.riichi_places.specs.Places.{seat_number}
use Rattle.riichi_table.specs.Players.{one_where}
use Rattle.riichi_win_arrays.specs.WinRows.{wind_numbered}
use Rattle.riichi_game_rows.specs.Fours.{player_numbered, by_player, four_of, is_flag_set}
use Rattle.riichi_game_rows.specs.declared.state_row.StateRow.{StateRow}
use Rattle.riichi_game_rows.specs.declared.state_row.ProgressRow.{ProgressRow}

-- there are four rounds and four players
abbrev pub is_state : StateRow → Bool
is_state row = nat_lt row.round 4 && nat_lt row.dealer 4

abbrev pub row_state : StateRow → GameState
row_state row = record {
  points = by_player (pos 0) row.points;
  round = wind_numbered row.round;
  dealer = player_numbered row.dealer;
  counters = row.counters;
  sticks = row.sticks;
}

abbrev pub state_in : StateRow → Option GameState
state_in row = if is_state row then Some (row_state row) else None

abbrev pub state_row : GameState → StateRow
state_row state = record {
  points = four_of state.points;
  round = round_number state.round;
  dealer = seat_number state.dealer;
  counters = state.counters;
  sticks = state.sticks;
}

abbrev pub row_progress : ProgressRow → Progress
row_progress row = record { state = row_state row.state; is_over = is_flag_set row.over; penalties = by_player 0 row.penalties }

abbrev pub progress_in : ProgressRow → Option Progress
progress_in row = if is_state row.state then Some (row_progress row) else None

abbrev pub progress_row : Progress → ProgressRow
progress_row progress = record {
  state = state_row progress.state;
  penalties = four_of progress.penalties;
  over = one_where progress.is_over;
}
