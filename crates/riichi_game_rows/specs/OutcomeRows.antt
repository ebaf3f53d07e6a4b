-- How a deal ended, as a row.
use Rattle.std.specs.Prelude.{ℕ, ◌==◌, ◌&&◌, nat_lt, Bool, List, Option, Some, None, if◌then◌else◌, slice_index_or}
use Rattle.riichi_table.specs.Players.{of_player}
use Rattle.riichi_table.specs.declared.player.Player.{Player}
use Rattle.riichi_table.specs.declared.player.ByPlayer.{ByPlayer}
use Rattle.riichi_table.specs.declared.outcome.Win.{Win}
use Rattle.riichi_table.specs.declared.outcome.Outcome.{Outcome}
use Rattle.riichi_table.specs.declared.outcome.Outcome.TheVariants.{Ron, Tsumo, Draw, Abort, Chombo, Penalty, Stands, End}
use Rattle.riichi_table.specs.declared.state.GameState.{GameState}
use Rattle.riichi_game_rows.specs.Fours.{player_numbered, flags_by_player}
use Rattle.riichi_game_rows.specs.StateRows.{is_state, row_state}
use Rattle.riichi_game_rows.specs.WorthRows.{is_worth_row, no_worth, row_win}
use Rattle.riichi_game_rows.specs.declared.worth_row.WorthRow.{WorthRow}
use Rattle.riichi_game_rows.specs.declared.outcome_row.OutcomeRow.{OutcomeRow}

abbrev pub worth_at : List WorthRow → ℕ → WorthRow
worth_at wins number = slice_index_or wins number no_worth

abbrev pub are_worths : List WorthRow → Bool
are_worths wins = is_worth_row (worth_at wins 0) && is_worth_row (worth_at wins 1) && is_worth_row (worth_at wins 2) && is_worth_row (worth_at wins 3)

-- what each player wins
abbrev pub row_wins : List WorthRow → ByPlayer (Option Win)
row_wins wins = record {
  first = row_win (worth_at wins 0);
  second = row_win (worth_at wins 1);
  third = row_win (worth_at wins 2);
  fourth = row_win (worth_at wins 3);
}

abbrev pub wins_in_rows : List WorthRow → Option (ByPlayer (Option Win))
wins_in_rows wins = if are_worths wins then Some (row_wins wins) else None

-- a self-draw has what its winner wins
abbrev pub tsumo_if_won : Player → Option Win → ByPlayer Bool → Option Outcome
tsumo_if_won winner None riichi = None
tsumo_if_won winner (Some win) riichi = Some (Tsumo winner win riichi)

-- the outcome of the kind with the row's number
abbrev pub outcome_with : OutcomeRow → Player → ByPlayer (Option Win) → GameState → Option Outcome
outcome_with row player wins written =
    if row.kind == 0 then Some (Ron player wins (flags_by_player row.riichi))
    else if row.kind == 1 then tsumo_if_won player (of_player wins player) (flags_by_player row.riichi)
    else if row.kind == 2 then Some (Draw (flags_by_player row.ready) (flags_by_player row.nagashi) (flags_by_player row.riichi))
    else if row.kind == 3 then Some (Abort (flags_by_player row.riichi))
    else if row.kind == 4 then Some (Chombo player)
    else if row.kind == 5 then Some (Penalty player row.points)
    else if row.kind == 6 then Some (Stands written)
    else if row.kind == 7 then Some End
    else None

-- each part says something, whether or not the outcome has it
abbrev pub is_outcome : OutcomeRow → Bool
is_outcome row = nat_lt row.player 4 && are_worths row.wins && is_state row.state

abbrev pub outcome_in : OutcomeRow → Option Outcome
outcome_in row =
    if is_outcome row then outcome_with row (player_numbered row.player) (row_wins row.wins) (row_state row.state) else None
