-- A progress is read from its row as it was written.
use Rattle.std.proofs.Common.{◌≡◌, Bool, true, false, nat_lt, refl}
use Rattle.riichi_hand.specs.declared.win.Wind.{Wind}
use Rattle.riichi_hand.specs.declared.win.Wind.TheVariants.{East, South, West, North}
use Rattle.riichi_table.specs.Players.{one_where}
use Rattle.riichi_table.specs.declared.player.Player.{Player}
use Rattle.riichi_table.specs.declared.player.Player.TheVariants.{First, Second, Third, Fourth}
use Rattle.riichi_game.specs.Ends.{round_number}
use Rattle.riichi_places.specs.Places.{seat_number}
use Rattle.riichi_win_arrays.specs.WinRows.{wind_numbered}
use Rattle.riichi_game_rows.specs.Fours.{player_numbered, is_flag_set}
use Rattle.riichi_game_rows.specs.Laws.{ProgressIsReadBack}

a_round : (round : Wind) → nat_lt (round_number round) 4 ≡ true
a_round East = refl
a_round South = refl
a_round West = refl
a_round North = refl

the_round : (round : Wind) → wind_numbered (round_number round) ≡ round
the_round East = refl
the_round South = refl
the_round West = refl
the_round North = refl

a_player : (player : Player) → nat_lt (seat_number player) 4 ≡ true
a_player First = refl
a_player Second = refl
a_player Third = refl
a_player Fourth = refl

the_player : (player : Player) → player_numbered (seat_number player) ≡ player
the_player First = refl
the_player Second = refl
the_player Third = refl
the_player Fourth = refl

the_flag : (holds : Bool) → is_flag_set (one_where holds) ≡ holds
the_flag true = refl
the_flag false = refl

pub progress_is_read_back : ProgressIsReadBack
progress_is_read_back progress =
    simp (a_round progress.state.round, a_player progress.state.dealer, the_round progress.state.round, the_player progress.state.dealer, the_flag progress.is_over)
