-- What four numbers of a row say, one for each player in the order of their first seats.
use Rattle.std.specs.Prelude.{ℕ, ◌==◌, not, nat_lt, Bool, List, [], ◌∷◌, Option, Some, None, if◌then◌else◌, slice_index_or}
use Rattle.riichi_table.specs.declared.player.Player.{Player}
use Rattle.riichi_table.specs.declared.player.Player.TheVariants.{First, Second, Third, Fourth}
use Rattle.riichi_table.specs.declared.player.ByPlayer.{ByPlayer}

abbrev pub player_numbered : ℕ → Player
player_numbered number = if number == 0 then First else if number == 1 then Second else if number == 2 then Third else Fourth

abbrev pub player_in : ℕ → Option Player
player_in number = if nat_lt number 4 then Some (player_numbered number) else None

-- the first stands for the first player; a place that there is not has the other value
abbrev pub by_player : {T : Type 0} → T → List T → ByPlayer T
by_player other four = record {
  first = slice_index_or four 0 other;
  second = slice_index_or four 1 other;
  third = slice_index_or four 2 other;
  fourth = slice_index_or four 3 other;
}

-- what each player has, in their order
abbrev pub four_of : {T : Type 0} → ByPlayer T → List T
four_of by = by.first ∷ by.second ∷ by.third ∷ by.fourth ∷ []

-- a flag is set where its number isn't 0
abbrev pub is_flag_set : ℕ → Bool
is_flag_set number = not (number == 0)

abbrev pub flags_by_player : List ℕ → ByPlayer Bool
flags_by_player four = record {
  first = is_flag_set (slice_index_or four 0 0);
  second = is_flag_set (slice_index_or four 1 0);
  third = is_flag_set (slice_index_or four 2 0);
  fourth = is_flag_set (slice_index_or four 3 0);
}
