-- What a player has of the results of games.
use Rattle.std.specs.Prelude.{ℕ, ◌==◌, List, Bool, ◌&&◌, int_lt, ℤ, pos, negsuc, ◌+ℤ◌, fold, count_by, if◌then◌else◌}
use Rattle.riichi_standings.specs.declared.result.SeatResult.{SeatResult}
use Rattle.riichi_standings.specs.declared.tally.Tally.{Tally}

abbrev pub is_of : ℕ → SeatResult → Bool
is_of player seat = seat.player == player

-- the final points of a result, where it is the player's
abbrev pub points_for : ℕ → SeatResult → ℤ
points_for player seat = if is_of player seat then seat.points else pos 0

-- the sum of the final points of a player's games
abbrev pub total_points_of : ℕ → List SeatResult → ℤ
total_points_of player results = fold (λ total seat. total +ℤ points_for player seat) (pos 0) results

abbrev pub games_of : ℕ → List SeatResult → ℕ
games_of player results = count_by (is_of player) results

-- how many games the player ended as the first
abbrev pub firsts_of : ℕ → List SeatResult → ℕ
firsts_of player results = count_by (λ seat. is_of player seat && seat.place == 1) results

-- the better of what was best so far and a result of the player's
abbrev pub better_of : ℕ → ℤ → SeatResult → ℤ
better_of player best seat = if is_of player seat && int_lt best seat.points then seat.points else best

-- the most final points that the player has of one game
abbrev pub best_points_of : ℕ → List SeatResult → ℤ
best_points_of player results = fold (better_of player) (negsuc 2147483647) results

abbrev pub results_tally : ℕ → List SeatResult → Tally
results_tally player results = record {
  total = total_points_of player results;
  games = games_of player results;
  firsts = firsts_of player results;
  best = best_points_of player results;
}
