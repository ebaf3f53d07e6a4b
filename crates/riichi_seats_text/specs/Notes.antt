-- What is said of the games of sessions, as notes.
use Rattle.std.specs.Prelude.{ℕ, List, [], ◌∷◌, ◌++◌, codes, decimal}
use Rattle.std.specs.List.{flat_map, range_with_len}
use Rattle.riichi_seats.specs.Counts.{repeated_pairs, seat_counts}
use Rattle.riichi_seats.specs.declared.table.Table.{Table}
use Rattle.riichi_seats.specs.declared.counts.Repeated.{Repeated}
use Rattle.riichi_seats.specs.declared.counts.SeatCounts.{SeatCounts}
use Rattle.riichi_seats_text.specs.Games.{player_name}

-- `# Anna and Bo meet 2 times`
unfoldable pub pair_line : List (List ℕ) → Repeated → List ℕ
pair_line names pair =
    codes "# " ++ player_name names pair.one ++ codes " and " ++ player_name names pair.other ++ codes " meet " ++ decimal pair.times ++ codes " times\n"

-- a line for each pair, or that there is none
abbrev pub pairs_text : List (List ℕ) → List Repeated → List ℕ
pairs_text names [] = codes "# no two meet twice\n"
pairs_text names (pair ∷ pairs) = flat_map (pair_line names) (pair ∷ pairs)

-- ` 2 1 1 1`
unfoldable pub counts_text : SeatCounts → List ℕ
counts_text counts =
    codes " " ++ decimal counts.east ++ codes " " ++ decimal counts.south ++ codes " " ++ decimal counts.west ++ codes " " ++ decimal counts.north

-- `# seats Anna 2 1 1 1`
unfoldable pub seats_line : List (List ℕ) → List Table → ℕ → List ℕ
seats_line names games player = codes "# seats " ++ player_name names player ++ counts_text (seat_counts games player) ++ codes "\n"

-- a line for each of so many players
abbrev pub seats_text : List (List ℕ) → List Table → ℕ → List ℕ
seats_text names games players = flat_map (seats_line names games) (range_with_len 0 players)

-- the pairs that meet more than once, and the seats of each player
abbrev pub notes_text : List (List ℕ) → List Table → ℕ → List ℕ
notes_text names games players = pairs_text names (repeated_pairs games players) ++ seats_text names games players
