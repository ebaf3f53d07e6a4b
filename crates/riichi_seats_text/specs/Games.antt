-- The lines of games of sessions.
use Rattle.std.specs.Prelude.{ℕ, ◌+◌, ◌/◌, ◌%◌, List, [], ◌∷◌, ◌++◌, codes, decimal}
use Rattle.std.specs.List.{slice_index_or}
use Rattle.riichi_seats.specs.declared.table.Table.{Table}

-- the name of a player
abbrev pub player_name : List (List ℕ) → ℕ → List ℕ
player_name names player = slice_index_or names player []

-- the four of a table by their first seats
unfoldable pub players_text : List (List ℕ) → Table → List ℕ
players_text names table =
    player_name names table.east ++ codes " " ++ player_name names table.south ++ codes " " ++ player_name names table.west ++ codes " " ++ player_name names table.north

-- words behind those before them
abbrev pub words_behind : List ℕ → List ℕ
words_behind [] = []
words_behind (byte ∷ bytes) = codes " " ++ (byte ∷ bytes)

-- the session and the table of a game by its number from 0 on, where a session has so many tables
unfoldable pub game_place_text : ℕ → ℕ → List ℕ
game_place_text tables number = codes " session=" ++ decimal (number / tables + 1) ++ codes " at=" ++ decimal (number % tables + 1)

unfoldable pub game_line : List (List ℕ) → ℕ → List ℕ → ℕ → Table → List ℕ
game_line names tables words number table =
    codes "game " ++ players_text names table ++ game_place_text tables number ++ words_behind words ++ codes "\n"

-- the games from a number on
abbrev pub games_text : List (List ℕ) → ℕ → List ℕ → ℕ → List Table → List ℕ
games_text names tables words number [] = []
games_text names tables words number (table ∷ games) =
    game_line names tables words number table ++ games_text names tables words (number + 1) games
