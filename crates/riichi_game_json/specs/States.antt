-- States of a game as members of an object.
use Rattle.std.specs.Prelude.{List, ℕ, ◌++◌, codes, decimal, ℤ}
use Rattle.riichi_table.specs.Players.{of_player}
use Rattle.riichi_table.specs.declared.player.ByPlayer.{ByPlayer}
use Rattle.riichi_table.specs.declared.state.GameState.{GameState}
use Rattle.riichi_places.specs.Places.{seat_number}
use Rattle.riichi_game_text.specs.Answers.{round_text, signed_text}
use Rattle.riichi_game_json.specs.Strings.{four_values}

abbrev pub round_members : GameState → List ℕ
round_members state = codes "\"round\":\"" ++ round_text state.round ++ (codes "\",\"dealer\":" ++ decimal (seat_number state.dealer))

-- round, dealer, counters and sticks, without a comma before them
abbrev pub table_members : GameState → List ℕ
table_members state =
    round_members state ++ (codes ",\"counters\":" ++ decimal state.counters) ++ (codes ",\"sticks\":" ++ decimal state.sticks)

-- points of each player behind the name of the member
abbrev pub four_points : List ℕ → ByPlayer ℤ → List ℕ
four_points name points = name ++ four_values (λ player. signed_text (of_player points player))

-- the state of a game that isn't over, or that a line took it back to
unfoldable pub stands_members : GameState → List ℕ
stands_members state =
    codes "\"answer\":\"stands\"," ++ table_members state ++ four_points (codes ",\"points\":") state.points ++ codes "}"
