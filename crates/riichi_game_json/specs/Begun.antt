-- The answer to the line that begins a game.
use Rattle.std.specs.Prelude.{ℕ, List, [], ◌++◌, codes, decimal, Option, None, Some}
use Rattle.riichi_table.specs.Players.{of_player}
use Rattle.riichi_game_text.specs.GameLines.{GameSaid}
use Rattle.riichi_game_json.specs.Strings.{four_values, quoted}

-- a number behind the name of its member, where it is said
abbrev pub number_member : List ℕ → Option ℕ → List ℕ
number_member name None = []
number_member name (Some number) = name ++ decimal number

-- the names, the points that each begins with, and where the game stands in a tournament
abbrev pub begun_members : GameSaid → List ℕ
begun_members said =
    codes "\"answer\":\"game\",\"names\":" ++ four_values (λ player. quoted (of_player said.names player))
    ++ (codes ",\"start\":" ++ decimal said.rules.start)
    ++ number_member (codes ",\"session\":") said.session ++ number_member (codes ",\"at\":") said.at ++ codes "}"
