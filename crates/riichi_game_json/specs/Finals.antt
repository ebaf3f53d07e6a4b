-- The end of a game that is over.
use Rattle.std.specs.Prelude.{ℕ, List, ◌++◌, codes, decimal}
use Rattle.riichi_table.specs.Players.{of_player}
use Rattle.riichi_table.specs.declared.player.ByPlayer.{ByPlayer}
use Rattle.riichi_places.specs.declared.finals.FinalPoints.{FinalPoints}
use Rattle.riichi_game_text.specs.Answers.{signed_text}
use Rattle.riichi_game_json.specs.Strings.{four_values, quoted}

unfoldable pub final_place_members : List ℕ → FinalPoints → List ℕ
final_place_members name final = (codes "{\"name\":" ++ quoted name) ++ (codes ",\"place\":" ++ decimal final.place)

-- the points with the sticks of the end, and the bonus
unfoldable pub held_members : FinalPoints → List ℕ
held_members final = (codes ",\"points\":" ++ signed_text final.points) ++ (codes ",\"bonus\":" ++ signed_text final.bonus)

unfoldable pub penalty_member : FinalPoints → List ℕ
penalty_member final = codes ",\"penalty\":" ++ decimal final.penalty

unfoldable pub total_member : FinalPoints → List ℕ
total_member final = codes ",\"total\":" ++ signed_text final.total

-- what a player has at the end, all in points
unfoldable pub final_json : List ℕ → FinalPoints → List ℕ
final_json name final = final_place_members name final ++ held_members final ++ penalty_member final ++ total_member final ++ codes "}"

-- the sticks that lie, and what each player has, in the order of their numbers
abbrev pub over_members : ByPlayer (List ℕ) → ℕ → ByPlayer FinalPoints → List ℕ
over_members names sticks finals =
    (codes "\"answer\":\"over\",\"left\":" ++ decimal sticks) ++ codes ",\"players\":"
    ++ four_values (λ player. final_json (of_player names player) (of_player finals player)) ++ codes "}"
