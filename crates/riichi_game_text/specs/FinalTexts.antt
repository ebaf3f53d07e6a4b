-- The texts of the end of a game.
use Rattle.std.specs.Prelude.{ℕ, ◌/◌, ◌%◌, ◌==◌, List, [], ◌++◌, codes, decimal, ℤ, pos, unsigned_abs, int_lt, if◌then◌else◌}
use Rattle.riichi_table.specs.Players.{of_player}
use Rattle.riichi_table.specs.declared.player.ByPlayer.{ByPlayer}
use Rattle.riichi_places.specs.declared.finals.FinalPoints.{FinalPoints}
use Rattle.riichi_game_text.specs.Answers.{of_four, signed_text}

-- `+26.3`, `-5.3` or `0.0`
unfoldable pub thousands_text : ℤ → List ℕ
thousands_text points =
    (if int_lt points (pos 0) then codes "-" else if int_lt (pos 0) points then codes "+" else [])
    ++ decimal (unsigned_abs points / 1000) ++ codes "." ++ decimal (unsigned_abs points % 1000 / 100)

-- `final 1 Dee points 41300`
unfoldable pub place_part_text : List ℕ → FinalPoints → List ℕ
place_part_text name final = codes "final " ++ decimal final.place ++ codes " " ++ name ++ codes " points " ++ signed_text final.points

-- ` bonus +15.0 penalty 0 total +26.3`
unfoldable pub total_text : FinalPoints → List ℕ
total_text final =
    codes " bonus " ++ thousands_text final.bonus ++ codes " penalty " ++ decimal final.penalty ++ codes " total " ++ thousands_text final.total

abbrev pub final_text : List ℕ → FinalPoints → List ℕ
final_text name final = place_part_text name final ++ total_text final

-- the line of a player who has a place, behind the one before it
unfoldable pub line_if_placed : ℕ → List ℕ → FinalPoints → List ℕ
line_if_placed place name final = if final.place == place then codes "\n" ++ final_text name final else []

-- the players who have a place, in the order of their first seats
unfoldable pub placed_text : ByPlayer (List ℕ) → ByPlayer FinalPoints → ℕ → List ℕ
placed_text names finals place = of_four (λ player. line_if_placed place (of_player names player) (of_player finals player))

unfoldable pub sticks_left_text : ℕ → List ℕ
sticks_left_text sticks = if sticks == 0 then [] else codes "\nleft " ++ decimal sticks

-- `over`, a line for the sticks that lie, and a line for each player, by place and then first seat
abbrev pub over_text : ByPlayer (List ℕ) → ℕ → ByPlayer FinalPoints → List ℕ
over_text names sticks finals =
    codes "over" ++ sticks_left_text sticks ++ placed_text names finals 1 ++ placed_text names finals 2
    ++ placed_text names finals 3 ++ placed_text names finals 4
