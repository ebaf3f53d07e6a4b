-- The last rows of a sheet: places and final points, and lines to be signed.
use Rattle.std.specs.Prelude.{ℕ, ◌==◌, List, [], ◌++◌, codes, decimal, ℤ, pos, if◌then◌else◌}
use Rattle.riichi_table.specs.Players.{by_players, of_player}
use Rattle.riichi_table.specs.declared.player.Player.TheVariants.{First, Second, Third, Fourth}
use Rattle.riichi_table.specs.declared.player.ByPlayer.{ByPlayer}
use Rattle.riichi_places.specs.declared.finals.FinalPoints.{FinalPoints}
use Rattle.riichi_game_sheet.specs.Cells.{left_cell}
use Rattle.riichi_game_sheet.specs.Rows.{sheet_row}
use Rattle.riichi_game_sheet.specs.declared.ends.Part.{Part}
use Rattle.riichi_game_sheet.specs.declared.ends.Part.TheVariants as part
use Rattle.riichi_game_sheet.specs.declared.ends.TheConstants.{SIGNED}
use Rattle.riichi_game_sheet.specs.declared.rows.Written.{Written}
use Rattle.riichi_game_sheet.specs.declared.rows.Written.TheVariants.{Points, Thousands}

-- ---- places and final points

abbrev pub sticks_left : ℕ → List ℕ
sticks_left sticks = if sticks == 0 then [] else codes "sticks left: " ++ decimal sticks

abbrev pub part_shown : FinalPoints → Part → ℤ
part_shown final part.Points = final.points
part_shown final part.Bonus = final.bonus
part_shown final part.Penalty = pos final.penalty
part_shown final part.Total = final.total
part_shown final part.Place = pos final.place

abbrev pub parts : ByPlayer FinalPoints → Part → ByPlayer ℤ
parts finals part = by_players (λ player. part_shown (of_player finals player) part)

-- a row with a part of each of the four
unfoldable pub ended_row : List ℕ → List ℕ → Written → ByPlayer FinalPoints → Part → List ℕ
ended_row label told written finals part = sheet_row label told written (parts finals part) ++ codes "\n"

-- the points with the sticks of the end, what else the final points are made of, and the places; bonus and final points in thousands
unfoldable pub final_rows : ℕ → ByPlayer FinalPoints → List ℕ
final_rows sticks finals =
    ended_row (codes "end") (sticks_left sticks) Points finals part.Points ++ ended_row (codes "bonus") [] Thousands finals part.Bonus
    ++ ended_row (codes "penalty") [] Points finals part.Penalty ++ ended_row (codes "total") [] Thousands finals part.Total
    ++ ended_row (codes "place") [] Points finals part.Place

-- ---- lines to be signed

-- below an empty row
unfoldable pub signature : List ℕ → List ℕ
signature name = codes "\n" ++ left_cell SIGNED name ++ codes "________________________________________"

abbrev pub over_rows : ByPlayer (List ℕ) → ℕ → ByPlayer FinalPoints → List ℕ
over_rows names sticks finals =
    final_rows sticks finals ++ signature (of_player names First) ++ codes "\n" ++ signature (of_player names Second) ++ codes "\n"
    ++ signature (of_player names Third) ++ codes "\n" ++ signature (of_player names Fourth)
