-- What players have at the end, as rows.
use Rattle.std.specs.Prelude.{[], ◌∷◌}
use Rattle.riichi_table.specs.declared.player.ByPlayer.{ByPlayer}
use Rattle.riichi_places.specs.declared.finals.FinalPoints.{FinalPoints}
use Rattle.riichi_game_rows.specs.declared.final_row.FinalRow.{FinalRow}
use Rattle.riichi_game_rows.specs.declared.final_row.FinalsRow.{FinalsRow}

abbrev pub final_row : FinalPoints → FinalRow
final_row final = record {
  points = final.points;
  bonus = final.bonus;
  total = final.total;
  penalty = final.penalty;
  place = final.place;
}

-- a row for each player, in the order of their first seats
abbrev pub finals_row : ByPlayer FinalPoints → FinalsRow
finals_row finals = record {
  players = final_row finals.first ∷ final_row finals.second ∷ final_row finals.third ∷ final_row finals.fourth ∷ [];
}
