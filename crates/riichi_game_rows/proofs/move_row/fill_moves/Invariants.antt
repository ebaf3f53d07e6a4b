use Rattle.riichi_game_rows.specs.MoveRows.{AreMovesPut}
use Rattle.riichi_game_rows.proofs.move_row.fill_moves.Given as goal

abbrev pub invariant-loop-place : goal.invariant-loop-place
invariant-loop-place l = AreMovesPut l.place l.moves l.fn.rows l.rows
