use Rattle.riichi_arrays.specs.Columns.{IsFilled, shanten_by, shape_of_row}
use Rattle.riichi_arrays.proofs.shanten_column.fill_shantens.Given as goal

abbrev pub invariant-loop-row : goal.invariant-loop-row
invariant-loop-row g l = IsFilled (λ row. shanten_by (shape_of_row l.hands row)) l.row l.fn.shantens l.shantens
