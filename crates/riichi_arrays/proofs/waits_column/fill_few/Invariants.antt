use Rattle.riichi_arrays.specs.Columns.{IsFilled, hand_of_row, waits_by}
use Rattle.riichi_arrays.proofs.waits_column.fill_few.Given as goal

abbrev pub invariant-loop-row : goal.invariant-loop-row
invariant-loop-row l = IsFilled (λ row. waits_by (hand_of_row l.hands row)) l.row l.fn.waits l.waits
