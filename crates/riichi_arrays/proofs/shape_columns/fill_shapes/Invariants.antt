use Rattle.riichi_arrays.specs.Columns.{IsFilled, shape_of_row, shape_by}
use Rattle.riichi_arrays.proofs.shape_columns.fill_shapes.Given as goal

abbrev pub invariant-loop-row : goal.invariant-loop-row
invariant-loop-row g l = record {
  shantens : IsFilled (λ row. (shape_by (shape_of_row l.hands row)).shanten) l.row l.fn.shantens l.shantens;
  accepts : IsFilled (λ row. (shape_by (shape_of_row l.hands row)).accepts) l.row l.fn.accepts l.accepts;
  live : IsFilled (λ row. (shape_by (shape_of_row l.hands row)).live) l.row l.fn.live l.live;
}
