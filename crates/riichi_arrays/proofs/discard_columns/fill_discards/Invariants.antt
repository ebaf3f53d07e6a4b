use Rattle.riichi_arrays.specs.Columns.{IsFilled, shape_of_row, discards_by}
use Rattle.riichi_arrays.proofs.discard_columns.fill_discards.Given as goal

abbrev pub invariant-loop-row : goal.invariant-loop-row
invariant-loop-row g l = record {
  shantens : IsFilled (λ row. (discards_by (shape_of_row l.hands row)).shanten) l.row l.fn.shantens l.shantens;
  kinds : IsFilled (λ row. (discards_by (shape_of_row l.hands row)).kinds) l.row l.fn.kinds l.kinds;
  accepts : IsFilled (λ row. (discards_by (shape_of_row l.hands row)).accepts) l.row l.fn.accepts l.accepts;
  live : IsFilled (λ row. (discards_by (shape_of_row l.hands row)).live) l.row l.fn.live l.live;
}
