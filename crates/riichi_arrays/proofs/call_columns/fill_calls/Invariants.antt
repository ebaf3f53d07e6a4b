use Rattle.riichi_arrays.specs.Columns.{IsFilled}
use Rattle.riichi_arrays.specs.Further.{calls_of_row, kinds_told, live_told, melds_told}
use Rattle.riichi_arrays.proofs.call_columns.fill_calls.Given as goal

abbrev pub invariant-loop-row : goal.invariant-loop-row
invariant-loop-row g l = record {
  melds : IsFilled (λ row. melds_told (calls_of_row l.hands l.thrown row)) l.row l.fn.melds l.melds;
  kinds : IsFilled (λ row. kinds_told (calls_of_row l.hands l.thrown row)) l.row l.fn.kinds l.kinds;
  live : IsFilled (λ row. live_told (calls_of_row l.hands l.thrown row)) l.row l.fn.live l.live;
}
