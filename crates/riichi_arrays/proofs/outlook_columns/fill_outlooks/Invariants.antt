use Rattle.riichi_arrays.specs.Columns.{IsFilled, shanten_by}
use Rattle.riichi_arrays.specs.Further.{good_in, outlook_by, second_in, thirteen_of_row}
use Rattle.riichi_arrays.proofs.outlook_columns.fill_outlooks.Given as goal

abbrev pub invariant-loop-row : goal.invariant-loop-row
invariant-loop-row g l = record {
  shantens : IsFilled (λ row. shanten_by (thirteen_of_row l.hands row)) l.row l.fn.shantens l.shantens;
  second : IsFilled (λ row. second_in (outlook_by (thirteen_of_row l.hands row))) l.row l.fn.second l.second;
  good : IsFilled (λ row. good_in (outlook_by (thirteen_of_row l.hands row))) l.row l.fn.good l.good;
}
