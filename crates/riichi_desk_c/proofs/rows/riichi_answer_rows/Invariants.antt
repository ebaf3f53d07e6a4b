use Rattle.std.proofs.Common.{◌≡◌, ℕ, ◌+◌, ◌<◌, ◌≤◌, ◌++◌, length, drop}
use Rattle.riichi_arrays.specs.Columns.{IsFilled}
use Rattle.riichi_desk_c.specs.Rows.{IsAnswerRow, answer_place, replies_to}
use Rattle.riichi_desk_c.proofs.rows.riichi_answer_rows.Given as goal

abbrev pub invariant-loop-row : goal.invariant-loop-row
invariant-loop-row l = record {
  are_rows : (row : ℕ) → row < l.row → IsAnswerRow l.bytes l.offsets row;
  filled : l.filled ≡ answer_place l.rules l.bytes l.offsets l.row;
  fits : l.filled ≤ length l.fn.room;
  room : l.room ≡ replies_to l.rules l.bytes l.offsets l.row ++ drop l.filled l.fn.room;
  places : IsFilled (answer_place l.rules l.bytes l.offsets) (l.row + 1) l.fn.answer_offsets l.answer_offsets;
}
