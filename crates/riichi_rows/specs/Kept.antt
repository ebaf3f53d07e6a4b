-- The rows that a cache keeps.
use Rattle.std.specs.Prelude.{List, Contains}
use Rattle.riichi_rows.specs.Marks.{IsMarkedRow}
use Rattle.riichi_rows.specs.declared.row.SuitRow.{SuitRow}
use Rattle.riichi_rows.specs.declared.row_key.RowKey.{RowKey}

-- each is the row of its key
pub record AreRows (entries : List (RowKey × SuitRow)) : Type 0 where
  pub each : (key : RowKey) (row : SuitRow) → Contains entries (key, row) → IsMarkedRow key.runs key.counts key.caps row
