use Rattle.std.proofs.Common.{◌≡◌, ◌-◌, ◌++◌}
use Rattle.std.specs.Prelude.{flat_map, string_bytes}
use Rattle.std.specs.List.{range_with_len}
use Rattle.riichi_standings_text.specs.Sheets.{column_cell}
use Rattle.riichi_standings_text.proofs.sheet.Sheet.push_columns.Given as goal

-- the cells so far are written
abbrev pub invariant-loop-column : goal.invariant-loop-column
invariant-loop-column l = string_bytes l.text ≡ string_bytes l.initial.text ++ flat_map (column_cell l.self.name l.self.columns l.own) (range_with_len l.self.columns.first (l.column - l.self.columns.first))
