use Rattle.std.proofs.Common.{◌≡◌, ◌-◌, ◌++◌}
use Rattle.std.specs.Prelude.{flat_map, string_bytes}
use Rattle.std.specs.List.{range_with_len}
use Rattle.riichi_standings_text.specs.Sheets.{column_head}
use Rattle.riichi_standings_text.proofs.sheet.Sheet.push_column_heads.Given as goal

-- the heads so far are written
abbrev pub invariant-loop-column : goal.invariant-loop-column
invariant-loop-column l = string_bytes l.text ≡ string_bytes l.initial.text ++ flat_map (column_head l.self.name l.self.columns) (range_with_len l.self.columns.first (l.column - l.self.columns.first))
