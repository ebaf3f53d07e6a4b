use Rattle.std.proofs.Common.{◌≡◌, ◌-◌, ◌++◌}
use Rattle.std.specs.Prelude.{flat_map, string_bytes}
use Rattle.std.specs.List.{range_with_len}
use Rattle.riichi_standings_text.specs.Objects.{column_value}
use Rattle.riichi_standings_text.proofs.json.push_columns.Given as goal

-- the columns so far are written
abbrev pub invariant-loop-column : goal.invariant-loop-column
invariant-loop-column l = string_bytes l.text ≡ string_bytes l.initial.text ++ flat_map (column_value l.columns l.own) (range_with_len l.columns.first (l.column - l.columns.first))
