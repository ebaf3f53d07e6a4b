use Rattle.std.proofs.Common.{◌≡◌, ◌+◌, ◌-◌, ◌++◌, ap, ◌∙◌, arith}
use Rattle.std.specs.Prelude.{decimal, flat_map, string_bytes}
use Rattle.std.specs.List.{range_with_len}
use Rattle.riichi_standings_text.specs.Cells.{number_cell}
use Rattle.riichi_standings_text.specs.Sheets.{break_before, column_head}
use Rattle.riichi_standings_text.proofs.ColumnLemmas.{columns_more, column_written}
use Rattle.riichi_standings_text.proofs.sheet.Sheet.push_column_heads.Goals as goal

pub loop-column-preserved : goal.loop-column-preserved
loop-column-preserved c =
    let name = c.args.self.now.name in
    let columns = c.args.self.now.columns in
    let so_far = flat_map (column_head name columns) (range_with_len columns.first (c.loop-column.column - columns.first)) in
    column_written (string_bytes c.args.text.now) (string_bytes c.loop-column.text) (string_bytes c.push_break.new.text)
    (flat_map (column_head name columns) (range_with_len columns.first ((c.loop-column.column + 1) - columns.first)))
    (string_bytes c.push_count_cell.new.text) so_far (break_before name columns c.loop-column.column) (number_cell 8 (decimal c.loop-column.column))
    c.loop-column.invariant c.in_ok-push_break.ensures c.in_ok-push_count_cell.ensures
    (columns_more (column_head name columns) columns.first c.loop-column.column (omega arith))

pub returns : goal.returns
returns c =
    let name = c.args.self.now.name in
    let columns = c.args.self.now.columns in
    let all : c.loop-column.column - columns.first ≡ columns.last + 1 - columns.first = grind (arith, c.loop-column.auto.column-end) in
    c.loop-column.invariant
    ∙ ap (λ count. string_bytes c.args.text.now ++ flat_map (column_head name columns) (range_with_len columns.first count)) all
