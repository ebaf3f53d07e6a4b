use Rattle.std.proofs.Common.{◌≡◌, ◌+◌, ◌-◌, ◌++◌, ap, sym, ◌∙◌, arith}
use Rattle.std.specs.Prelude.{flat_map, string_bytes}
use Rattle.std.specs.List.{range_with_len}
use Rattle.riichi_standings_text.specs.Sheets.{break_before, column_cell, session_cell}
use Rattle.riichi_standings_text.proofs.ColumnLemmas.{columns_more, column_written}
use Rattle.riichi_standings_text.proofs.sheet.Sheet.push_columns.Goals as goal

pub loop-column-preserved : goal.loop-column-preserved
loop-column-preserved c =
    let own = c.args.own.now in
    let name = c.args.self.now.name in
    let columns = c.args.self.now.columns in
    let so_far = flat_map (column_cell name columns own) (range_with_len columns.first (c.loop-column.column - columns.first)) in
    let break = break_before name columns c.loop-column.column in
    column_written (string_bytes c.args.text.now) (string_bytes c.loop-column.text) (string_bytes c.push_break.new.text)
    (flat_map (column_cell name columns own) (range_with_len columns.first ((c.loop-column.column + 1) - columns.first)))
    (string_bytes c.push_session.new.text) so_far break (session_cell c.points.result)
    c.loop-column.invariant c.in_ok-push_break.ensures c.in_ok-push_session.ensures
    (columns_more (column_cell name columns own) columns.first c.loop-column.column (omega arith) ∙ ap (λ points. so_far ++ (break ++ session_cell points)) (sym c.points.ensures))

pub returns : goal.returns
returns c =
    let name = c.args.self.now.name in
    let columns = c.args.self.now.columns in
    let all : c.loop-column.column - columns.first ≡ columns.last + 1 - columns.first = grind (arith, c.loop-column.auto.column-end) in
    c.loop-column.invariant
    ∙ ap (λ count. string_bytes c.args.text.now ++ flat_map (column_cell name columns c.args.own.now) (range_with_len columns.first count)) all
