use Rattle.std.proofs.Common.{◌≡◌, ◌+◌, ◌-◌, ◌++◌, ap, sym, ◌∙◌, arith}
use Rattle.std.specs.Prelude.{flat_map, nat_lt, string_bytes}
use Rattle.std.specs.List.{range_with_len}
use Rattle.riichi_standings_text.specs.Objects.{column_value, comma_before, points_or_null}
use Rattle.riichi_standings_text.proofs.ColumnLemmas.{columns_more, column_written}
use Rattle.riichi_standings_text.proofs.json.push_columns.Goals as goal

pub loop-column-preserved : goal.loop-column-preserved
loop-column-preserved c =
    let own = c.args.own.now in
    let columns = c.args.columns.now in
    let so_far = flat_map (column_value columns own) (range_with_len columns.first (c.loop-column.column - columns.first)) in
    let comma = comma_before (nat_lt columns.first c.loop-column.column) in
    column_written (string_bytes c.args.text.now) (string_bytes c.loop-column.text) (string_bytes c.push_comma.new.text)
    (flat_map (column_value columns own) (range_with_len columns.first ((c.loop-column.column + 1) - columns.first)))
    (string_bytes c.push_points_or_null.new.text) so_far comma (points_or_null c.points.result)
    c.loop-column.invariant
    (c.in_ok-push_comma.ensures ∙ ap (λ first. string_bytes c.loop-column.text ++ comma_before (nat_lt first c.loop-column.column)) c.from.ensures)
    c.in_ok-push_points_or_null.ensures
    (columns_more (column_value columns own) columns.first c.loop-column.column (omega arith) ∙ ap (λ points. so_far ++ (comma ++ points_or_null points)) (sym c.points.ensures))

pub returns : goal.returns
returns c =
    let columns = c.args.columns.now in
    let all : c.loop-column.column - columns.first ≡ columns.last + 1 - columns.first = grind (arith, c.loop-column.auto.column-end) in
    c.loop-column.invariant
    ∙ ap (λ count. string_bytes c.args.text.now ++ flat_map (column_value columns c.args.own.now) (range_with_len columns.first count)) all
