use Rattle.std.proofs.Common.{◌≡◌, ◌+◌, ◌-◌, ◌++◌, ap, sym, ◌∙◌, arith, codes}
use Rattle.std.specs.Prelude.{flat_map, string_bytes}
use Rattle.std.specs.List.{range_with_len}
use Rattle.riichi_standings_text.specs.Texts.{column_text, session_points}
use Rattle.riichi_standings_text.proofs.ColumnLemmas.{columns_more, column_written}
use Rattle.riichi_standings_text.proofs.text.push_columns.Goals as goal

pub loop-column-preserved : goal.loop-column-preserved
loop-column-preserved c =
    let own = c.args.own.now in
    let columns = c.args.columns.now in
    let so_far = flat_map (column_text columns own) (range_with_len columns.first (c.loop-column.column - columns.first)) in
    column_written (string_bytes c.args.text.now) (string_bytes c.loop-column.text) (string_bytes c.push_str.new.self)
    (flat_map (column_text columns own) (range_with_len columns.first ((c.loop-column.column + 1) - columns.first)))
    (string_bytes c.push_points_or_dash.new.text) so_far (codes " ") (session_points c.points.result)
    c.loop-column.invariant c.in_ok-push_str.ensures.bytes c.in_ok-push_points_or_dash.ensures
    (columns_more (column_text columns own) columns.first c.loop-column.column (omega arith) ∙ ap (λ points. so_far ++ (codes " " ++ session_points points)) (sym c.points.ensures))

pub returns : goal.returns
returns c =
    let columns = c.args.columns.now in
    let all : c.loop-column.column - columns.first ≡ columns.last + 1 - columns.first = grind (arith, c.loop-column.auto.column-end) in
    c.loop-column.invariant
    ∙ ap (λ count. string_bytes c.args.text.now ++ flat_map (column_text columns c.args.own.now) (range_with_len columns.first count)) all
