use Rattle.std.proofs.Common.{ap, ◌∙◌, get_or}
use Rattle.std.proofs.lemmas.List.{get_or_default}
use Rattle.std.specs.Prelude.{slice_index}
use Rattle.riichi_chances.proofs.RowLemmas.{greatest_last, greatest_next}
use Rattle.riichi_worth.specs.Rows.{no_row, placed_points}
use Rattle.riichi_worth.specs.PointRows.{PointRow}
use Rattle.riichi_worth.proofs.counting.greatest_at.Goals as goal

pub loop-place-preserved : goal.loop-place-preserved
loop-place-preserved c =
    let places = c.args.places.now in
    let at = c.loop-place.place-index in
    record {
      so_far = greatest_next (placed_points c.args.earlier.now c.args.left) places at (get_or places at 0) c.loop-place.points c.max-points.result 0 _ c.loop-place-test.true (get_or_default places at 0 (get_or places at 0) c.loop-place-test.true)
          (c.at.ensures ∙ ap (λ (row : PointRow). slice_index row.points c.args.left) (c.index-earlier-place.is ∙ get_or_default c.args.earlier.now (get_or places at 0) c.index-earlier-place.result no_row (c.requires.before at c.loop-place-test.true))) c.max-points.ensures c.loop-place.invariant.so_far;
    }

pub returns : goal.returns
returns c = greatest_last (placed_points c.args.earlier.now c.args.left) c.args.places.now c.loop-place.place-index c.loop-place.points 0 c.loop-place-test.false c.loop-place.invariant.so_far
