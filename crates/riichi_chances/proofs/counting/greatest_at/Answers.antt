use Rattle.std.proofs.Common.{List, ℕ, ap, ◌∙◌, get_or, rules}
use Rattle.std.proofs.lemmas.List.{get_or_default}
use Rattle.std.specs.Prelude.{slice_index}
use Rattle.riichi_chances.specs.Aims.{numbers_for}
use Rattle.riichi_chances.specs.Graph.{no_rows, placed_number}
use Rattle.riichi_chances.specs.Rows.{Rows}
use Rattle.riichi_chances.proofs.RowLemmas.{greatest_last, greatest_next}
use Rattle.riichi_chances.proofs.counting.greatest_at.Goals as goal

pub loop-place-preserved : goal.loop-place-preserved
loop-place-preserved c =
    let places = c.args.places.now in
    let at = c.loop-place.place-index in
    record {
      so_far = greatest_next (placed_number c.args.column c.args.earlier.now c.args.left) places at (get_or places at 0) c.loop-place.number c.max-number.result c.args.least _ c.loop-place-test.true (get_or_default places at 0 (get_or places at 0) c.loop-place-test.true)
          (c.number.ensures ∙ get_or_default c.at.result.now c.args.left c.index-at-left.result 0 (search rules) ∙ ap (λ (ns : List ℕ). slice_index ns c.args.left) c.at.ensures ∙ ap (λ (rows : Rows). slice_index (numbers_for c.args.column rows) c.args.left) (c.index-earlier-place.is ∙ get_or_default c.args.earlier.now (get_or places at 0) c.index-earlier-place.result no_rows (c.requires.before at c.loop-place-test.true))) c.max-number.ensures c.loop-place.invariant.so_far;
    }

pub returns : goal.returns
returns c = greatest_last (placed_number c.args.column c.args.earlier.now c.args.left) c.args.places.now c.loop-place.place-index c.loop-place.number c.args.least c.loop-place-test.false c.loop-place.invariant.so_far
