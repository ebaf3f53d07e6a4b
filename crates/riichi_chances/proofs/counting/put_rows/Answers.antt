use Rattle.std.proofs.Common.{◌≡◌, ℕ, ◌<◌, length, take, length-set, length-take-le, sym, subst, ◌∙◌, arith}
use Rattle.riichi_chances.specs.Aims.{HasRows}
use Rattle.riichi_chances.specs.Graph.{AreRows, IsNode, placed_hand}
use Rattle.riichi_chances.proofs.RowLemmas.{node_at, rows_first, rows_more}
use Rattle.riichi_chances.proofs.counting.put_rows.Goals as goal

pub rows_of-requires-clause-node : goal.rows_of-requires-clause-node
rows_of-requires-clause-node c =
    let graph = c.args.graph.now in
    let root = c.requires.graph.0 in
    let place = c.loop-place.place in
    let rows = c.loop-place.rows in
    let inside : c.loop-place.place < length c.args.graph.now.nodes = omega (arith, c.loop-place-test.true, c.len-place-end.ensures) in
    let long : c.loop-place.place ≡ length (take c.loop-place.place c.loop-place.rows) = sym (length-take-le place rows (omega (arith, inside, c.requires.room, c.loop-place.invariant.each))) in (
      root,
      graph.hands,
      subst (λ (n : ℕ). IsNode graph.hands n (placed_hand root graph.hands n) c.node.result.now) long (node_at root graph place c.node.result.now c.requires.graph.1 inside (c.node.ensures c.node.result.now)),
      subst (λ (n : ℕ). AreRows c.args.span root graph.hands n (take place rows)) long (rows_first c.args.span root graph.hands place rows (c.loop-place.invariant.are root c.requires.graph.1)),
    )

pub loop-place-preserved : goal.loop-place-preserved
loop-place-preserved c =
    let graph = c.args.graph.now in
    let place = c.loop-place.place in
    let rows = c.loop-place.rows in
    let inside : c.loop-place.place < length c.args.graph.now.nodes = omega (arith, c.loop-place-test.true, c.len-place-end.ensures) in
    let room : c.loop-place.place < length c.loop-place.rows = omega (arith, inside, c.requires.room, c.loop-place.invariant.each) in
    let long : c.loop-place.place ≡ length (take c.loop-place.place c.loop-place.rows) = sym (length-take-le place rows (omega (arith, room))) in
    record {
      each = length-set rows place c.rows_of.result ∙ c.loop-place.invariant.each;
      are = λ root is.
          rows_more c.args.span root graph.hands rows place c.rows_of.result (c.loop-place.invariant.are root is) room
          (subst (λ (n : ℕ). HasRows c.args.span (placed_hand root graph.hands n) c.rows_of.result) (sym long)
          (c.rows_of.ensures root graph.hands (subst (λ (n : ℕ). IsNode graph.hands n (placed_hand root graph.hands n) c.node.result.now) long (node_at root graph place c.node.result.now is inside (c.node.ensures c.node.result.now)))
          (subst (λ (n : ℕ). AreRows c.args.span root graph.hands n (take place rows)) long (rows_first c.args.span root graph.hands place rows (c.loop-place.invariant.are root is)))));
    }
