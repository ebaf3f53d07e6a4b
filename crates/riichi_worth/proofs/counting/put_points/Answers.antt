use Rattle.std.proofs.Common.{◌≡◌, ℕ, ◌*◌, ◌<◌, ◌≤◌, List, length, take, length-set, length-take-le, sym, subst, ap, ◌∙◌, arith}
use Rattle.std.specs.Prelude.{slice_index, slice_index_or}
use Rattle.riichi_hand.specs.Hand.{is_thirteen}
use Rattle.riichi_hand.specs.HandParts.{ShapeParts}
use Rattle.riichi_deeper.proofs.DrawnLemmas.{is_thirteen_by}
use Rattle.riichi_chances.specs.Graph.{LeadBefore, draws_in, placed_hand}
use Rattle.riichi_chances.specs.declared.node.Draw.{Draw}
use Rattle.riichi_chances.proofs.RowLemmas.{live_few, node_at}
use Rattle.riichi_worth.specs.CountedPoints.{prizes_of}
use Rattle.riichi_worth.specs.Rows.{begun_points}
use Rattle.riichi_worth.proofs.PlacedLemmas.{begin_few, begun_fits, far_gains, gains, has_points, ready_gains, rows_first, rows_more}
use Rattle.riichi_worth.proofs.counting.put_points.Goals as goal
use Rattle.riichi_worth.proofs.counting.put_points.Goals.{then-node, else-node}

pub prizes-requires : goal.prizes-requires
prizes-requires g c =
    let graph = c.args.graph.now in
    let asked = c.args.asked.now in
    let place = c.loop-place.place in
    let inside : c.loop-place.place < length c.args.graph.now.nodes = omega (arith, c.loop-place-test.true, c.len-place-end.ensures) in
    let is = node_at asked graph place c.node-node.result.now c.requires.graph inside (c.node-node.ensures c.node-node.result.now) in
    record { thirteen = ap (λ (parts : ShapeParts). is_thirteen parts.tiles parts.melds) c.hand-hand.ensures ∙ is_thirteen_by (placed_hand asked graph.hands place).tiles asked.melds is.whole.thirteen }

pub begun-begun-requires-clause-before : goal.begun-begun-requires-clause-before
begun-begun-requires-clause-before g c =
    let graph = c.args.graph.now in
    let place = c.loop-place.place in
    let rows = c.loop-place.rows in
    let inside : c.loop-place.place < length c.args.graph.now.nodes = omega (arith, c.loop-place-test.true, c.len-place-end.ensures) in
    let is = node_at c.args.asked.now graph place c.node-node.result.now c.requires.graph inside (c.node-node.ensures c.node-node.result.now) in
    let long : c.loop-place.place ≡ length (take c.loop-place.place c.loop-place.rows) = sym (length-take-le place rows (omega (arith, inside, c.requires.room, c.loop-place.invariant.each))) in
    subst (λ (n : ℕ). LeadBefore n c.as_slice.result.now) long (subst (λ (draws : List Draw). LeadBefore place draws) (sym c.as_slice.ensures) is.before)

pub begun-begun-requires-clause-fits : goal.begun-begun-requires-clause-fits
begun-begun-requires-clause-fits g c = λ left low.
    (let graph = c.args.graph.now in
    let asked = c.args.asked.now in
    let place = c.loop-place.place in
    let rows = c.loop-place.rows in
    let inside : c.loop-place.place < length c.args.graph.now.nodes = omega (arith, c.loop-place-test.true, c.len-place-end.ensures) in
    let is = node_at asked graph place c.node-node.result.now c.requires.graph inside (c.node-node.ensures c.node-node.result.now) in
    let first = rows_first c.args.stakes.now c.args.span asked graph.hands place rows c.loop-place.invariant.are in
    omega (arith, ap (begun_points (take place rows) left) c.as_slice.ensures, begun_fits c.args.stakes.now c.args.span c.requires.unseen asked graph.hands place c.node-node.result.now is c.if-node.false (take place rows) first c.requires.turns left low))

pub follow-requires-clause-live : goal.follow-requires-clause-live
follow-requires-clause-live g c =
    let graph = c.args.graph.now in
    let place = c.loop-place.place in
    let inside : c.loop-place.place < length c.args.graph.now.nodes = omega (arith, c.loop-place-test.true, c.len-place-end.ensures) in
    let is = node_at c.args.asked.now graph place c.node-node.result.now c.requires.graph inside (c.node-node.ensures c.node-node.result.now) in
    live_few graph.hands place (placed_hand c.args.asked.now graph.hands place) c.node-node.result.now is

-- what begins with an accepted kind
each_gain : goal.follow-requires-clause-few
each_gain g c = λ left low.
    (let graph = c.args.graph.now in
    let asked = c.args.asked.now in
    let place = c.loop-place.place in
    let rows = c.loop-place.rows in
    let inside : c.loop-place.place < length c.args.graph.now.nodes = omega (arith, c.loop-place-test.true, c.len-place-end.ensures) in
    let is = node_at asked graph place c.node-node.result.now c.requires.graph inside (c.node-node.ensures c.node-node.result.now) in
    let are_gains : (left : ℕ) → left < c.args.span.turns → slice_index c.if-node.begun left ≡ gains c.args.stakes.now c.args.span (placed_hand c.args.asked.now c.args.graph.now.hands c.loop-place.place) is.whole left =
    elim c.if-node.branch [
      | then-node w ↦
          ready_gains c.args.stakes.now c.args.span c.requires.unseen asked graph.hands place c.node-node.result.now is w.if-node.true w.prizes.result (w.prizes.ensures.value ∙ ap (prizes_of c.args.stakes.now) w.hand-hand.ensures) c.all_draws-all.result c.if-node.begun c.all_draws-all.ensures
          (λ l small. ap (λ (begun : List ℕ). slice_index begun l) w.begun-is ∙ w.won-begun.ensures l small)
      | else-node w ↦ (λ l small.
          ap (λ (begun : List ℕ). slice_index begun l) w.begun-is ∙ w.begun-begun.ensures l small ∙ ap (begun_points (take place rows) l) w.as_slice.ensures
          ∙ far_gains c.args.stakes.now c.args.span c.requires.unseen asked graph.hands place c.node-node.result.now is w.if-node.false (take place rows) (rows_first c.args.stakes.now c.args.span asked graph.hands place rows c.loop-place.invariant.are) l small)
    ] in
    begin_few c.args.stakes.now c.args.span c.requires.unseen asked graph.hands place c.node-node.result.now is c.if-node.begun are_gains left low)

pub follow-requires-clause-few : goal.follow-requires-clause-few
follow-requires-clause-few g c = each_gain g c

pub loop-place-preserved : goal.loop-place-preserved
loop-place-preserved g c =
    let graph = c.args.graph.now in
    let asked = c.args.asked.now in
    let place = c.loop-place.place in
    let rows = c.loop-place.rows in
    let inside : c.loop-place.place < length c.args.graph.now.nodes = omega (arith, c.loop-place-test.true, c.len-place-end.ensures) in
    let room : c.loop-place.place < length c.loop-place.rows = omega (arith, inside, c.requires.room, c.loop-place.invariant.each) in
    let is = node_at asked graph place c.node-node.result.now c.requires.graph inside (c.node-node.ensures c.node-node.result.now) in
    let are_gains : (left : ℕ) → left < c.args.span.turns → slice_index c.if-node.begun left ≡ gains c.args.stakes.now c.args.span (placed_hand c.args.asked.now c.args.graph.now.hands c.loop-place.place) is.whole left =
    elim c.if-node.branch [
      | then-node w ↦
          ready_gains c.args.stakes.now c.args.span c.requires.unseen asked graph.hands place c.node-node.result.now is w.if-node.true w.prizes.result (w.prizes.ensures.value ∙ ap (prizes_of c.args.stakes.now) w.hand-hand.ensures) c.all_draws-all.result c.if-node.begun c.all_draws-all.ensures
          (λ l small. ap (λ (begun : List ℕ). slice_index begun l) w.begun-is ∙ w.won-begun.ensures l small)
      | else-node w ↦ (λ l small.
          ap (λ (begun : List ℕ). slice_index begun l) w.begun-is ∙ w.begun-begun.ensures l small ∙ ap (begun_points (take place rows) l) w.as_slice.ensures
          ∙ far_gains c.args.stakes.now c.args.span c.requires.unseen asked graph.hands place c.node-node.result.now is w.if-node.false (take place rows) (rows_first c.args.stakes.now c.args.span asked graph.hands place rows c.loop-place.invariant.are) l small)
    ] in
    let stays : c.if-node.source ≡ c.args.source.now =
    elim c.if-node.branch [
      | then-node w ↦ w.source-is ∙ w.prizes.ensures.stays ∙ c.loop-place.invariant.stays
      | else-node w ↦ w.source-is ∙ c.loop-place.invariant.stays
    ] in
    record {
      each = length-set rows place (record { points = c.follow.result }) ∙ c.loop-place.invariant.each;
      stays = stays;
      are = rows_more c.args.stakes.now c.args.span asked graph.hands rows place (record { points = c.follow.result }) c.loop-place.invariant.are room
          (has_points c.args.stakes.now c.args.span c.requires.unseen asked graph.hands place c.node-node.result.now is c.if-node.begun are_gains c.follow.result c.follow.ensures);
    }
