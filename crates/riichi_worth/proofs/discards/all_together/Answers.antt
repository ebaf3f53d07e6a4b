use Rattle.std.proofs.Common.{◌≡◌, ◌+◌, ◌<◌, ◌≤◌, List, ℕ, length, refl, sym, ap, subst, ◌∙◌, arith}
use Rattle.riichi_chances.specs.Graph.{discard_kinds, most_hands_in, places_in}
use Rattle.riichi_chances.specs.Reachable.{together}
use Rattle.riichi_chances.proofs.ReachableLemmas.{more_as, none_within, on_err, together_come, together_few}
use Rattle.riichi_worth.specs.Worths.{AreFew, told_at}
use Rattle.riichi_worth.proofs.DiscardLemmas.{as_many, each_after, places_few, told_worths}
use Rattle.riichi_worth.proofs.discards.all_together.Goals as goal

pub places_of-requires-clause-graph : goal.places_of-requires-clause-graph
places_of-requires-clause-graph g c = c.new-graph.ensures.graph c.args.asked.now

pub returns-in_err-left-clause-many : goal.returns-in_err-left-clause-many
returns-in_err-left-clause-many g c =
    let asked = c.args.asked.now in
    on_err c.from_residual.result (more_as (most_hands_in (length c.args.places.now) (length c.args.rows.now)) c.new-graph.result.most_hands (together asked) c.new-graph.ensures.most
    (c.in_err-left.ensures.many (together asked) (none_within (together asked) asked c.new-graph.result refl refl c.new-graph.ensures.none) (together_come asked)))

pub returns-clause-few : goal.returns-clause-few
returns-clause-few g c =
    together_few c.args.asked.now c.places_of.new.graph (places_in c.in_ok-left.left) c.args.discards.now (most_hands_in (length c.args.places.now) (length c.args.rows.now)) c.in_ok-left.ensures.grows.whole c.in_ok-left.ensures.before c.requires.discards c.in_ok-left.ensures.left (c.in_ok-left.ensures.grows.most ∙ c.new-graph.ensures.most)

pub each_at-requires-clause-few : goal.each_at-requires-clause-few
each_at-requires-clause-few g c =
    let asked = c.args.asked.now in
    let graph = c.places_of.new.graph in
    let rows = c.put_points.new.rows in
    let room : length c.places_of.new.graph.nodes ≤ length c.put_points.new.rows = omega (arith, c.in_ok-left.ensures.grows.whole.few, c.in_ok-left.ensures.grows.most, c.new-graph.ensures.most, c.put_points.ensures.each) in
    subst (λ (places : List ℕ). AreFew rows places (record { unseen = c.unseen_tiles-unseen.result; turns = c.args.turns })) (sym c.as_slice.ensures)
    (places_few c.args.stakes.now asked (c.unseen_tiles-unseen.ensures.fourteen c.requires.fourteen) c.requires.far c.args.discards.now c.requires.discards c.unseen_tiles-unseen.result c.args.turns c.unseen_tiles-unseen.ensures.value graph.hands (length graph.nodes) (places_in c.in_ok-left.left) c.in_ok-left.ensures.before c.in_ok-left.ensures.left rows room c.put_points.ensures.are)

pub returns-clause-worths : goal.returns-clause-worths
returns-clause-worths g c =
    let asked = c.args.asked.now in
    let graph = c.places_of.new.graph in
    let rows = c.put_points.new.rows in
    let places = places_in c.in_ok-left.left in
    let room : length c.places_of.new.graph.nodes ≤ length c.put_points.new.rows = omega (arith, c.in_ok-left.ensures.grows.whole.few, c.in_ok-left.ensures.grows.most, c.new-graph.ensures.most, c.put_points.ensures.each) in
    c.each_at.ensures ∙ ap (λ (ps : List ℕ). told_at rows (record { unseen = c.unseen_tiles-unseen.result; turns = c.args.turns }) ps (discard_kinds c.args.discards.now)) c.as_slice.ensures
    ∙ told_worths c.args.stakes.now asked rows (record { unseen = c.unseen_tiles-unseen.result; turns = c.args.turns }) places (discard_kinds c.args.discards.now)
    (as_many c.args.stakes.now asked (c.unseen_tiles-unseen.ensures.fourteen c.requires.fourteen) c.requires.far c.args.discards.now c.requires.discards c.unseen_tiles-unseen.result c.args.turns c.unseen_tiles-unseen.ensures.value graph.hands (length graph.nodes) places c.in_ok-left.ensures.before c.in_ok-left.ensures.left rows room c.put_points.ensures.are)
    (each_after c.args.stakes.now asked (c.unseen_tiles-unseen.ensures.fourteen c.requires.fourteen) c.requires.far c.args.discards.now c.requires.discards c.unseen_tiles-unseen.result c.args.turns c.unseen_tiles-unseen.ensures.value graph.hands (length graph.nodes) places c.in_ok-left.ensures.before c.in_ok-left.ensures.left rows room c.put_points.ensures.are)
