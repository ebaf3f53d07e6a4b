use Rattle.std.proofs.Common.{List, ℕ, length, refl, subst, ◌∙◌}
use Rattle.riichi_chances.specs.Chances.{AreAllCounted}
use Rattle.riichi_chances.specs.Graph.{most_hands_in, places_in}
use Rattle.riichi_chances.proofs.ChancesLemmas.{after_all, after_most, after_plays}
use Rattle.riichi_chances.specs.Reachable.{together}
use Rattle.riichi_chances.proofs.ReachableLemmas.{more_as, none_within, on_err, together_come, together_few}
use Rattle.riichi_chances.proofs.discards.all_together.Goals as goal

pub places_of-requires-clause-graph : goal.places_of-requires-clause-graph
places_of-requires-clause-graph g c = c.new-graph.ensures.graph c.args.asked.now

pub returns-in_err-left-clause-many : goal.returns-in_err-left-clause-many
returns-in_err-left-clause-many g c =
    let asked = c.args.asked.now in
    on_err c.from_residual.result (more_as (most_hands_in (length c.args.places.now) (length c.args.rows.now)) c.new-graph.result.most_hands (together asked) c.new-graph.ensures.most
    (c.in_err-left.ensures.many (together asked) (none_within (together asked) asked c.new-graph.result refl refl c.new-graph.ensures.none) (together_come asked)))

pub returns-clause-chances : goal.returns-clause-chances
returns-clause-chances g c =
    let asked = c.args.asked.now in
    let keys = c.places_of.new.graph.hands in
    let places = places_in c.in_ok-left.left in
    let chances = c.by_turns.new.each in
    let counted = subst (λ (ps : List ℕ). AreAllCounted asked keys ps c.unseen_tiles-unseen.result c.args.turns chances) c.as_slice.ensures (c.by_turns.ensures.counted asked c.in_ok-left.ensures.grows.whole) in
    after_all asked (c.unseen_tiles-unseen.ensures.fourteen c.requires.fourteen) c.requires.far c.args.discards.now c.requires.discards keys places c.in_ok-left.ensures.left c.unseen_tiles-unseen.result c.args.turns chances c.with_kinds.result.items c.unseen_tiles-unseen.ensures.value counted c.with_kinds.ensures.kinds c.with_kinds.ensures.chances

pub returns-clause-at_most : goal.returns-clause-at_most
returns-clause-at_most g c =
    let asked = c.args.asked.now in
    let keys = c.places_of.new.graph.hands in
    let places = places_in c.in_ok-left.left in
    let chances = c.by_turns.new.each in
    let counted = subst (λ (ps : List ℕ). AreAllCounted asked keys ps c.unseen_tiles-unseen.result c.args.turns chances) c.as_slice.ensures (c.by_turns.ensures.counted asked c.in_ok-left.ensures.grows.whole) in
    after_most asked (c.unseen_tiles-unseen.ensures.fourteen c.requires.fourteen) c.requires.far c.args.discards.now c.requires.discards keys places c.in_ok-left.ensures.left c.unseen_tiles-unseen.result c.args.turns chances c.with_kinds.result.items c.unseen_tiles-unseen.ensures.value counted c.with_kinds.ensures.kinds c.with_kinds.ensures.chances

pub returns-clause-plays : goal.returns-clause-plays
returns-clause-plays g c =
    let asked = c.args.asked.now in
    let keys = c.places_of.new.graph.hands in
    let places = places_in c.in_ok-left.left in
    let chances = c.by_turns.new.each in
    let counted = subst (λ (ps : List ℕ). AreAllCounted asked keys ps c.unseen_tiles-unseen.result c.args.turns chances) c.as_slice.ensures (c.by_turns.ensures.counted asked c.in_ok-left.ensures.grows.whole) in
    after_plays asked (c.unseen_tiles-unseen.ensures.fourteen c.requires.fourteen) c.requires.far c.args.discards.now c.requires.discards keys places c.in_ok-left.ensures.left c.unseen_tiles-unseen.result c.args.turns chances c.with_kinds.result.items c.unseen_tiles-unseen.ensures.value counted c.with_kinds.ensures.kinds c.with_kinds.ensures.chances

pub returns-clause-few : goal.returns-clause-few
returns-clause-few g c =
    together_few c.args.asked.now c.places_of.new.graph (places_in c.in_ok-left.left) c.args.discards.now (most_hands_in (length c.args.places.now) (length c.args.rows.now)) c.in_ok-left.ensures.grows.whole c.in_ok-left.ensures.before c.requires.discards c.in_ok-left.ensures.left (c.in_ok-left.ensures.grows.most ∙ c.new-graph.ensures.most)
