use Rattle.std.proofs.Common.{◌≡◌, ℕ, ◌+◌, ◌<◌, ◌≤◌, Bool, All, FitsSigned, List, get_or, length, true, false, true≢false, refl, sym, ap, subst, ◌∙◌, rules, arith}
use Rattle.std.proofs.Common as width
use Rattle.std.proofs.lemmas.Bool.{leb-false}
use Rattle.std.proofs.lemmas.Int.{ints}
use Rattle.riichi_hand.specs.Hand.{copies_with}
use Rattle.riichi_hand.specs.HandParts.{ShapeParts}
use Rattle.riichi_shape.specs.EveryWinning.{distance_of}
use Rattle.riichi_shape.specs.LiveCopies.{live_in}
use Rattle.riichi_deeper.proofs.DeeperLemmas.{accepted_left}
use Rattle.riichi_deeper.proofs.DrawnLemmas.{list_of_fourteen, list_of_thirteen, never_fourteen, never_thirteen, shanten_told}
use Rattle.riichi_chances.specs.Graph.{Grows, HandGraph, LeadBefore, draws_in, places_in}
use Rattle.riichi_chances.specs.Reachable.{MayCome}
use Rattle.riichi_chances.specs.declared.node.Draw.{Draw}
use Rattle.riichi_chances.proofs.BuildingLemmas.{DrawsSoFar, RestsSoFar, draws_end, draws_init, draws_none, draws_step, drawn_far, drawn_whole, no_draws_before, ok_as, rest_whole, rests_end, rests_init, rests_step, thirteen_told}
use Rattle.riichi_chances.proofs.CountingLemmas.{best_at, drawn_accepted, drawn_nearer, left_rests, never_past}
use Rattle.riichi_chances.proofs.GraphLemmas.{grows_after, grows_root, grows_same, same_root}
use Rattle.riichi_chances.proofs.ReachableLemmas.{more_as, rest_comes, rests_come, on_err, within_drawn}
use Rattle.riichi_chances.proofs.building.+building.Goals as goal
use Rattle.riichi_chances.proofs.building.+building.Goals.{draws_of-then-live-gt0+in_ok-rests, draws_of-else-live-gt0}

-- ---- the draws of thirteen tiles

pub draws_of-loop-number-init : goal.draws_of-loop-number-init
draws_of-loop-number-init g t c = record {
  stays = refl;
  grows = grows_same c.args.asked.now c.args.graph.now c.requires.graph;
  within = λ group inside come. inside.each;
  so_far = subst (λ (draws : List Draw). DrawsSoFar c.args.asked.now c.copies-copies.result.now c.args.graph.now draws 0) (sym c.new-draws.ensures)
      (draws_init c.args.asked.now c.copies-copies.result.now c.args.graph.now c.args.accepted.now c.copies-copies.ensures.value c.requires.accepted);
}

pub draws_of-with_tile-drawn-requires-clause-left : goal.draws_of-with_tile-drawn-requires-clause-left
draws_of-with_tile-drawn-requires-clause-left g t c =
    omega (arith, accepted_left c.args.asked.now c.copies-copies.result.now c.loop-number.number (sym c.copies-copies.ensures.value ∙ c.requires.accepted) c.loop-number-test.true c.if-live-gt0.true, ap (copies_with c.args.asked.now) c.at.ensures)

pub draws_of-rests_of-requires : goal.draws_of-rests_of-requires
draws_of-rests_of-requires g t c κs within =
    let asked = c.args.asked.now in
    let drawn = c.with_tile-drawn.result in
    let number = c.loop-number.number in
    let drawn_is = c.with_tile-drawn.ensures.value in (
      omega (arith, c.decreases, drawn_nearer asked c.copies-copies.result.now number c.at.result drawn (sym c.copies-copies.ensures.value ∙ c.requires.accepted) c.loop-number-test.true c.if-live-gt0.true c.at.ensures drawn_is),
      (
        within,
        (
          drawn_whole asked c.requires.whole number c.at.result c.loop-number-test.true drawn c.at.ensures drawn_is c.with_tile-drawn.ensures.fourteen,
          (
            drawn_far asked c.requires.whole number c.at.result c.loop-number-test.true drawn c.at.ensures drawn_is c.requires.far,
            same_root asked drawn c.loop-number.graph (sym (ap (λ (p : ShapeParts). p.melds) drawn_is)) (sym (ap (λ (p : ShapeParts). p.seen) drawn_is)) c.loop-number.invariant.grows.whole,
          ),
        ),
      ),
    )

pub draws_of-loop-number-preserved : goal.draws_of-loop-number-preserved
draws_of-loop-number-preserved g t c =
    let asked = c.args.asked.now in
    let copies = c.copies-copies.result.now in
    let so_far = c.loop-number.invariant in
    let number = c.loop-number.number in
    let before = c.loop-number.graph in
    elim c.if-live-gt0.branch [
      | draws_of-then-live-gt0+in_ok-rests w ↦ (
          let drawn = w.with_tile-drawn.result in
          let drawn_is = w.with_tile-drawn.ensures.value in
          let after = w.rests_of.new.graph in
          let grown = grows_root drawn asked before after (ap (λ (p : ShapeParts). p.melds) drawn_is) (ap (λ (p : ShapeParts). p.seen) drawn_is) w.in_ok-rests.ensures.grows in
          let more_is = ap draws_in w.draws-is ∙ w.push.ensures in
          let draw : Draw = record { live = get_or copies number 0; rests = w.in_ok-rests.rests } in
          let step = draws_step asked copies before after so_far.grows.whole grown number c.loop-number-test.true (draws_in c.loop-number.draws) (draws_in c.if-live-gt0.draws) so_far.so_far w.if-live-gt0.true w.at.result w.at.ensures drawn drawn_is draw refl (places_in w.in_ok-rests.rests) refl w.in_ok-rests.ensures.before w.in_ok-rests.ensures.rests more_is in
          record {
            stays = w.source-is ∙ w.rests_of.ensures.stays ∙ so_far.stays;
            grows = subst (λ (graph : HandGraph). Grows asked c.args.graph.now graph) (sym w.graph-is) (grows_after asked c.args.graph.now before after so_far.grows grown);
            within = λ group inside come. subst (λ (graph : HandGraph). All (MayCome group) graph.hands) (sym w.graph-is)
                (w.in_ok-rests.ensures.within group (within_drawn group asked drawn c.args.graph.now before (ap (λ (p : ShapeParts). p.melds) drawn_is) (ap (λ (p : ShapeParts). p.seen) drawn_is) inside (so_far.within group inside come))
                (rests_come group asked drawn c.args.graph.now number w.at.result inside c.requires.far c.loop-number-test.true (drawn_accepted asked copies number (sym c.copies-copies.ensures.value ∙ c.requires.accepted) c.loop-number-test.true w.if-live-gt0.true) w.at.ensures drawn_is come));
            so_far = subst (λ (graph : HandGraph). DrawsSoFar asked copies graph (draws_in c.if-live-gt0.draws) (number + 1)) (sym w.graph-is) step;
          }
          )
      | draws_of-else-live-gt0 w ↦ record {
        stays = w.source-is ∙ so_far.stays;
        grows = subst (λ (graph : HandGraph). Grows asked c.args.graph.now graph) (sym w.graph-is) so_far.grows;
        within = λ group inside come. subst (λ (graph : HandGraph). All (MayCome group) graph.hands) (sym w.graph-is) (so_far.within group inside come);
        so_far = subst (λ (graph : HandGraph). DrawsSoFar asked copies graph (draws_in c.if-live-gt0.draws) (number + 1)) (sym w.graph-is)
            (subst (λ (draws : List Draw). DrawsSoFar asked copies before draws (number + 1)) (sym (ap draws_in w.draws-is)) (draws_none asked copies before (draws_in c.loop-number.draws) number c.loop-number-test.true w.if-live-gt0.false so_far.so_far));
      }
    ]

pub draws_of-returns-in_err-rests-clause-many : goal.draws_of-returns-in_err-rests-clause-many
draws_of-returns-in_err-rests-clause-many g t c = λ group inside come.
    (let asked = c.args.asked.now in
    let drawn_is = c.with_tile-drawn.ensures.value in
    let so_far = c.loop-number.invariant in
    let within = within_drawn group asked c.with_tile-drawn.result c.args.graph.now c.loop-number.graph (ap (λ (p : ShapeParts). p.melds) drawn_is) (ap (λ (p : ShapeParts). p.seen) drawn_is) inside (so_far.within group inside come) in
    let rests = rests_come group asked c.with_tile-drawn.result c.args.graph.now c.loop-number.number c.at.result inside c.requires.far c.loop-number-test.true (drawn_accepted asked c.copies-copies.result.now c.loop-number.number (sym c.copies-copies.ensures.value ∙ c.requires.accepted) c.loop-number-test.true c.if-live-gt0.true) c.at.ensures drawn_is come in
    on_err c.from_residual.result (more_as c.args.graph.now.most_hands c.loop-number.graph.most_hands group so_far.grows.most (c.in_err-rests.ensures.many group within rests)))

pub draws_of-returns-clause-leads : goal.draws_of-returns-clause-leads
draws_of-returns-clause-leads g t c =
    draws_end c.args.asked.now c.copies-copies.result.now c.loop-number.graph (draws_in c.loop-number.draws) c.loop-number.number (omega (arith, c.loop-number-test.false, c.loop-number.auto.number-end)) c.loop-number.invariant.so_far

-- ---- what thirteen tiles accept

pub node_of-returns-then-is_ready-clause-node : goal.node_of-returns-then-is_ready-clause-node
node_of-returns-then-is_ready-clause-node g t c =
    let parts = c.args.asked.now in
    let fits : FitsSigned width.w8 c.shape_with-answer.result.shanten = search rules in
    let ready = sym c.if-is_ready.true ∙ c.is_ready.ensures (distance_of parts.tiles parts.melds) (omega (arith, ints, shanten_told parts c.shape_with-answer.result c.shape_with-answer.ensures.shape)) in
    let accepted_is = list_of_thirteen parts c.shape_with-answer.result c.in-Thirteen.accepted c.shape_with-answer.ensures.shape (thirteen_told parts c.requires.whole) c.in-Thirteen.is in
    record {
      whole = c.requires.whole;
      shape = c.tiles-shape.ensures.shape;
      ready = ready;
      live = c.live-live.ensures.value ∙ ap live_in accepted_is;
      before = subst (λ (draws : List Draw). LeadBefore (length c.args.graph.now.nodes) draws) (sym c.new.ensures) (no_draws_before (length c.args.graph.now.nodes));
      leads = λ far. absurd (true≢false far);
    }

pub node_of-draws_of-requires : goal.node_of-draws_of-requires
node_of-draws_of-requires g t c κs within =
    let parts = c.args.asked.now in
    let fits : FitsSigned width.w8 c.shape_with-answer.result.shanten = search rules in
    let far = sym (c.is_ready.ensures (distance_of parts.tiles parts.melds) (omega (arith, ints, shanten_told parts c.shape_with-answer.result c.shape_with-answer.ensures.shape))) ∙ c.if-is_ready.false in
    (omega (arith, c.decreases), (within, (c.requires.whole, (list_of_thirteen parts c.shape_with-answer.result c.in-Thirteen.accepted c.shape_with-answer.ensures.shape (thirteen_told parts c.requires.whole) c.in-Thirteen.is, (omega (arith, leb-false (distance_of parts.tiles parts.melds) 1 far), c.requires.graph)))))

pub node_of-unreachable-requires : goal.node_of-unreachable-requires
node_of-unreachable-requires g t c = never_fourteen c.args.asked.now c.shape_with-answer.result c.in-Fourteen.field-0 c.shape_with-answer.ensures.shape (thirteen_told c.args.asked.now c.requires.whole) c.in-Fourteen.is

pub node_of-returns-clause-node : goal.node_of-returns-clause-node
node_of-returns-clause-node g t c =
    let parts = c.args.asked.now in
    let fits : FitsSigned width.w8 c.shape_with-answer.result.shanten = search rules in
    let far = sym c.if-is_ready.false ∙ c.is_ready.ensures (distance_of parts.tiles parts.melds) (omega (arith, ints, shanten_told parts c.shape_with-answer.result c.shape_with-answer.ensures.shape)) in
    let accepted_is = list_of_thirteen parts c.shape_with-answer.result c.in-Thirteen.accepted c.shape_with-answer.ensures.shape (thirteen_told parts c.requires.whole) c.in-Thirteen.is in
    record {
      whole = c.requires.whole;
      shape = c.tiles-shape.ensures.shape;
      ready = far;
      live = c.live-live.ensures.value ∙ ap live_in accepted_is;
      before = c.in_ok-draws-in-Thirteen.ensures.before;
      leads = λ it. c.in_ok-draws-in-Thirteen.ensures.leads;
    }

-- ---- the best discards of fourteen

pub rests_of-places_of-requires : goal.rests_of-places_of-requires
rests_of-places_of-requires g t c κs within =
    (omega (arith, c.decreases), (within, (c.requires.whole, (list_of_fourteen c.args.drawn.now c.shape_with-answer.result c.in-Fourteen.discards c.shape_with-answer.ensures.shape c.requires.whole.fourteen c.in-Fourteen.is, (c.requires.far, c.requires.graph)))))

pub rests_of-unreachable-requires : goal.rests_of-unreachable-requires
rests_of-unreachable-requires g t c = never_thirteen c.args.drawn.now c.shape_with-answer.result c.in-Thirteen.field-0 c.shape_with-answer.ensures.shape c.requires.whole.fourteen c.in-Thirteen.is

pub rests_of-returns-clause-rests : goal.rests_of-returns-clause-rests
rests_of-returns-clause-rests g t c =
    let discards_is = list_of_fourteen c.args.drawn.now c.shape_with-answer.result c.in-Fourteen.discards c.shape_with-answer.ensures.shape c.requires.whole.fourteen c.in-Fourteen.is in
    ok_as c.places_of.result (λ rests left. left_rests c.places_of.new.graph.hands (places_in rests) c.args.drawn.now c.in-Fourteen.discards discards_is left) c.places_of.ensures.left

pub places_of-loop-at-init : goal.places_of-loop-at-init
places_of-loop-at-init g t c = record {
  stays = refl;
  grows = grows_same c.args.drawn.now c.args.graph.now c.requires.graph;
  within = λ group inside come. inside.each;
  so_far = subst (λ (places : List ℕ). RestsSoFar c.args.drawn.now c.args.discards.now c.args.graph.now places 0) (sym c.new-places.ensures) (rests_init c.args.drawn.now c.args.discards.now c.args.graph.now);
}

pub places_of-best_discarded-rest-requires-clause-best : goal.places_of-best_discarded-rest-requires-clause-best
places_of-best_discarded-rest-requires-clause-best g t c = best_at c.args.drawn.now c.args.discards.now c.loop-at.at c.in-Some.discard c.requires.discards (sym c.in-Some.is ∙ c.short_at.ensures)

pub places_of-place_of-requires : goal.places_of-place_of-requires
places_of-place_of-requires g t c κs within =
    let rest_is = c.best_discarded-rest.ensures.value in (
      omega (arith, c.decreases, c.best_discarded-rest.ensures.as_near),
      (
        within,
        (
          rest_whole c.args.drawn.now c.best_discarded-rest.result c.in-Some.discard.kind c.requires.whole rest_is c.best_discarded-rest.ensures.thirteen,
          same_root c.args.drawn.now c.best_discarded-rest.result c.loop-at.graph (sym (ap (λ (p : ShapeParts). p.melds) rest_is)) (sym (ap (λ (p : ShapeParts). p.seen) rest_is)) c.loop-at.invariant.grows.whole,
        ),
      ),
    )

pub places_of-unreachable-requires : goal.places_of-unreachable-requires
places_of-unreachable-requires g t c = never_past c.args.discards.now c.loop-at.at (omega (arith, c.loop-at-test.true, c.len-at-end.ensures.value)) (sym c.in-None.is ∙ c.short_at.ensures)

pub places_of-loop-at-preserved : goal.places_of-loop-at-preserved
places_of-loop-at-preserved g t c =
    let drawn = c.args.drawn.now in
    let rest = c.best_discarded-rest.result in
    let rest_is = c.best_discarded-rest.ensures.value in
    let before = c.loop-at.graph in
    let after = c.place_of.new.graph in
    let so_far = c.loop-at.invariant in
    let grown = grows_root rest drawn before after (ap (λ (p : ShapeParts). p.melds) rest_is) (ap (λ (p : ShapeParts). p.seen) rest_is) c.in_ok-place-in-Some.ensures.grows in
    record {
      stays = c.place_of.ensures.stays ∙ so_far.stays;
      grows = grows_after drawn c.args.graph.now before after so_far.grows grown;
      within = λ group inside come.
          c.in_ok-place-in-Some.ensures.within group (within_drawn group drawn rest c.args.graph.now before (ap (λ (p : ShapeParts). p.melds) rest_is) (ap (λ (p : ShapeParts). p.seen) rest_is) inside (so_far.within group inside come))
          (rest_comes group drawn rest c.in-Some.discard.kind rest_is (best_at drawn c.args.discards.now c.loop-at.at c.in-Some.discard c.requires.discards (sym c.in-Some.is ∙ c.short_at.ensures)) come);
      so_far = rests_step drawn c.args.discards.now before after so_far.grows.whole grown c.loop-at.at (places_in c.loop-at.places) (places_in c.push.new.self) so_far.so_far c.in-Some.discard (sym c.in-Some.is ∙ c.short_at.ensures) rest rest_is c.in_ok-place-in-Some.place c.in_ok-place-in-Some.ensures.place c.push.ensures;
    }

pub places_of-returns-in_err-place-in-Some-clause-many : goal.places_of-returns-in_err-place-in-Some-clause-many
places_of-returns-in_err-place-in-Some-clause-many g t c = λ group inside come.
    (let drawn = c.args.drawn.now in
    let rest = c.best_discarded-rest.result in
    let rest_is = c.best_discarded-rest.ensures.value in
    let so_far = c.loop-at.invariant in
    let within = within_drawn group drawn rest c.args.graph.now c.loop-at.graph (ap (λ (p : ShapeParts). p.melds) rest_is) (ap (λ (p : ShapeParts). p.seen) rest_is) inside (so_far.within group inside come) in
    let comes = rest_comes group drawn rest c.in-Some.discard.kind rest_is (best_at drawn c.args.discards.now c.loop-at.at c.in-Some.discard c.requires.discards (sym c.in-Some.is ∙ c.short_at.ensures)) come in
    on_err c.from_residual.result (more_as c.args.graph.now.most_hands c.loop-at.graph.most_hands group so_far.grows.most (c.in_err-place-in-Some.ensures.many group within comes)))

pub places_of-returns-clause-left : goal.places_of-returns-clause-left
places_of-returns-clause-left g t c = rests_end c.args.drawn.now c.args.discards.now c.loop-at.graph (places_in c.loop-at.places) c.loop-at.at (omega (arith, c.loop-at-test.false, c.len-at-end.ensures.value)) c.loop-at.invariant.so_far
