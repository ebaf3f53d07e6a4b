use Rattle.std.proofs.Common.{◌≡◌, ◌+◌, ◌≤◌, ◌++◌, [], ◌∷◌, List, ℕ, length, map, take, refl, sym, ap, subst, ◌∙◌, arith}
use Rattle.std.proofs.lemmas.List.{map_push, take_all}
use Rattle.riichi_hand.specs.HandParts.{ShapeParts}
use Rattle.riichi_tiles.proofs.Members.{IsIn, in-Contains}
use Rattle.riichi_deeper.specs.Drawn.{parts_without}
use Rattle.riichi_shape.specs.declared.discard.Discard.{Discard}
use Rattle.riichi_chances.specs.Draws.{unseen_of}
use Rattle.riichi_chances.specs.Graph.{discard_kinds, most_hands_in}
use Rattle.riichi_chances.specs.Reachable.{ComesToFew, ComesToMore, by_itself}
use Rattle.riichi_chances.proofs.CountedLemmas.{discard_unseen}
use Rattle.riichi_chances.proofs.CountingLemmas.{best_at, kinds_more, never_past}
use Rattle.riichi_chances.proofs.ReachableLemmas.{each_more, kind_found, on_err}
use Rattle.riichi_worth.specs.Worths.{worth_after, worth_of}
use Rattle.riichi_worth.specs.declared.discards.DiscardWorth.{DiscardWorth}
use Rattle.riichi_worth.specs.declared.worth.Worth.{Worth}
use Rattle.riichi_worth.proofs.discards.each_alone.Goals as goal

pub without_tile-rest-requires-clause-held : goal.without_tile-rest-requires-clause-held
without_tile-rest-requires-clause-held g c = (best_at c.args.asked.now c.args.discards.now c.loop-at.at c.in-Some.discard c.requires.discards (sym c.in-Some.is ∙ c.short_at.ensures)).held

pub hand_worth-requires-clause-drawn : goal.hand_worth-requires-clause-drawn
hand_worth-requires-clause-drawn g c =
    let best = best_at c.args.asked.now c.args.discards.now c.loop-at.at c.in-Some.discard c.requires.discards (sym c.in-Some.is ∙ c.short_at.ensures) in
    let same = discard_unseen c.args.asked.now (c.unseen_tiles-unseen.ensures.fourteen c.requires.fourteen) c.in-Some.discard.kind best.is_kind best.held in
    omega (arith, same, c.requires.drawn, ap unseen_of c.without_tile-rest.ensures.value)

pub unreachable-requires : goal.unreachable-requires
unreachable-requires g c = never_past c.args.discards.now c.loop-at.at (omega (arith, c.loop-at-test.true, c.len-at-end.ensures.value)) (sym c.in-None.is ∙ c.short_at.ensures)

pub loop-at-preserved : goal.loop-at-preserved
loop-at-preserved g c =
    let so_far = c.loop-at.invariant in
    let found = sym c.in-Some.is ∙ c.short_at.ensures in
    let kind = c.in-Some.discard.kind in
    let by = worth_after c.args.stakes.now c.args.asked.now c.args.turns in
    let most = ap (λ n. most_hands_in n (length c.loop-at.rows)) so_far.places ∙ ap (most_hands_in (length c.args.places.now)) so_far.rows in
    let one : ◌≡◌ {A = DiscardWorth} (record { kind = c.in-Some.discard.kind; worth = c.in_ok-worth-in-Some.worth }) (worth_after c.args.stakes.now c.args.asked.now c.args.turns c.in-Some.discard.kind) =
    ap (λ (worth : Worth). record { kind = kind; worth = worth }) (c.in_ok-worth-in-Some.ensures.worth ∙ ap (λ (parts : ShapeParts). worth_of c.args.stakes.now parts c.args.turns) c.without_tile-rest.ensures.value) in
    record {
      places = c.hand_worth.auto.places ∙ so_far.places;
      rows = c.hand_worth.auto.rows ∙ so_far.rows;
      each = c.push.ensures.len ∙ ap (λ n. n + 1) so_far.each;
      stays = c.hand_worth.ensures.stays ∙ so_far.stays;
      told = c.push.ensures.items ∙ ap (λ (it : DiscardWorth). c.loop-at.each.items ++ it ∷ []) one ∙ ap (λ (each : List DiscardWorth). each ++ by kind ∷ []) so_far.told
          ∙ sym (ap (map by) (kinds_more c.args.discards.now c.loop-at.at c.in-Some.discard found) ∙ map_push by (discard_kinds (take c.loop-at.at c.args.discards.now)) kind);
      few = each_more c.args.discards.now c.loop-at.at c.in-Some.discard found (λ k. ComesToFew (most_hands_in (length c.args.places.now) (length c.args.rows.now)) (by_itself (parts_without c.args.asked.now k))) so_far.few
          (subst (λ n. ComesToFew n (by_itself (parts_without c.args.asked.now c.in-Some.discard.kind))) most (subst (λ (parts : ShapeParts). ComesToFew (most_hands_in (length c.loop-at.places) (length c.loop-at.rows)) (by_itself parts)) c.without_tile-rest.ensures.value c.in_ok-worth-in-Some.ensures.few));
    }

pub returns-clause-few : goal.returns-clause-few
returns-clause-few g c = λ kind there.
    c.loop-at.invariant.few kind (subst (λ (discards : List Discard). IsIn kind (discard_kinds discards)) (sym (take_all c.loop-at.at c.args.discards.now (omega (arith, c.loop-at-test.false, c.len-at-end.ensures.value)))) (in-Contains kind (discard_kinds c.args.discards.now) there))

pub returns-in_err-worth-in-Some-clause-many : goal.returns-in_err-worth-in-Some-clause-many
returns-in_err-worth-in-Some-clause-many g c =
    let so_far = c.loop-at.invariant in
    let most = ap (λ n. most_hands_in n (length c.loop-at.rows)) so_far.places ∙ ap (most_hands_in (length c.args.places.now)) so_far.rows in
    on_err c.from_residual.result (
      c.in-Some.discard.kind,
      kind_found c.args.discards.now c.loop-at.at c.in-Some.discard (sym c.in-Some.is ∙ c.short_at.ensures),
      subst (λ n. ComesToMore n (by_itself (parts_without c.args.asked.now c.in-Some.discard.kind))) most
          (subst (λ (parts : ShapeParts). ComesToMore (most_hands_in (length c.loop-at.places) (length c.loop-at.rows)) (by_itself parts)) c.without_tile-rest.ensures.value c.in_err-worth-in-Some.ensures.many),
    )
