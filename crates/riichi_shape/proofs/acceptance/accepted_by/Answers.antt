use Rattle.std.proofs.Common.{◌≡◌, ℕ, ◌<◌, Bool, true, false, cond, refl, sym, ap, ◌∙◌}
use Rattle.std.proofs.lemmas.Bool.{and_parts, ltb-true}
use Rattle.std.specs.Prelude.{◌&&◌, nat_lt, slice_index}
use Rattle.riichi_shape.specs.EveryWinning.{distance_of}
use Rattle.riichi_tiles.specs.HeldKinds.{is_held}
use Rattle.riichi_shape.specs.KindBits.{copies_among}
use Rattle.riichi_shape.specs.LackedKinds.{lacks_kind}
use Rattle.riichi_shape.proofs.AcceptedLemmas.{accepted_pairs}
use Rattle.riichi_tiles.proofs.KindSets.{both_at}
use Rattle.riichi_shape.proofs.KindLemmas.{among_at}
use Rattle.riichi_shape.proofs.LiveLemmas.{some_live}
use Rattle.riichi_shape.proofs.Nearer.{accepted_at}
use Rattle.riichi_shape.proofs.acceptance.accepted_by.Goals as goal

lacked_and_live : (a : Bool) (l : ℕ) → cond (a && nat_lt 0 l) l 0 ≡ cond a l 0
lacked_and_live true l = some_live l
lacked_and_live false l = refl

module _ (c : goal.After-both) where
  has_at : (k : ℕ) → k < 34 → is_held c.both.result k ≡ (lacks_kind c.args.lacked.now k (slice_index c.args.hand.now k) && nat_lt 0 (slice_index c.args.live.now.copies k))
  has_at k low =
      ap (λ s. is_held s k) c.both.ensures ∙ both_at c.kinds.result c.args.live.now.kinds k
      ∙ ap (λ t. t && is_held c.args.live.now.kinds k) (c.kinds.ensures k low ∙ ap (λ held. lacks_kind c.args.lacked.now k (slice_index held k)) c.as_array.ensures.value)
      ∙ ap (λ t. lacks_kind c.args.lacked.now k (slice_index c.args.hand.now k) && t) (c.args.live.now.live.each k)

pub returns-clause-accepted : goal.returns-clause-accepted
returns-clause-accepted c = λ melds seen lacked are.
    (let hand = c.args.hand.now in
    let copies = c.args.live.now.copies in
    accepted_pairs (copies_among copies c.both.result) hand melds seen
    (λ k low. accepted_at hand melds lacked.at_most_four lacked.of_a_kind c.as_array.ensures.counts.each_kind k low (distance_of hand melds) refl c.args.lacked.now lacked.least seen
    (slice_index (copies_among copies c.both.result) k) (slice_index copies k)
    (among_at copies c.both.result k low ∙ ap (λ t. cond t (slice_index copies k) 0) (has_at c k low) ∙ lacked_and_live (lacks_kind c.args.lacked.now k (slice_index hand k)) (slice_index copies k)) (are.at k low)))

pub returns-clause-live : goal.returns-clause-live
returns-clause-live c = λ kind low there.
    ltb-true 0 (slice_index c.args.live.now.copies kind)
    ((and_parts (lacks_kind c.args.lacked.now kind (slice_index c.args.hand.now kind)) (nat_lt 0 (slice_index c.args.live.now.copies kind)) (sym (has_at c kind low) ∙ there)).1)
