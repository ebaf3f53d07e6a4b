use Rattle.std.proofs.Common.{◌≡◌, List, ℕ, length, sym, ap, ◌∙◌, arith}
use Rattle.std.specs.Prelude.{slice_index}
use Rattle.riichi_chances.proofs.UnseenLemmas.{copies_of, copies_told, is_whole, is_whole_drawn, unseen_end, unseen_init, unseen_step}
use Rattle.riichi_chances.proofs.unseen.unseen_tiles.Goals as goal

pub loop-kind-init : goal.loop-kind-init
loop-kind-init c = record { so_far = unseen_init c.args.asked.now; few = omega arith }

pub overflow_add-held : goal.overflow_add-held
overflow_add-held c =
    let kind = c.loop-kind.kind in
    omega (arith, c.to_array-held.ensures.counts.at_most_four kind, ap (λ (counts : List ℕ). slice_index counts kind) c.to_array-held.ensures.value, c.meld_tiles-melded.ensures.most kind)

pub overflow_add-held-in-loop-kind : goal.overflow_add-held-in-loop-kind
overflow_add-held-in-loop-kind c =
    let kind = c.loop-kind.kind in
    omega (arith, c.to_array-held.ensures.counts.at_most_four kind, ap (λ (counts : List ℕ). slice_index counts kind) c.to_array-held.ensures.value, c.meld_tiles-melded.ensures.most kind, c.to_array-elsewhere.ensures.counts.at_most_four kind, ap (λ (counts : List ℕ). slice_index counts kind) c.to_array-elsewhere.ensures.value)

pub loop-kind-preserved : goal.loop-kind-preserved
loop-kind-preserved c =
    let parts = c.args.asked.now in
    let kind = c.loop-kind.kind in
    let here : c.saturating_sub-unseen.result ≡ copies_of c.args.asked.now c.loop-kind.kind = c.saturating_sub-unseen.ensures
    ∙ copies_told parts c.to_array-held.result c.to_array-elsewhere.result c.melds.result kind _ (c.to_array-held.ensures.value ∙ c.tiles.ensures.value) c.melds.ensures (c.to_array-elsewhere.ensures.value ∙ c.seen.ensures) (c.meld_tiles-melded.ensures.value kind) in
    record {
      so_far = omega (arith, unseen_step parts kind c.loop-kind.unseen c.loop-kind-test.true c.loop-kind.invariant.so_far, here);
      few = omega (arith, here, c.loop-kind.invariant.few);
    }

pub returns-clause-value : goal.returns-clause-value
returns-clause-value c = unseen_end c.args.asked.now c.loop-kind.kind c.loop-kind.unseen (omega arith) c.loop-kind.invariant.so_far

pub returns-clause-thirteen : goal.returns-clause-thirteen
returns-clause-thirteen c =
    is_whole c.args.asked.now c.tiles.ensures.shape (ap (λ (counts : List ℕ). length counts) (sym c.tiles.ensures.value) ∙ c.to_array-held.ensures.counts.each_kind)
    (ap (λ (counts : List ℕ). length counts) (sym c.seen.ensures) ∙ c.to_array-elsewhere.ensures.counts.each_kind)

pub returns-clause-fourteen : goal.returns-clause-fourteen
returns-clause-fourteen c =
    is_whole_drawn c.args.asked.now c.tiles.ensures.shape (ap (λ (counts : List ℕ). length counts) (sym c.tiles.ensures.value) ∙ c.to_array-held.ensures.counts.each_kind)
    (ap (λ (counts : List ℕ). length counts) (sym c.seen.ensures) ∙ c.to_array-elsewhere.ensures.counts.each_kind)
