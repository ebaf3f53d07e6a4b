-- The chances of one number of turns, by those of all.
use Rattle.std.proofs.Common.{◌≡◌, ℕ, zero, suc, ◌-◌, ◌*◌, ◌<◌, ◌≤◌, List, [], ◌∷◌, length, map, refl, sym, subst, ap, ◌∙◌, arith}
use Rattle.std.proofs.lemmas.List.{get_or-map, length-map}
use Rattle.std.proofs.lemmas.List.Elements.{All-from_get_or}
use Rattle.std.specs.Prelude.{All, slice_index, slice_index_or}
use Rattle.riichi_hand.specs.HandParts.{ShapeParts}
use Rattle.riichi_shape.specs.Choosing.{LeavesLeast}
use Rattle.riichi_shape.specs.Discards.{discards_of}
use Rattle.riichi_shape.specs.declared.discard.Discard.{Discard}
use Rattle.riichi_deeper.specs.Drawn.{parts_without}
use Rattle.riichi_chances.specs.Chances.{AreAfter, AreAfterAtMost, AreAtMost, AreChances, parts_told}
use Rattle.riichi_chances.specs.Draws.{all_draws, unseen_of}
use Rattle.riichi_chances.specs.Graph.{discard_kinds}
use Rattle.riichi_chances.specs.Laws.{IsFourteen}
use Rattle.riichi_chances.specs.Odds.{ArePartsOfAll, after_discard, best_odds, each_odds_at, odds_after, odds_at, odds_by, odds_of}
use Rattle.riichi_chances.specs.declared.chances.Chances.{Chances}
use Rattle.riichi_chances.specs.declared.discards.DiscardChances.{DiscardChances}
use Rattle.riichi_chances.specs.declared.odds.DiscardOdds.{DiscardOdds}
use Rattle.riichi_chances.specs.declared.odds.Odds.{Odds}
use Rattle.riichi_chances.proofs.CountedLemmas.{discard_unseen}
use Rattle.riichi_chances.proofs.CountingLemmas.{best_listed}
use Rattle.riichi_chances.proofs.SpanLemmas.{all_more, all_none}

abbrev odds_from : ℕ → ℕ → ℕ → ℕ → ℕ → Odds
odds_from ready ready_at_most win win_at_most all = record { ready = ready; ready_at_most = ready_at_most; win = win; win_at_most = win_at_most; all = all }

same_odds : {f g h i j k l m n o : ℕ} → f ≡ k → g ≡ l → h ≡ m → i ≡ n → j ≡ o → odds_from f g h i j ≡ odds_from k l m n o
same_odds p q r s t = cc

by_chances : (parts told : ShapeParts) (turns count : ℕ) (chances : Chances) → count ≤ turns → AreChances parts turns chances → AreAtMost told (unseen_of parts) turns chances → odds_at chances count ≡ odds_by parts told count
by_chances parts told turns count chances low are most =
    same_odds (are.ready count low) (most.ready count low) (are.win count low) (most.win count low) (are.all count low)

pub thirteen_odds : (parts : ShapeParts) (turns count : ℕ) (chances : Chances) → count ≤ turns → AreChances parts turns chances → AreAtMost parts (unseen_of parts) turns chances → odds_at chances count ≡ odds_of parts count
unfolding odds_of
thirteen_odds parts = by_chances parts parts

same_each : (each : List DiscardChances) (kinds : List ℕ) (value : DiscardChances → Odds) (wanted : ℕ → Odds) → map (λ (one : DiscardChances). one.kind) each ≡ kinds → ((place : ℕ) (one : DiscardChances) → place < length each → value (slice_index_or each place one) ≡ wanted (slice_index_or each place one).kind)
    → map (λ (one : DiscardChances). after_discard one.kind (value one)) each ≡ map (λ kind. after_discard kind (wanted kind)) kinds
same_each [] [] value wanted e same = refl
same_each [] (kind ∷ kinds) value wanted e same = absurd (cc)
same_each (one ∷ each) [] value wanted e same = absurd (cc)
same_each (one ∷ each) (kind ∷ kinds) value wanted e same =
    let here : one.kind ≡ kind = cc in
    let others : map (λ (it : DiscardChances). it.kind) each ≡ kinds = cc in
    ap (λ (odds : Odds). after_discard one.kind odds ∷ map (λ (it : DiscardChances). after_discard it.kind (value it)) each) (same 0 one (omega arith) ∙ ap wanted here)
    ∙ ap (λ (k : ℕ). after_discard k (wanted kind) ∷ map (λ (it : DiscardChances). after_discard it.kind (value it)) each) here
    ∙ ap (λ (rest : List DiscardOdds). after_discard kind (wanted kind) ∷ rest) (same_each each kinds value wanted others (λ place it low. same (suc place) it (omega (arith, low))))

-- after each best discard of fourteen tiles
pub fourteen_odds : (drawn : ShapeParts) (turns count : ℕ) (each : List DiscardChances) → count ≤ turns → map (λ (one : DiscardChances). one.kind) each ≡ discard_kinds (discards_of drawn.tiles drawn.melds drawn.seen) → AreAfter drawn turns each → AreAfterAtMost drawn turns each → each_odds_at each count ≡ best_odds drawn count
unfolding odds_after best_odds
fourteen_odds drawn turns count each few kinds are most =
    same_each each (discard_kinds (discards_of drawn.tiles drawn.melds drawn.seen)) (λ (one : DiscardChances). odds_at one.chances count) (odds_after drawn count) kinds
    (λ place one low. by_chances (parts_without drawn (slice_index_or each place one).kind) (parts_told drawn (slice_index_or each place one).kind) turns count (slice_index_or each place one).chances few (are place one low) (most place one low))

-- where there are as many tiles as draws
pub all_some : (unseen turns : ℕ) → turns ≤ unseen → 0 < all_draws unseen turns
all_some unseen zero few = omega (arith, all_none unseen)
all_some unseen (suc turns) few = by_rest unseen (all_draws (unseen - 1) turns) (omega (arith, few)) (all_some (unseen - 1) turns (omega (arith, few))) (all_more unseen turns)
  where
    by_rest : (n rest : ℕ) {all : ℕ} → 0 < n → 0 < rest → all ≡ n * rest → 0 < all
    by_rest (suc n) (suc rest) one more e = omega (arith, e)
    by_rest zero rest one more e = absurd (omega (arith, one))
    by_rest (suc n) zero one more e = absurd (omega (arith, more))

-- they are parts of some draws
pub parts_of_all : (parts told : ShapeParts) (turns : ℕ) (chances : Chances) → AreChances parts turns chances → AreAtMost told (unseen_of parts) turns chances → turns ≤ unseen_of parts → ArePartsOfAll (odds_at chances turns)
parts_of_all parts told turns chances are most few = record {
  ready = are.ready_few turns (omega arith);
  ready_at_most = omega (arith, most.ready turns (omega arith), are.all turns (omega arith));
  win = are.win_few turns (omega arith);
  win_at_most = omega (arith, most.win turns (omega arith), are.all turns (omega arith));
  some = omega (arith, are.all turns (omega arith), all_some (unseen_of parts) turns few);
}

-- after each best discard too: of what is thrown no copy is unseen that wasn't before
fourteen_parts : (drawn : ShapeParts) (turns : ℕ) (each : List DiscardChances) → IsFourteen drawn → map (λ (one : DiscardChances). one.kind) each ≡ discard_kinds (discards_of drawn.tiles drawn.melds drawn.seen) → AreAfter drawn turns each → AreAfterAtMost drawn turns each → turns ≤ unseen_of drawn
    → (place : ℕ) (one : DiscardChances) → place < length each → ArePartsOfAll (odds_at (slice_index_or each place one).chances turns)
fourteen_parts drawn turns each is kinds are most few place one low =
    parts_of_all (parts_without drawn kind) (parts_told drawn kind) turns (slice_index_or each place one).chances (are place one low) (most place one low) (omega (arith, few, discard_unseen drawn is kind best.is_kind best.held))
  where
    discards : List Discard
    discards = discards_of drawn.tiles drawn.melds drawn.seen

    kind : ℕ
    kind = (slice_index_or each place one).kind

    inside : place < length discards
    inside = omega (arith, low, length-map each (λ (it : DiscardChances). it.kind), ap length kinds, length-map discards (λ (discard : Discard). discard.kind))

    kind_is : slice_index (discard_kinds discards) place ≡ kind
    kind_is = sym (sym (get_or-map (λ (it : DiscardChances). it.kind) each place one 0 low) ∙ ap (λ (ks : List ℕ). slice_index ks place) kinds)

    best : LeavesLeast drawn.tiles drawn.melds kind
    best = subst (LeavesLeast drawn.tiles drawn.melds) kind_is (best_listed drawn discards place refl inside)

pub each_parts : (drawn : ShapeParts) (turns : ℕ) (each : List DiscardChances) → IsFourteen drawn → map (λ (one : DiscardChances). one.kind) each ≡ discard_kinds (discards_of drawn.tiles drawn.melds drawn.seen) → AreAfter drawn turns each → AreAfterAtMost drawn turns each → turns ≤ unseen_of drawn
    → All (λ (one : DiscardChances). ArePartsOfAll (odds_at one.chances turns)) each
each_parts drawn turns each is kinds are most few = every each (fourteen_parts drawn turns each is kinds are most few)
  where
    every : (some : List DiscardChances) → ((place : ℕ) (one : DiscardChances) → place < length some → ArePartsOfAll (odds_at (slice_index_or some place one).chances turns)) → All (λ (one : DiscardChances). ArePartsOfAll (odds_at one.chances turns)) some
    every [] at = search
    every (one ∷ some) at = All-from_get_or (λ (it : DiscardChances). ArePartsOfAll (odds_at it.chances turns)) (one ∷ some) one (λ place low. at place one low)
