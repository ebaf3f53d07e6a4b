-- One more tile of a kind brings a hand nearer exactly where some least winning multiset lacks it.
use Rattle.std.proofs.Common.{◌≡◌, ℕ, ◌+◌, ◌-◌, ◌<◌, ◌≤◌, min, Bool, true, false, cond, inl, inr, List, length, ltb, sym, ap, ◌∙◌, ⊎_elim, subst, Option, Some, None, arith, get_or-set_same, get_or-set_other}
use Rattle.std.proofs.lemmas.Bool.{or_left, or_right, or_cases}
use Rattle.std.proofs.lemmas.Bool.Decides.{nat_tests, same_from_decides, Decides-ltb}
use Rattle.std.specs.Prelude.{slice_index, unwrap_or, nat_lt, ◌&&◌}
use Rattle.riichi_tiles.specs.Melds.{tiles}
use Rattle.riichi_tiles.specs.declared.meld.Meld.{Meld}
use Rattle.riichi_rows.specs.Lacked.{IsOneMore}
use Rattle.riichi_shape.specs.Accepted.{accepted_copies, live_of, with_one}
use Rattle.riichi_shape.specs.Distance.{IsDistance, IsLeastStandard}
use Rattle.riichi_shape.specs.EveryWinning.{distance_of}
use Rattle.riichi_shape.specs.LackedKinds.{AreLackedKinds, AreLackedOf, AreSuitsLacked, NoneStandardLess, lacks_kind, suits_lack}
use Rattle.riichi_shape.specs.Special.{AreSpecialLacked, IsSpecialDistance, SpecialLacks, special_lacks}
use Rattle.riichi_tiles.specs.Forms.{IsSetsAndPair}
use Rattle.riichi_shape.specs.declared.lacked_kinds.LackedKinds.{LackedKinds}
use Rattle.riichi_shape.proofs.Distances.{exists, never_none, whole_distance}
use Rattle.riichi_shape.proofs.OneMore.{accepted, by_forms}
use Rattle.riichi_shape.proofs.SpecialLemmas.{special_none_less}
use Rattle.riichi_shape.proofs.Uniqueness.{distance_from}

module _ (hand : List ℕ) (melds : List Meld) (at_most_four : length melds ≤ 4) (of_a_kind : (kind : ℕ) → kind < 34 → tiles melds kind ≤ 4) where
  pub distance_reached : IsDistance hand melds (distance_of hand melds)
  distance_reached =
      let some = exists hand melds at_most_four of_a_kind in
      distance_from hand melds some.wanted (record { form = inl some.sets_and_pair; within_four = some.within_four })

  pub distance_few : (n : ℕ) → IsDistance hand melds n → n ≤ 14
  distance_few n is =
      let some = exists hand melds at_most_four of_a_kind in
      omega (arith, is.none_less some.wanted (record { form = inl some.sets_and_pair; within_four = some.within_four }), some.lacks)

  -- the distance by the least of sets and a pair, where there are such
  pub distance_by : (o : Option ℕ) → IsLeastStandard hand melds (4 - length melds) o → (q r : ℕ) → IsSpecialDistance hand melds q → r ≡ min (unwrap_or o 255) q → IsDistance hand melds r
  distance_by (Some n) least q r special e = whole_distance hand melds at_most_four of_a_kind n least q r special e
  distance_by None least q r special e = absurd (never_none hand melds at_most_four of_a_kind least)

module _ (hand : List ℕ) (melds : List Meld) (at_most_four : length melds ≤ 4) (of_a_kind : (kind : ℕ) → kind < 34 → tiles melds kind ≤ 4) (long : length hand ≡ 34) (kind : ℕ) (inside : kind < 34) where
  one_more : IsOneMore kind hand (with_one hand kind)
  one_more = record {
    here = get_or-set_same hand kind (slice_index hand kind + 1) 0 (omega (arith, long, inside));
    elsewhere = λ other ne. get_or-set_other hand kind other (slice_index hand kind + 1) 0 ne;
  }

  nearer_is : (n : ℕ) → n ≡ distance_of hand melds → (lacked : LackedKinds) → AreLackedKinds hand melds n lacked → lacks_kind lacked kind (slice_index hand kind) ≡ nat_lt (distance_of (with_one hand kind) melds) (distance_of hand melds)
  nearer_is n n_is lacked are =
      let before = distance_reached hand melds at_most_four of_a_kind in
      let after = distance_reached (with_one hand kind) melds at_most_four of_a_kind in
      let law = accepted hand (with_one hand kind) melds (distance_of hand melds) (distance_of (with_one hand kind) melds) kind inside one_more before after in
      let at = (subst (λ (m : ℕ). AreLackedKinds hand melds m lacked) n_is are).at kind inside in
      same_from_decides (lacks_kind lacked kind (slice_index hand kind)) (nat_lt (distance_of (with_one hand kind) melds) (distance_of hand melds))
      (λ e. law.1 (at.0 e), λ less. at.1 (law.0 less)) (Decides-ltb (distance_of (with_one hand kind) melds) (distance_of hand melds))

  live_alone : (copies live : ℕ) (nearer : Bool) → copies ≡ cond nearer live 0 → copies ≡ cond (ltb 0 live && nearer) live 0
  live_alone copies live true e = grind (arith, nat_tests)
  live_alone copies live false e = grind (arith, nat_tests)

  pub accepted_at : (n : ℕ) → n ≡ distance_of hand melds → (lacked : LackedKinds) → AreLackedKinds hand melds n lacked → (seen : List ℕ) (copies live : ℕ) →
      copies ≡ cond (lacks_kind lacked kind (slice_index hand kind)) live 0 → live ≡ live_of hand melds seen kind → copies ≡ accepted_copies hand melds seen kind
  accepted_at n n_is lacked are seen copies live copies_are live_is =
      let nearer : Bool = nat_lt (distance_of (with_one hand kind) melds) (distance_of hand melds) in
      live_alone copies live nearer (copies_are ∙ ap (λ b. cond b live 0) (nearer_is n n_is lacked are)) ∙ ap (λ l. cond (ltb 0 l && nearer) l 0) live_is

-- ---- the kinds that are lacked, form by form

pub lacked_are : (hand : List ℕ) (melds : List Meld) (n : ℕ) (lacked : LackedKinds) → AreSuitsLacked hand melds (4 - length melds) n lacked.suits → AreSpecialLacked hand melds n lacked.special → AreLackedKinds hand melds n lacked
lacked_are hand melds n lacked suits special = record {
  at = λ kind inside.
      (let s = suits.at kind inside in
      let o = special.at kind inside in
      let law = by_forms hand melds n kind in
      let suit_bit = suits_lack lacked.suits kind in
      let other_bit = special_lacks lacked.special kind (slice_index hand kind) in (
        λ e. law.1 (⊎_elim (λ by_suit. inl (s.0 by_suit)) (λ by_other. inr (o.0 by_other)) (or_cases suit_bit other_bit e)),
        λ w. ⊎_elim (λ standard. or_left suit_bit other_bit (s.1 standard)) (λ other. or_right suit_bit other_bit (o.1 other)) (law.0 w),
      ));
}

pub standard_none_less : (hand : List ℕ) (melds : List Meld) (n sets : ℕ) → sets ≡ 4 - length melds → IsDistance hand melds n → NoneStandardLess hand melds sets n
standard_none_less hand melds n sets e is = λ wanted are four. is.none_less wanted (record { form = inl (subst (λ (m : ℕ). IsSetsAndPair m wanted) e are); within_four = four })

pub lacked_of : (hand : List ℕ) (melds : List Meld) (n : ℕ) → length melds ≤ 4 → ((kind : ℕ) → kind < 34 → tiles melds kind ≤ 4) → n ≡ distance_of hand melds → (sets : ℕ) → sets ≡ 4 - length melds →
    (lacked : LackedKinds) → (NoneStandardLess hand melds sets n → AreSuitsLacked hand melds sets n lacked.suits) → (SpecialLacks hand melds n → AreSpecialLacked hand melds n lacked.special) → AreLackedOf hand melds lacked
lacked_of hand melds n four few n_is sets sets_are lacked suits special = record {
  at_most_four = four;
  of_a_kind = few;
  least = subst (λ (m : ℕ). AreLackedKinds hand melds m lacked) n_is
      (lacked_are hand melds n lacked (subst (λ (m : ℕ). AreSuitsLacked hand melds m n lacked.suits) sets_are (suits (standard_none_less hand melds n sets sets_are is))) (special (special_none_less hand melds n is)));
}
  where
    is : IsDistance hand melds n
    is = subst (λ (m : ℕ). IsDistance hand melds m) (sym n_is) (distance_reached hand melds four few)

-- no special form of a hand lacks less than its distance
pub special_floor : (hand : List ℕ) (melds : List Meld) (n : ℕ) → length melds ≤ 4 → ((kind : ℕ) → kind < 34 → tiles melds kind ≤ 4) → n ≡ distance_of hand melds → SpecialLacks hand melds n
special_floor hand melds n four few n_is = special_none_less hand melds n (subst (λ (m : ℕ). IsDistance hand melds m) (sym n_is) (distance_reached hand melds four few))

pub ruleset lacked_without_facts = (lacked_of, special_floor)
