-- The least of the three forms' distances is the distance.
use Rattle.std.proofs.Common.{◌≡◌, ℕ, ◌-◌, ◌<◌, ◌≤◌, min, List, length, Bool, true, false, cond, eqb, Option, Some, None, refl, sym, ◌∙◌, subst, inl, inr, ⊎_elim, arith}
use Rattle.std.proofs.lemmas.Bool.Decides.{nat_tests}
use Rattle.riichi_rows.proofs.Joins.{min_is}
use Rattle.riichi_tiles.specs.Melds.{tiles}
use Rattle.riichi_tiles.specs.declared.meld.Meld.{Meld}
use Rattle.riichi_shape.specs.Distance.{IsLeastStandard, OrphansReached, PairsReached}
use Rattle.riichi_shape.specs.EveryWinning.{distance_of}
use Rattle.riichi_shape.specs.Forms.{IsPairsDistance, IsOrphansDistance, without_meld, min_with}
use Rattle.riichi_shape.specs.Special.{AreSpecialForms, IsSpecialDistance}
use Rattle.riichi_shape.specs.declared.special.SpecialForms.{SpecialForms}
use Rattle.riichi_shape.proofs.Distances.{standard_few, whole_distance}
use Rattle.riichi_shape.proofs.Uniqueness.{distance_is}

-- the nearer of both
pub special_distance : (hand : List ℕ) (melds : List Meld) (forms : SpecialForms) (q : ℕ) → q ≡ min forms.pairs.lack forms.orphans.lack → AreSpecialForms hand melds forms → IsSpecialDistance hand melds q
special_distance hand melds forms q e are = record {
  none_less = record {
    bound = λ wanted form.
        ⊎_elim (λ is. (let b = (are.pairs is.0).bound wanted is.1 in omega (arith, b, e))) (λ is. (let b = (are.orphans is.0).bound wanted is.1 in omega (arith, b, e))) form;
  };
  reached = λ none.
      ⊎_elim (λ f. inl (subst (λ (n : ℕ). PairsReached hand n) (sym (e ∙ f)) (are.pairs none).reached)) (λ f. inr (subst (λ (n : ℕ). OrphansReached hand n) (sym (e ∙ f)) (are.orphans none).reached))
      (min_is forms.pairs.lack forms.orphans.lack);
  beside = λ some. omega (arith, are.no_pairs some, are.no_orphans some, e);
}

no_melds : (n : ℕ) → true ≡ eqb n 0 → n ≡ 0
no_melds n e = grind (arith, nat_tests)

some_melds : (n : ℕ) → false ≡ eqb n 0 → 0 < n
some_melds n e = grind (arith, nat_tests)

-- a form that stands beside no meld
form_cases : (Is : Option ℕ → Type 0) (melded lack : ℕ) (none : Bool) → none ≡ eqb melded 0 → (melded ≡ 0 → Is (Some lack)) → (0 < melded → Is None) → Is (cond none (Some lack) None)
form_cases Is melded lack true e alone beside = alone (no_melds melded e)
form_cases Is melded lack false e alone beside = beside (some_melds melded e)

pub pairs_distance : (hand : List ℕ) (melds : List Meld) (forms : SpecialForms) → AreSpecialForms hand melds forms → IsPairsDistance hand melds (without_meld (length melds) forms.pairs.lack)
pairs_distance hand melds forms are =
    form_cases (IsPairsDistance hand melds) (length melds) forms.pairs.lack (eqb (length melds) 0) refl (λ none. (none, (are.pairs none).reached, (are.pairs none).bound)) (λ some. some)

pub orphans_distance : (hand : List ℕ) (melds : List Meld) (forms : SpecialForms) → AreSpecialForms hand melds forms → IsOrphansDistance hand melds (without_meld (length melds) forms.orphans.lack)
orphans_distance hand melds forms are =
    form_cases (IsOrphansDistance hand melds) (length melds) forms.orphans.lack (eqb (length melds) 0) refl (λ none. (none, (are.orphans none).reached, (are.orphans none).bound)) (λ some. some)

-- beside a meld the other forms are farther than any distance
least_cases : (n p o melded : ℕ) (none : Bool) → none ≡ eqb melded 0 → n ≤ 14 → (0 < melded → p ≡ 255) → (0 < melded → o ≡ 255) → min_with (min_with n (cond none (Some p) None)) (cond none (Some o) None) ≡ min n (min p o)
least_cases n p o melded true e few f g = omega arith
least_cases n p o melded false e few f g =
    let some = some_melds melded e in
    omega (arith, few, f some, g some)

pub least_form : (hand : List ℕ) (melds : List Meld) → length melds ≤ 4 → ((kind : ℕ) → kind < 34 → tiles melds kind ≤ 4) → (forms : SpecialForms) (n : ℕ) →
    IsLeastStandard hand melds (4 - length melds) (Some n) → AreSpecialForms hand melds forms →
    min_with (min_with n (without_meld (length melds) forms.pairs.lack)) (without_meld (length melds) forms.orphans.lack) ≡ distance_of hand melds
least_form hand melds four few forms n least are =
    let q = min forms.pairs.lack forms.orphans.lack in
    let special = special_distance hand melds forms q refl are in
    least_cases n forms.pairs.lack forms.orphans.lack (length melds) (eqb (length melds) 0) refl (standard_few hand melds four few n least) are.no_pairs are.no_orphans
    ∙ distance_is hand melds (min n q) (whole_distance hand melds four few n least q (min n q) special refl)
