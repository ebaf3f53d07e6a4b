-- What a hand lacks of the forms that stand beside no meld.
use Rattle.std.proofs.Common.{◌≡◌, ℕ, ◌<◌, Bool, true, false, cond, ◌⊎◌, inl, inr, List, length, refl, sym, ap, ◌∙◌, ⊎_elim, subst, arith}
use Rattle.std.proofs.lemmas.Bool.{cases_lt, false≢true, or_left, or_right, and_parts, and_from, eqb-true, eq-eqb, or_cases}
use Rattle.std.proofs.lemmas.Bool.Decides.{nat_tests}
use Rattle.std.proofs.Math.Bool.{and-false}
use Rattle.std.specs.Prelude.{slice_index, ◌==◌, ◌&&◌, ◌||◌, ◌↔◌, not}
use Rattle.riichi_tiles.specs.declared.meld.Meld.{Meld}
use Rattle.riichi_shape.specs.Distance.{IsDistance}
use Rattle.riichi_shape.specs.Lacked.{FormLacks}
use Rattle.riichi_tiles.specs.Forms.{IsSevenPairs, IsThirteenOrphans}
use Rattle.riichi_tiles.specs.Kinds.{is_orphan}
use Rattle.riichi_shape.specs.Special.{AreSpecialForms, AreSpecialLacked, SpecialLacks, lacked_at, lacks_held, no_kind, special_lacks}
use Rattle.riichi_shape.specs.declared.lacked_held.LackedHeld.{LackedHeld}
use Rattle.riichi_shape.specs.declared.nearest_form.NearestForm.{NearestForm}
use Rattle.riichi_shape.specs.declared.special.SpecialForms.{SpecialForms}
use Rattle.riichi_shape.specs.declared.special.SpecialLacked.{SpecialLacked}
use Rattle.riichi_shape.proofs.Distances.{no_tiles, orphans_winning, pairs_winning}

-- ---- kinds by how many are held

pub lacks_there : (held : ℕ) (lacked : LackedHeld) → lacks_held lacked held ≡ true → ((held ≡ 0) × (lacked.missing ≡ true)) ⊎ ((held ≡ 1) × (lacked.single ≡ true))
lacks_there held lacked e =
    ⊎_elim (λ none. (let b = and_parts (held == 0) lacked.missing none in inl (eqb-true held 0 b.0, b.1))) (λ one. (let b = and_parts (held == 1) lacked.single one in inr (eqb-true held 1 b.0, b.1)))
    (or_cases (held == 0 && lacked.missing) (held == 1 && lacked.single) e)

pub lacks_back : (held : ℕ) (lacked : LackedHeld) → ((held ≡ 0) × (lacked.missing ≡ true)) ⊎ ((held ≡ 1) × (lacked.single ≡ true)) → lacks_held lacked held ≡ true
lacks_back held lacked h =
    ⊎_elim (λ none. or_left (held == 0 && lacked.missing) (held == 1 && lacked.single) (and_from (held == 0) lacked.missing (eq-eqb held 0 none.0) none.1))
    (λ one. or_right (held == 0 && lacked.missing) (held == 1 && lacked.single) (and_from (held == 1) lacked.single (eq-eqb held 1 one.0) one.1)) h

no_kind_held : (held : ℕ) → lacks_held no_kind held ≡ false
no_kind_held held = rw (and-false (held == 0), and-false (held == 1)) refl

-- a form that stands beside no meld counts only where it lacks just n tiles
module _ (hand : List ℕ) (melds : List Meld) (n kind : ℕ) (low : n < 255) (IsForm : List ℕ → Type 0) (form : NearestForm) (lacks : LackedHeld → Bool) (none : lacks no_kind ≡ false)
    (far : 0 < length melds → form.lack ≡ 255) (least : length melds ≡ 0 → FormLacks IsForm hand melds n kind → form.lack ≡ n)
    (law : length melds ≡ 0 → (lacks form.lacked ≡ true) ↔ FormLacks IsForm hand melds form.lack kind) where
  form_is : (lacks (lacked_at form n) ≡ true) ↔ ((length melds ≡ 0) × FormLacks IsForm hand melds n kind)
  form_is = (there (form.lack == n) refl, back)
    where
      there : (t : Bool) → (form.lack == n) ≡ t → lacks (cond t form.lacked no_kind) ≡ true → (length melds ≡ 0) × FormLacks IsForm hand melds n kind
      there false t e = absurd (false≢true (sym none ∙ e))
      there true t e =
          let just = eqb-true form.lack n t in
          let no : length melds ≡ 0 = ⊎_elim (λ some. absurd (omega (arith, far some, just, low))) (λ not. omega (arith, not)) (cases_lt 0 (length melds)) in
          (no, subst (λ (m : ℕ). FormLacks IsForm hand melds m kind) just ((law no).0 e))

      back : (length melds ≡ 0) × FormLacks IsForm hand melds n kind → lacks (lacked_at form n) ≡ true
      back w =
          let just = least w.0 w.1 in
          subst (λ (t : Bool). lacks (cond t form.lacked no_kind) ≡ true) (sym (eq-eqb form.lack n just)) ((law w.0).1 (subst (λ (m : ℕ). FormLacks IsForm hand melds m kind) (sym just) w.1))

-- no special form lacks less than the distance
pub special_none_less : (hand : List ℕ) (melds : List Meld) (n : ℕ) → IsDistance hand melds n → SpecialLacks hand melds n
special_none_less hand melds n is = record {
  bound = λ wanted form. is.none_less wanted (⊎_elim (λ pairs. pairs_winning melds pairs.0 wanted pairs.1) (λ orphans. orphans_winning melds orphans.0 wanted orphans.1) form);
}

module _ (hand : List ℕ) (melds : List Meld) (forms : SpecialForms) (are : AreSpecialForms hand melds forms) (n : ℕ) (low : n < 255) (none_less : SpecialLacks hand melds n) where
  module _ (kind : ℕ) (inside : kind < 34) where
    abbrev held : ℕ
    held = slice_index hand kind

    pairs_law : (lacks_held (lacked_at forms.pairs n) held ≡ true) ↔ ((length melds ≡ 0) × FormLacks IsSevenPairs hand melds n kind)
    pairs_law = form_is hand melds n kind low IsSevenPairs forms.pairs (λ l. lacks_held l held) (no_kind_held held) are.no_pairs
        (λ no w. (let reached = (are.pairs no).reached in omega (arith, (are.pairs no).bound w.wanted w.is_form, w.lacks, none_less.bound reached.wanted (inl (no, reached.seven_pairs)), reached.lacks)))
        (λ no. (are.pairs no).lacked melds (no_tiles melds no) kind inside)

    orphans_law : ((lacks_held (lacked_at forms.orphans n) held && is_orphan kind) ≡ true) ↔ ((length melds ≡ 0) × FormLacks IsThirteenOrphans hand melds n kind)
    orphans_law = form_is hand melds n kind low IsThirteenOrphans forms.orphans (λ l. lacks_held l held && is_orphan kind) (ap (λ b. b && is_orphan kind) (no_kind_held held)) are.no_orphans
        (λ no w. (let reached = (are.orphans no).reached in omega (arith, (are.orphans no).bound w.wanted w.is_form, w.lacks, none_less.bound reached.wanted (inr (no, reached.thirteen_orphans)), reached.lacks)))
        (λ no. (are.orphans no).lacked melds (no_tiles melds no) kind inside)

  pub special_lacked : (lacked : SpecialLacked) → lacked.pairs ≡ lacked_at forms.pairs n → lacked.orphans ≡ lacked_at forms.orphans n → AreSpecialLacked hand melds n lacked
  special_lacked lacked pairs_are orphans_are = record {
    at = λ kind inside. rw (pairs_are, orphans_are)
        (let pair_bit = lacks_held (lacked_at forms.pairs n) (slice_index hand kind) in
        let orphan_bit = lacks_held (lacked_at forms.orphans n) (slice_index hand kind) && is_orphan kind in (
          λ e. ⊎_elim (λ p. inl ((pairs_law kind inside).0 p)) (λ o. inr ((orphans_law kind inside).0 o)) (or_cases pair_bit orphan_bit e),
          λ w. ⊎_elim (λ p. or_left pair_bit orphan_bit ((pairs_law kind inside).1 p)) (λ o. or_right pair_bit orphan_bit ((orphans_law kind inside).1 o)) w,
        ));
  }

pub nothing_lacked : (kind held : ℕ) → special_lacks (record { pairs = no_kind; orphans = no_kind }) kind held ≡ false
nothing_lacked kind held = rw (no_kind_held held) refl

-- no kind is lacked just where neither those that are not held nor those that are held once are
abbrev pub are_empty : SpecialLacked → Bool
are_empty lacked = not (lacked.pairs.missing || lacked.pairs.single) && not (lacked.orphans.missing || lacked.orphans.single)

lacks_none : (a b c d : Bool) → (not (a || b) && not (c || d)) ≡ true → (kind held : ℕ) → special_lacks (record { pairs = record { missing = a; single = b }; orphans = record { missing = c; single = d } }) kind held ≡ false
lacks_none true b c d e kind held = absurd (cc)
lacks_none false true c d e kind held = absurd (cc)
lacks_none false false true d e kind held = absurd (cc)
lacks_none false false false true e kind held = absurd (cc)
lacks_none false false false false e kind held = nothing_lacked kind held

pub empty_iff : (lacked : SpecialLacked) → (are_empty lacked ≡ true) ↔ ((kind held : ℕ) → special_lacks lacked kind held ≡ false)
empty_iff lacked = (
  lacks_none lacked.pairs.missing lacked.pairs.single lacked.orphans.missing lacked.orphans.single,
  λ none. let missing = none 0 0 in let single = none 0 1 in grind (arith, nat_tests),
)

-- where the forms lack more than n, they lack no kind at n
pub none_lacked : (hand : List ℕ) (melds : List Meld) (floor n : ℕ) → SpecialLacks hand melds floor → n < floor → (lacked : SpecialLacked) → ((kind : ℕ) → special_lacks lacked kind (slice_index hand kind) ≡ false) → AreSpecialLacked hand melds n lacked
none_lacked hand melds floor n bound more lacked none = record {
  at = λ kind inside. (
    λ e. absurd (false≢true (sym (none kind) ∙ e)),
    λ w. absurd (⊎_elim (λ p. (let b = bound.bound p.1.wanted (inl (p.0, p.1.is_form)) in omega (arith, b, more, p.1.lacks))) (λ o. (let b = bound.bound o.1.wanted (inr (o.0, o.1.is_form)) in omega (arith, b, more, o.1.lacks))) w),
  );
}

pub ruleset lacked_without_facts = (none_lacked, nothing_lacked)
