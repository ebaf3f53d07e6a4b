-- One step along the choices, and along the pairs.
use Rattle.std.proofs.Common.{inl, inr, min, ◌^◌, length-drop, ◌≤◌, ◌&&◌, leb, length, drop, add-one, ◌+◌, is_some, MatchOption, ◌≡◌, ℕ, ◌-◌, ◌<◌, true, false, cond, Option, Some, None, List, [], ◌∷◌, ◌++◌, get_or, slice_set, refl, sym, ap, ◌∙◌, arith, ltb}
use Rattle.std.proofs.lemmas.Bool.Decides.{nat_tests}
use Rattle.std.proofs.Math.Seq.{drop-cons}
use Rattle.riichi_tiles.specs.declared.block.Block.{Block}
use Rattle.riichi_split.proofs.Sound.{doubts-cons, few_choices}
use Rattle.riichi_split.proofs.AllSplits.{beside-inv}
use Rattle.std.proofs.lemmas.Bool.{cases_lt, lt-ltb, cond-true}
use Rattle.riichi_split.proofs.Falling.{falling-step, falling-none, falling-passed}
use Rattle.riichi_split.specs.Cuts.{doubts, may_have_runs, sets_beside, split_of, from_choices, from_pairs, cut_from}

pub from_choices-step : (c : List ℕ) (wanted p n : ℕ) (o : Option (List Block)) → 0 < n → o ≡ sets_beside c wanted p (n - 1) → from_choices c wanted p n ≡ split_of p o ++ from_choices c wanted p (n - 1)
unfolding from_choices
from_choices-step c wanted p n o l e =
    falling-step (λ x. split_of p (sets_beside c wanted p x)) n l ∙ ap (λ z. split_of p z ++ from_choices c wanted p (n - 1)) (sym e)

pub from_choices_none : (c : List ℕ) (wanted p n : ℕ) → n ≡ 0 → from_choices c wanted p n ≡ []
unfolding from_choices
from_choices_none c wanted p n e = falling-none (λ x. split_of p (sets_beside c wanted p x)) n e

pub from_choices-passed : (c : List ℕ) (wanted p fewer n : ℕ) → fewer ≤ n → ((x : ℕ) → fewer ≤ x → x < n → split_of p (sets_beside c wanted p x) ≡ []) → from_choices c wanted p n ≡ from_choices c wanted p fewer
unfolding from_choices
from_choices-passed c wanted p fewer n l none = falling-passed (λ x. split_of p (sets_beside c wanted p x)) fewer n l none

pub from_pairs_step : (c : List ℕ) (wanted m first n : ℕ) → 0 < n → from_pairs c wanted m first n ≡ from_choices c wanted (first + (n - 1)) m ++ from_pairs c wanted m first (n - 1)
unfolding from_pairs
from_pairs_step c wanted m first n l = falling-step (λ k. from_choices c wanted (first + k) m) n l

pub from_pairs_none : (c : List ℕ) (wanted m first n : ℕ) → n ≡ 0 → from_pairs c wanted m first n ≡ []
unfolding from_pairs
from_pairs_none c wanted m first n e = falling-none (λ k. from_choices c wanted (first + k) m) n e

-- a kind with fewer than two tiles is no pair
pub no_pair : (c : List ℕ) (wanted p n : ℕ) → get_or c p 0 < 2 → from_choices c wanted p n ≡ []
no_pair c wanted p n h =
    from_choices-passed c wanted p 0 n (omega arith) (λ x a b. ap (split_of p) (cond-true (ltb (get_or c p 0) 2) None (cut_from 0 (slice_set c p (get_or c p 0 - 2)) 0 0 wanted x) (lt-ltb (get_or c p 0) 2 h))) ∙ from_choices_none c wanted p 0 refl

pub sets_found : (c : List ℕ) (wanted p n m : ℕ) (o : Option (List Block)) → 0 < n → o ≡ sets_beside c wanted p (n - 1) → is_some o ≡ true → from_choices c wanted p n ≡ from_choices c wanted p m → MatchOption o ((from_choices c wanted p m ≡ []) × (n - 1 ≡ 0)) (λ sets. from_choices c wanted p m ≡ record { sets = sets; pair = p } ∷ from_choices c wanted p (n - 1))
sets_found c wanted p n m None l e s h = absurd (cc)
sets_found c wanted p n m (Some sets) l e s h = sym h ∙ from_choices-step c wanted p n (Some sets) l e

pub sets_passed : (c : List ℕ) (wanted p n m : ℕ) (o : Option (List Block)) → 0 < n → o ≡ sets_beside c wanted p (n - 1) → is_some o ≡ false → from_choices c wanted p n ≡ from_choices c wanted p m → from_choices c wanted p (n - 1) ≡ from_choices c wanted p m
sets_passed c wanted p n m None l e s h = sym (from_choices-step c wanted p n None l e) ∙ h
sets_passed c wanted p n m (Some sets) l e s h = absurd (cc)

pub splits_ended : (c : List ℕ) (wanted p m a first b : ℕ) → from_choices c wanted p a ≡ [] → from_pairs c wanted m first b ≡ [] → from_choices c wanted p a ++ from_pairs c wanted m first b ≡ []
splits_ended c wanted p m a first b e f = ap (λ z. z ++ from_pairs c wanted m first b) e ∙ f

-- one kind more that may be in doubt
pub doubts_step : (c : List ℕ) (k : ℕ) → k < length c → doubts (drop k c) ≡ doubts (drop (k + 1) c) + cond (leb 3 (get_or c k 0) && may_have_runs (drop (k + 1) c)) 1 0
doubts_step c k l =
    let d : drop k c ≡ get_or c k 0 ∷ drop (k + 1) c = rw add-one (drop-cons c k 0 l) in
    ap doubts d ∙ doubts-cons (get_or c k 0) (drop (k + 1) c)

-- two kinds alone are in no doubt
short-doubts : (c : List ℕ) → length c ≤ 2 → doubts c ≡ 0
unfolding doubts
short-doubts [] l = refl
short-doubts (a ∷ []) l = grind (arith, nat_tests)
short-doubts (a ∷ (b ∷ [])) l = grind (arith, nat_tests)
short-doubts (a ∷ (b ∷ (d ∷ c))) l = absurd (omega arith)

-- from the last two kinds on none is in doubt
pub doubts_last : (c : List ℕ) (k : ℕ) → length c ≤ k + 2 → doubts (drop k c) ≡ 0
doubts_last c k l = short-doubts (drop k c) (omega (arith, length-drop k c))

-- ---- the choices beside a pair

-- a number too great for the kinds in doubt makes no sets
no-sets : (c : List ℕ) (wanted p x : ℕ) (o : Option (List Block)) → sets_beside c wanted p x ≡ o → 2 ^ doubts (slice_set c p (get_or c p 0 - 2)) ≤ x → o ≡ None
no-sets c wanted p x None e many = refl
no-sets c wanted p x (Some bs) e many =
    let rest = slice_set c p (get_or c p 0 - 2) in
    let few = few_choices rest 0 0 0 wanted x bs (beside-inv c wanted p x bs _ refl e).1 in
    absurd (omega (arith, few, many))

enough : (d n choices x : ℕ) → choices ≤ 16 → n ≡ min (2 ^ min 4 d) choices → n ≤ x → x < choices → 2 ^ d ≤ x
enough d n choices x small e least below =
    elim (cases_lt 4 d) [
      | inl many ↦
          let four : min 4 d ≡ 4 = omega arith in
          let all : 2 ^ min 4 d ≡ 16 = ap (λ k. 2 ^ k) four in
          absurd (omega (arith, e, all))
      | inr few ↦
          let own : min 4 d ≡ d = omega arith in
          let same : 2 ^ min 4 d ≡ 2 ^ d = ap (λ k. 2 ^ k) own in
          omega (arith, e, same)
    ]

pub choices_with : (c : List ℕ) (wanted p n choices : ℕ) → choices ≤ 16 → n ≡ min (2 ^ min 4 (doubts (slice_set c p (get_or c p 0 - 2)))) choices → from_choices c wanted p n ≡ from_choices c wanted p choices
choices_with c wanted p n choices small e =
    let d = doubts (slice_set c p (get_or c p 0 - 2)) in
    sym (from_choices-passed c wanted p n choices (omega (arith, e)) (λ x a b. ap (split_of p) (no-sets c wanted p x (sets_beside c wanted p x) refl (enough d n choices x small e a b))))

pub ruleset next_facts = (splits_ended, from_choices_none, from_pairs_none)

pub ruleset next_sets_facts = (sets_found, sets_passed, from_choices_none)

pub ruleset next_fitting_facts = (from_pairs_step, from_pairs_none, no_pair)
