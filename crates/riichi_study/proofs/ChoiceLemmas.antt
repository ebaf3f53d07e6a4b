-- Choices written one after another.
use Rattle.std.proofs.Common.{◌≡◌, ℕ, suc, ◌+◌, ◌<◌, ◌≤◌, Bool, true, false, not, List, [], ◌∷◌, ◌++◌, Some, length, drop, refl, sym, ap, ◌∙◌, append_assoc, arith}
use Rattle.std.proofs.lemmas.Bool.Decides.{nat_tests}
use Rattle.std.proofs.lemmas.List.{append-nil, drop_all}
use Rattle.std.proofs.lemmas.Option.{get_or_from_slice_get, slice_get_within}
use Rattle.std.proofs.Math.Seq.{drop-cons}
use Rattle.std.specs.Prelude.{◌==◌, codes, if◌then◌else◌, nat_lt, slice_get}
use Rattle.riichi_shape.specs.declared.discard.Discard.{Discard}
use Rattle.riichi_study.specs.Reasons.{before_choice, before_place, choice_text, choices_from}

-- ---- what stands before a choice

abbrev is_last : List Discard → Bool
is_last [] = true
is_last (next ∷ behind) = false

by_tests : (behind : List Discard) (later first last : Bool) → later ≡ not first → last ≡ is_last behind → before_choice later behind ≡ (if first then [] else if last then codes " or " else codes ", ")
by_tests behind later true last e h = ap (λ l. before_choice l behind) e
by_tests [] later false last e h = ap (λ l. before_choice l []) e ∙ sym (ap (λ l. if l then codes " or " else codes ", ") h)
by_tests (next ∷ behind) later false last e h = ap (λ l. before_choice l (next ∷ behind)) e ∙ sym (ap (λ l. if l then codes " or " else codes ", ") h)

is_later : (place : ℕ) → nat_lt 0 place ≡ not (place == 0)
is_later place = by_test (place == 0) refl
  where
    by_test : (t : Bool) → (place == 0) ≡ t → nat_lt 0 place ≡ not t
    by_test true e = grind (arith, nat_tests)
    by_test false e = grind (arith, nat_tests)

ends : (place count : ℕ) (behind : List Discard) → count ≡ place + 1 + length behind → (place + 1 == count) ≡ is_last behind
ends place count [] e = grind (arith, nat_tests)
ends place count (next ∷ behind) e = more (length behind) e
  where
    more : (n : ℕ) → count ≡ place + 1 + suc n → (place + 1 == count) ≡ false
    more n e = grind (arith, nat_tests)

before_is : (place count : ℕ) (behind : List Discard) → count ≡ place + 1 + length behind → before_choice (nat_lt 0 place) behind ≡ before_place place count
before_is place count behind e = by_tests behind (nat_lt 0 place) (place == 0) (place + 1 == count) (is_later place) (ends place count behind e)

is_positive : (place : ℕ) → nat_lt 0 (place + 1) ≡ true
is_positive place = grind (arith, nat_tests)

-- ---- one choice more

module _ (discards : List Discard) (place : ℕ) (discard : Discard) (there : slice_get discards place ≡ Some discard) where
  within : place < length discards
  within = slice_get_within discards place discard there

  from_here : drop place discards ≡ discard ∷ drop (place + 1) discards
  from_here =
      drop-cons discards place discard within
      ∙ ap (λ (d : Discard). d ∷ drop (suc place) discards) (get_or_from_slice_get discards place discard discard there)
      ∙ ap (λ k. discard ∷ drop k discards) one_more
    where
      one_more : suc place ≡ place + 1
      one_more = omega arith

  all_behind : length discards ≡ place + 1 + length (drop (place + 1) discards)
  all_behind = omega (arith, ap length from_here, within, length_from discards place (omega (arith, within)))
    where
      length_from : (xs : List Discard) (n : ℕ) → n ≤ length xs → length xs ≡ n + length (drop n xs)
      length_from xs n low = omega (arith, Rattle.std.proofs.Common.length-drop n xs)

  pub choice_put : (count : ℕ) (before now after : List ℕ) → count ≡ length discards → before ≡ now ++ choices_from (nat_lt 0 place) (drop place discards)
      → after ≡ now ++ (before_place place count ++ choice_text discard) → before ≡ after ++ choices_from (nat_lt 0 (place + 1)) (drop (place + 1) discards)
  choice_put count before now after count_is so_far put =
      let behind : List Discard = drop (place + 1) discards in
      let rest : List ℕ = choices_from true behind in
      so_far
      ∙ ap (λ (ds : List Discard). now ++ choices_from (nat_lt 0 place) ds) from_here
      ∙ ap (λ (t : List ℕ). now ++ (t ++ choice_text discard ++ rest)) (before_is place count behind (count_is ∙ all_behind))
      ∙ regroup now (before_place place count) (choice_text discard) rest
      ∙ ap (λ (t : List ℕ). t ++ rest) (sym put)
      ∙ ap (λ l. after ++ choices_from l behind) (sym (is_positive place))
    where
      regroup : (a b c d : List ℕ) → a ++ (b ++ c ++ d) ≡ a ++ (b ++ c) ++ d
      regroup a b c d = sym (append_assoc a (b ++ c) d)

-- all are written
pub choices_put : (discards : List Discard) (place : ℕ) (before now : List ℕ) → length discards ≤ place → before ≡ now ++ choices_from (nat_lt 0 place) (drop place discards) → now ≡ before
choices_put discards place before now all so_far =
    sym (so_far ∙ ap (λ (ds : List Discard). now ++ choices_from (nat_lt 0 place) ds) (drop_all place discards all) ∙ append-nil now)
