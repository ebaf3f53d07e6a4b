-- Groups read from the end of a text.
use Rattle.std.proofs.Common.{◌≡◌, ℕ, ◌+◌, ◌-◌, ◌<◌, ◌≤◌, suc, true, cond, List, [], ◌∷◌, ◌++◌, length, map, drop, slice_index, slice_set, IsTrue, nat_eq, refl, sym, ap, ◌∙◌, subst, inl, inr, arith, append_assoc, get_or-set_same, get_or-set_other, eq-eqb}
use Rattle.std.specs.List.{AllByRecursion, count_by, flat_map}
use Rattle.std.proofs.lemmas.Bool.{cases_eq, ne_eqb}
use Rattle.std.proofs.lemmas.List.Sums.{sum_by-cons, sum_by-append}
use Rattle.std.proofs.Math.Seq.{drop-cons, drop-length}
use Rattle.riichi_tiles.specs.Tiles.{IsCounts}
use Rattle.riichi_tiles.specs.Notation.{is_digit, is_suit, suit_has, kind_of, Group, IsGroup, text_of_group, kinds_of_group}
use Rattle.riichi_tiles.specs.Groups.{AddsGroupBefore}

-- the digits from `start` up to the letter at `place`, each one that its suit has, are added
pub record AddsDigitsBefore (old new text : List ℕ) (start place : ℕ) : Type 0 where
  pub digits : List ℕ
  pub each_digit : AllByRecursion (λ digit. IsTrue (is_digit digit) × IsTrue (suit_has (slice_index text place) digit)) digits
  pub text_is : drop start text ≡ digits ++ drop place text
  pub long : start + length digits ≡ place
  pub added : (kind : ℕ) → slice_index new kind ≡ slice_index old kind + count_by (nat_eq kind) (map (kind_of (slice_index text place)) digits)
  pub are_counts : IsCounts new

pub no_digits : (counts text : List ℕ) (place : ℕ) → IsCounts counts → AddsDigitsBefore counts counts text place place
no_digits counts text place are =
    record { digits = []; each_digit = tt; text_is = refl; long = omega arith; added = λ kind. omega arith; are_counts = are }

-- one tile more
one_more : (counts : List ℕ) (tile kind : ℕ) → tile < length counts
    → slice_index (slice_set counts tile (slice_index counts tile + 1)) kind ≡ slice_index counts kind + cond {A = ℕ} (nat_eq kind tile) 1 0
one_more counts tile kind short =
    let more : ℕ = slice_index counts tile + 1 in
    elim (cases_eq kind tile) [
      | inl e ↦
          let one : cond {A = ℕ} (nat_eq kind tile) 1 0 ≡ 1 = rw (eq-eqb kind tile e) refl in
          let here : slice_index (slice_set counts tile more) kind ≡ more = ap (slice_index (slice_set counts tile more)) e ∙ get_or-set_same counts tile more 0 short in
          let same : slice_index counts tile ≡ slice_index counts kind = ap (slice_index counts) (sym e) in
          omega (arith, one, here, same)
      | inr ne ↦
          let none : cond {A = ℕ} (nat_eq kind tile) 1 0 ≡ 0 = rw (ne_eqb kind tile ne) refl in
          omega (arith, none, get_or-set_other counts tile kind more 0 ne)
    ]

-- the digit before them
pub digit_before : (old counts new text : List ℕ) (before start place : ℕ) → AddsDigitsBefore old counts text start place
    → before + 1 ≡ start → start ≤ length text
    → is_digit (slice_index text before) ≡ true → suit_has (slice_index text place) (slice_index text before) ≡ true
    → kind_of (slice_index text place) (slice_index text before) < 34
    → new ≡ slice_set counts (kind_of (slice_index text place) (slice_index text before)) (slice_index counts (kind_of (slice_index text place) (slice_index text before)) + 1)
    → IsCounts new → AddsDigitsBefore old new text before place
digit_before old counts new text before start place adds next within digit has near is are =
    let d : ℕ = slice_index text before in
    let letter : ℕ = slice_index text place in
    let P : ℕ → Type 0 = λ n. drop before text ≡ d ∷ drop n text in
    let e : suc before ≡ start = omega (arith, next) in
    record {
      digits = d ∷ adds.digits;
      each_digit = ((digit, has), adds.each_digit);
      text_is = subst P e (drop-cons text before 0 (omega (arith, next))) ∙ ap (λ t. d ∷ t) adds.text_is;
      long = omega (arith, next, adds.long);
      added = λ kind.
          let more : slice_index new kind ≡ slice_index counts kind + cond {A = ℕ} (nat_eq kind (kind_of letter d)) 1 0 =
          ap (λ t. slice_index t kind) is ∙ one_more counts (kind_of letter d) kind (omega (arith, adds.are_counts.each_kind, near)) in
          omega (arith, more, adds.added kind, sum_by-cons (λ t. cond {A = ℕ} (nat_eq kind t) 1 0) (kind_of letter d) (map (kind_of letter) adds.digits));
      are_counts = are;
    }

-- the whole group
pub group_before : (old new text : List ℕ) (start end : ℕ) → AddsDigitsBefore old new text start (end - 1) → 0 < end → end ≤ length text
    → start < end - 1 → is_suit (slice_index text (end - 1)) ≡ true → AddsGroupBefore old new text start end
group_before old new text start end adds some within fewer suit =
    let place : ℕ = end - 1 in
    let letter : ℕ = slice_index text place in
    let P : ℕ → Type 0 = λ n. drop place text ≡ letter ∷ drop n text in
    let e : suc place ≡ end = omega arith in
    record {
      group = record { digits = adds.digits; letter = letter };
      is_group = record { some = omega (arith, adds.long); of_suit = suit; each_digit = adds.each_digit };
      text_is = adds.text_is ∙ ap (λ t. adds.digits ++ t) (subst P e (drop-cons text place 0 (omega arith)))
          ∙ sym (append_assoc adds.digits (letter ∷ []) (drop end text));
      begins = omega arith;
      added = adds.added;
      are_counts = adds.are_counts;
    }

-- the groups from a place on, counted
pub record SpellsFrom (text counts : List ℕ) (place : ℕ) : Type 0 where
  pub groups : List Group
  pub each_group : AllByRecursion IsGroup groups
  pub text_is : drop place text ≡ flat_map text_of_group groups
  pub counted : (kind : ℕ) → slice_index counts kind ≡ count_by (nat_eq kind) (flat_map kinds_of_group groups)
  pub are_counts : IsCounts counts
  pub within : place ≤ length text

pub spells_nothing : (text counts : List ℕ) → ((kind : ℕ) → slice_index counts kind ≡ 0) → IsCounts counts → SpellsFrom text counts (length text)
spells_nothing text counts none are =
    record { groups = []; each_group = tt; text_is = drop-length text; counted = none; are_counts = are; within = omega arith }

pub spells_group : (text counts new : List ℕ) (start end : ℕ) → SpellsFrom text counts end → AddsGroupBefore counts new text start end → SpellsFrom text new start
spells_group text counts new start end spells adds =
    let g : Group = adds.group in
    record {
      groups = g ∷ spells.groups;
      each_group = (adds.is_group, spells.each_group);
      text_is = adds.text_is ∙ ap (λ t. text_of_group g ++ t) spells.text_is;
      counted = λ kind. omega (
        arith,
        adds.added kind,
        spells.counted kind,
        sum_by-append (λ t. cond {A = ℕ} (nat_eq kind t) 1 0) (kinds_of_group g) (flat_map kinds_of_group spells.groups),
      );
      are_counts = adds.are_counts;
      within = omega (arith, adds.begins, spells.within);
    }

pub ruleset group_before_facts = (no_digits, digit_before, group_before)
