-- The function that returns what a text spells, or its first fault, agrees with the relations.
use Rattle.std.proofs.Common.{◌≡◌, ◌⊎◌, ℕ, ◌+◌, ◌<◌, ◌≤◌, zero, suc, Bool, true, false, List, [], ◌∷◌, Option, Some, None, Ok, Err, length, map, take, drop, slice_index, slice_index_or, nat_eq, nat_lt, ◌&&◌, refl, sym, ap, ◌∙◌, subst, inl, inr, arith}
use Rattle.std.specs.Prelude.{not, option_map}
use Rattle.std.specs.List.{count_by, find, range_with_len}
use Rattle.std.proofs.lemmas.Bool.{false≢true, cases_lt, cases_Bool, false_from_ne_true, and_parts, not-true, eqb-true, eq-eqb, ltb-true, lt-ltb, not_from_false, and_from}
use Rattle.std.proofs.lemmas.List.{get_or_past, nil_from_length}
use Rattle.std.proofs.lemmas.List.FromFn.{fill_by_all}
use Rattle.riichi_tiles.specs.Notation.{is_digit, is_suit, closing, kinds, is_kind, suit_has_at, IsAfterDigit, HasFault, IsFirstFault, Spells, is_after_digit, is_fifth, has_fault, every_code, fault_at, first_some, notation_fault, counts_of, or_fault, reading_of}
use Rattle.riichi_tiles.specs.declared.notation.NotationCode.{NotationCode}
use Rattle.riichi_tiles.specs.declared.notation.NotationCode.TheVariants.{N1, N2, N3, N4, N5, N6}
use Rattle.riichi_tiles.specs.declared.notation.NotationFault.{NotationFault}
use Rattle.riichi_tiles.proofs.OneFault.{code_is}
use Rattle.riichi_tiles.proofs.Spelling.{no_fault_spelled, counted_kinds, length_kinds}

-- The tests decide.

after_true : (text : List ℕ) (place : ℕ) → IsAfterDigit text place → is_after_digit text place ≡ true
after_true text place after =
    let P : ℕ → Type 0 = λ n. is_after_digit text n ≡ true in
    let e : suc after.0 ≡ place = omega (arith, after.1) in
    subst P e after.2

true_after : (text : List ℕ) (place : ℕ) → is_after_digit text place ≡ true → IsAfterDigit text place
true_after text zero is = absurd (false≢true is)
true_after text (suc before) is = (before, omega arith, is)

fifth_true : (option : Option ℕ) (before : List (Option ℕ)) (kind : ℕ) → option ≡ Some kind → count_by (is_kind kind) before ≡ 4 → is_fifth option before ≡ true
fifth_true option before kind is four = rw is (eq-eqb (count_by (is_kind kind) before) 4 four)

true_fifth : (option : Option ℕ) (before : List (Option ℕ)) → is_fifth option before ≡ true → (kind : ℕ) × (option ≡ Some kind) × (count_by (is_kind kind) before ≡ 4)
true_fifth None before is = absurd (false≢true is)
true_fifth (Some kind) before is = (kind, refl, eqb-true (count_by (is_kind kind) before) 4 is)

pub has_fault_true : (text : List ℕ) (code : NotationCode) (place : ℕ) → HasFault text code place → has_fault text place code ≡ true
has_fault_true text N1 place fault =
    let none : length text ≡ 0 = ap length fault.0 in
    and_from (nat_eq (length text) 0) (nat_eq place 0) (eq-eqb (length text) 0 none) (eq-eqb place 0 fault.1)
has_fault_true text N2 place fault = rw (lt-ltb place (length text) fault.0, fault.1, fault.2) refl
has_fault_true text N3 place fault = and_from (nat_eq place (length text)) (is_after_digit text place) (eq-eqb place (length text) fault.0) (after_true text place fault.1)
has_fault_true text N4 place fault =
    elim (cases_Bool (is_after_digit text place)) [
      | inl after ↦ absurd (fault.1 (true_after text place after))
      | inr fresh ↦ and_from (is_suit (slice_index text place)) (not (is_after_digit text place)) fault.0 (not_from_false (is_after_digit text place) fresh)
    ]
has_fault_true text N5 place fault = rw (fault.0.a_digit, fault.0.by_letter, fault.1) refl
has_fault_true text N6 place fault = fifth_true (slice_index_or (kinds text) place None) (take place (kinds text)) fault.0 fault.1 fault.2

pub true_has_fault : (text : List ℕ) (code : NotationCode) (place : ℕ) → has_fault text place code ≡ true → HasFault text code place
true_has_fault text N1 place is =
    let parts = and_parts (nat_eq (length text) 0) (nat_eq place 0) is in
    (nil_from_length text (eqb-true (length text) 0 parts.0), eqb-true place 0 parts.1)
true_has_fault text N2 place is =
    let digit : Bool = is_digit (slice_index text place) in
    let suit : Bool = is_suit (slice_index text place) in
    let parts = and_parts (nat_lt place (length text)) (not digit && not suit) is in
    let neither = and_parts (not digit) (not suit) parts.1 in
    (ltb-true place (length text) parts.0, not-true digit neither.0, not-true suit neither.1)
true_has_fault text N3 place is =
    let parts = and_parts (nat_eq place (length text)) (is_after_digit text place) is in
    (eqb-true place (length text) parts.0, true_after text place parts.1)
true_has_fault text N4 place is =
    let parts = and_parts (is_suit (slice_index text place)) (not (is_after_digit text place)) is in
    (parts.0, λ after. false≢true (sym (not-true (is_after_digit text place) parts.1) ∙ after_true text place after))
true_has_fault text N5 place is =
    let digit : Bool = is_digit (slice_index text place) in
    let suit : Bool = is_suit (closing (drop place text)) in
    let parts = and_parts (digit && suit) (not (suit_has_at text place)) is in
    let closed = and_parts digit suit parts.0 in
    (record { a_digit = closed.0; by_letter = closed.1 }, not-true (suit_has_at text place) parts.1)
true_has_fault text N6 place is = true_fifth (slice_index_or (kinds text) place None) (take place (kinds text)) is

-- The fault at a place, and the first of all.

abbrev Has : NotationCode → List NotationCode → Type 0
Has code [] = ⊥
Has code (other ∷ codes) = (other ≡ code) ⊎ Has code codes

every_has : (code : NotationCode) → Has code every_code
every_has N1 = inl refl
every_has N2 = inr (inl refl)
every_has N3 = inr (inr (inl refl))
every_has N4 = inr (inr (inr (inl refl)))
every_has N5 = inr (inr (inr (inr (inl refl))))
every_has N6 = inr (inr (inr (inr (inr (inl refl)))))

-- the one that passes is found, where no other does
find_one : (p : NotationCode → Bool) (code : NotationCode) (codes : List NotationCode) → p code ≡ true
    → ((other : NotationCode) → p other ≡ true → other ≡ code) → Has code codes → find p codes ≡ Some code
find_one p code [] is only has = absurd has
find_one p code (other ∷ codes) is only has =
    elim (cases_Bool (p other)) [
      | inl passes ↦ rw passes (ap Some (only other passes))
      | inr fails ↦
          let e : ⊥ ⊎ Has code codes = elim has [ inl same ↦ (let P : NotationCode → Type 0 = λ c. p c ≡ true in inl (false≢true (sym fails ∙ subst P (sym same) is))) | inr later ↦ inr later ] in
          rw fails (find_one p code codes is only (elim e [ inl bad ↦ absurd bad | inr later ↦ later ]))
    ]

find_none : (p : NotationCode → Bool) (codes : List NotationCode) → ((code : NotationCode) → p code ≡ false) → find p codes ≡ None
find_none p [] fails = refl
find_none p (code ∷ codes) fails = rw (fails code) (find_none p codes fails)

fault_at_there : (text : List ℕ) (fault : NotationFault) → HasFault text fault.code fault.place → fault_at text fault.place ≡ Some fault
fault_at_there text fault there =
    let make : NotationCode → NotationFault = λ code. record { code = code; place = fault.place } in
    ap (option_map make) (find_one (has_fault text fault.place) fault.code every_code (has_fault_true text fault.code fault.place there)
    (λ other is. code_is text other fault.place (true_has_fault text other fault.place is) ∙ sym (code_is text fault.code fault.place there))
    (every_has fault.code))

fault_at_none : (text : List ℕ) (place : ℕ) → ((code : NotationCode) → HasFault text code place → ⊥) → fault_at text place ≡ None
fault_at_none text place none =
    let make : NotationCode → NotationFault = λ code. record { code = code; place = place } in
    ap (option_map make) (find_none (has_fault text place) every_code
    (λ code. false_from_ne_true (has_fault text place code) (λ is. none code (true_has_fault text code place is))))

first_some_none : {X : Type 0} (f : ℕ → Option X) (start n : ℕ) → ((i : ℕ) → f i ≡ None) → first_some (map f (range_with_len start n)) ≡ None
first_some_none f start zero none = refl
first_some_none f start (suc n) none = rw (none start) (first_some_none f (start + 1) n none)

first_some_at : {X : Type 0} (f : ℕ → Option X) (start n place : ℕ) (x : X) → start ≤ place → place < start + n → f place ≡ Some x
    → ((i : ℕ) → i < place → f i ≡ None) → first_some (map f (range_with_len start n)) ≡ Some x
first_some_at f start zero place x low high is none = absurd (omega arith)
first_some_at {X} f start (suc n) place x low high is none =
    elim (cases_lt start place) [
      | inl before ↦ rw (none start before) (first_some_at f (start + 1) n place x (omega arith) (omega arith) is none)
      | inr here ↦
          let P : ℕ → Type 0 = λ i. f i ≡ Some x in
          let e : place ≡ start = omega arith in
          rw (subst P e is) refl
    ]

-- no fault stands past the end
fault_within : (text : List ℕ) (code : NotationCode) (place : ℕ) → HasFault text code place → place < length text + 1
fault_within text N1 place fault = omega (arith, fault.1)
fault_within text N2 place fault = omega (arith, fault.0)
fault_within text N3 place fault = omega (arith, fault.0)
fault_within text N4 place fault =
    elim (cases_lt place (length text)) [
      | inl within ↦ omega arith
      | inr past ↦ (let bad : is_suit 0 ≡ true = rw (get_or_past text place 0 past) at fault.0 in absurd (false≢true bad))
    ]
fault_within text N5 place fault =
    elim (cases_lt place (length text)) [
      | inl within ↦ omega arith
      | inr past ↦ (let bad : is_digit 0 ≡ true = rw (get_or_past text place 0 past) at fault.0.a_digit in absurd (false≢true bad))
    ]
fault_within text N6 place fault =
    elim (cases_lt place (length text)) [
      | inl within ↦ omega arith
      | inr past ↦ (let bad : None ≡ Some fault.0 = sym (get_or_past (kinds text) place None (omega (arith, length_kinds text))) ∙ fault.1 in absurd (cc))
    ]

pub reading_of_fault : (text : List ℕ) (fault : NotationFault) → IsFirstFault text fault → reading_of text ≡ Err fault
unfolding notation_fault
reading_of_fault text fault is =
    ap (λ found. or_fault found (counts_of text)) (first_some_at (fault_at text) 0 (length text + 1) fault.place fault (omega arith)
    (omega (arith, fault_within text fault.code fault.place is.is_there))
    (fault_at_there text fault is.is_there)
    (λ i before. fault_at_none text i (λ code there. omega (arith, is.least code i there))))

pub reading_of_spelled : (text counts : List ℕ) → Spells text counts → reading_of text ≡ Ok counts
unfolding notation_fault counts_of
reading_of_spelled text counts s =
    ap (λ found. or_fault found (counts_of text))
    (first_some_none (fault_at text) 0 (length text + 1) (λ i. fault_at_none text i (λ code there. no_fault_spelled text counts s code i there)))
    ∙ ap Ok (sym (fill_by_all (λ kind. count_by (is_kind kind) (kinds text)) counts 34 0 s.are_counts.each_kind (λ k short. counted_kinds text counts s k)))

pub ruleset read_counts_facts = (reading_of_spelled, reading_of_fault)
