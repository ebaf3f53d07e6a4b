-- A text spells a meld exactly where it is read as that meld.
use Rattle.std.proofs.Common.{◌≡◌, ℕ, ◌+◌, ◌<◌, ◌≤◌, zero, suc, Bool, true, false, List, [], ◌∷◌, ◌++◌, Option, Some, None, Ok, Err, map, slice_index, nat_eq, refl, sym, ap, ◌∙◌, subst, inl, inr, arith}
use Rattle.std.specs.List.{find, list_all, range_with_len}
use Rattle.std.specs.Str.{bytes_eq}
use Rattle.std.proofs.lemmas.Bool.{cases_lt, cases_Bool, and_parts, and_from, eqb-true, eq-eqb, false_from_ne_true}
use Rattle.std.proofs.lemmas.Bool.Decides.{nat_tests}
use Rattle.std.proofs.lemmas.List.{get_or_past}
use Rattle.std.proofs.lemmas.Slice.Eq.{bytes_eq-Decides}
use Rattle.riichi_tiles.specs.Tiles.{IsCounts}
use Rattle.riichi_tiles.specs.Notation.{Spells, reading_of}
use Rattle.riichi_tiles.specs.Melds.{every_kind, tiles_of, is_meld, every_name, word_of_name, name_of, SpellsMeld, cut_at, name_by_word, melded, has_just, reads_as, meld_by_counts, named_before, cut_named, meld_after, meld_of}
use Rattle.riichi_tiles.specs.declared.meld.Meld.{Meld}
use Rattle.riichi_tiles.specs.declared.meld.Meld.TheVariants.{Chi, Pon, Kan, Ankan}
use Rattle.riichi_tiles.specs.declared.meld.MeldName.{MeldName}
use Rattle.riichi_tiles.specs.declared.meld.MeldName.TheVariants as names
use Rattle.riichi_tiles.specs.declared.notation.NotationFault.{NotationFault}
use Rattle.riichi_tiles.proofs.CutLemmas.{Joins, cut_joins}
use Rattle.riichi_tiles.proofs.FirstFault.{reading_of_spelled}

-- The word and the colon.

cut_word : (name : MeldName) (rest : List ℕ) → cut_named (cut_at 58 (word_of_name name ++ 58 ∷ rest)) ≡ Some (name, rest)
cut_word names.Chi rest = refl
cut_word names.Pon rest = refl
cut_word names.Kan rest = refl
cut_word names.Ankan rest = refl

pub find_passes : {X : Type 0} (p : X → Bool) (xs : List X) (x : X) → find p xs ≡ Some x → p x ≡ true
find_passes p [] x is = let bad : None ≡ Some x = is in absurd (cc)
find_passes {X} p (y ∷ ys) x is =
    elim (cases_Bool (p y)) [
      | inl passes ↦
          let here : Some y ≡ Some x = rw passes at is in
          let same : y ≡ x = cc in
          let P : X → Type 0 = λ z. p z ≡ true in
          subst P same passes
      | inr fails ↦ find_passes p ys x (rw fails at is)
    ]

named_word : (word : List ℕ) (name : MeldName) → name_by_word word ≡ Some name → word ≡ word_of_name name
named_word word name is = (bytes_eq-Decides word (word_of_name name)).0 (find_passes (λ n. bytes_eq word (word_of_name n)) every_name name is)

CutText : List ℕ → Option (MeldName × List ℕ) → Type 0
CutText text None = Unit {0}
CutText text (Some cut) = text ≡ word_of_name cut.0 ++ 58 ∷ cut.1

cut_text : (text : List ℕ) (cut : Option (List ℕ × List ℕ)) → Joins 58 text cut → CutText text (cut_named cut)
unfolding Joins CutText
cut_text text None joins = tt
cut_text text (Some cut) joins = go (name_by_word cut.0) refl
  where
    go : (found : Option MeldName) → name_by_word cut.0 ≡ found → CutText text (named_before found cut.1)
    go None e = tt
    go (Some name) e = joins ∙ ap (λ word. word ++ 58 ∷ cut.1) (named_word cut.0 name e)

pub text_of_cut : (text : List ℕ) (name : MeldName) (rest : List ℕ) → cut_named (cut_at 58 text) ≡ Some (name, rest) → text ≡ word_of_name name ++ 58 ∷ rest
unfolding CutText
text_of_cut text name rest is =
    let P : Option (MeldName × List ℕ) → Type 0 = CutText text in
    subst P is (cut_text text (cut_at 58 text) (cut_joins 58 text))

-- The tiles.

all_in_range : (p : ℕ → Bool) (start n i : ℕ) → list_all p (range_with_len start n) ≡ true → start ≤ i → i < start + n → p i ≡ true
all_in_range p start zero i all low high = absurd (omega arith)
all_in_range p start (suc n) i all low high =
    let parts = and_parts (p start) (list_all p (range_with_len (start + 1) n)) all in
    elim (cases_lt start i) [
      | inl later ↦ all_in_range p (start + 1) n i parts.1 (omega arith) (omega arith)
      | inr here ↦ (let P : ℕ → Type 0 = λ k. p k ≡ true in let e : start ≡ i = omega arith in subst P e parts.0)
    ]

range_all : (p : ℕ → Bool) (start n : ℕ) → ((i : ℕ) → p i ≡ true) → list_all p (range_with_len start n) ≡ true
range_all p start zero each = refl
range_all p start (suc n) each = and_from (p start) (list_all p (range_with_len (start + 1) n)) (each start) (range_all p (start + 1) n each)

-- the one that passes is found, where no other does
find_made : {X : Type 0} (p : X → Bool) (make : ℕ → X) (start n k : ℕ) → start ≤ k → k < start + n → p (make k) ≡ true
    → ((i : ℕ) → start ≤ i → i < k → p (make i) ≡ false) → find p (map make (range_with_len start n)) ≡ Some (make k)
find_made p make start zero k low high passes fail = absurd (omega arith)
find_made {X} p make start (suc n) k low high passes fail =
    elim (cases_lt start k) [
      | inl later ↦ rw (fail start (omega arith) later) (find_made p make (start + 1) n k (omega arith) (omega arith) passes (λ i from below. fail i (omega arith) below))
      | inr here ↦
          let Q : ℕ → Type 0 = λ i. p (make i) ≡ true in
          let R : ℕ → Type 0 = λ i. Some (make start) ≡ Some (make i) in
          let e : start ≡ k = omega arith in
          rw (subst Q (sym e) passes) (subst R e refl)
    ]

-- what is found is one that was made
made_found : {X : Type 0} (p : X → Bool) (make : ℕ → X) (start n : ℕ) (x : X) → find p (map make (range_with_len start n)) ≡ Some x
    → (i : ℕ) × (i < start + n) × (x ≡ make i)
made_found p make start zero x is = let bad : None ≡ Some x = is in absurd (cc)
made_found {X} p make start (suc n) x is =
    elim (cases_Bool (p (make start))) [
      | inl passes ↦
          let here : Some (make start) ≡ Some x = rw passes at is in
          let same : x ≡ make start = cc in
          (start, omega arith, same)
      | inr fails ↦
          let later = made_found p make (start + 1) n x (rw fails at is) in
          (later.0, omega (arith, later.1), later.2)
    ]

kind_in : Meld → ℕ
kind_in (Chi low) = low
kind_in (Pon kind) = kind
kind_in (Kan kind) = kind
kind_in (Ankan kind) = kind

melded_same : (meld : Meld) → melded (name_of meld) (kind_in meld) ≡ meld
unfolding kind_in
melded_same (Chi low) = refl
melded_same (Pon kind) = refl
melded_same (Kan kind) = refl
melded_same (Ankan kind) = refl

name_made : (name : MeldName) (kind : ℕ) → name_of (melded name kind) ≡ name
name_made names.Chi kind = refl
name_made names.Pon kind = refl
name_made names.Kan kind = refl
name_made names.Ankan kind = refl

has_its_kind : (meld : Meld) → 0 < tiles_of meld (kind_in meld)
unfolding kind_in
has_its_kind (Chi low) = grind (arith, nat_tests)
has_its_kind (Pon kind) = grind (arith, nat_tests)
has_its_kind (Kan kind) = grind (arith, nat_tests)
has_its_kind (Ankan kind) = grind (arith, nat_tests)

-- melds of one name with the same tiles are the same
same_kind : (name : MeldName) (i k : ℕ) → tiles_of (melded name i) i ≡ tiles_of (melded name k) i → tiles_of (melded name i) k ≡ tiles_of (melded name k) k → i ≡ k
same_kind names.Chi i k at_i at_k = grind (arith, nat_tests)
same_kind names.Pon i k at_i at_k = grind (arith, nat_tests)
same_kind names.Kan i k at_i at_k = grind (arith, nat_tests)
same_kind names.Ankan i k at_i at_k = grind (arith, nat_tests)

none_past : (name : MeldName) (i kind : ℕ) → i < 34 → is_meld (melded name i) ≡ true → 34 ≤ kind → tiles_of (melded name i) kind ≡ 0
none_past names.Chi i kind short proper past = grind (arith, nat_tests)
none_past names.Pon i kind short proper past = grind (arith, nat_tests)
none_past names.Kan i kind short proper past = grind (arith, nat_tests)
none_past names.Ankan i kind short proper past = grind (arith, nat_tests)

kind_below : (counts : List ℕ) (meld : Meld) → IsCounts counts → ((kind : ℕ) → slice_index counts kind ≡ tiles_of meld kind) → kind_in meld < 34
kind_below counts meld are just =
    elim (cases_lt (kind_in meld) 34) [
      | inl below ↦ below
      | inr past ↦ absurd (omega (arith, has_its_kind meld, just (kind_in meld), get_or_past counts (kind_in meld) 0 (omega (arith, are.each_kind))))
    ]

pub just_at : (counts : List ℕ) (meld : Meld) (kind : ℕ) → has_just counts meld ≡ true → kind < 34 → slice_index counts kind ≡ tiles_of meld kind
just_at counts meld kind just below =
    eqb-true (slice_index counts kind) (tiles_of meld kind)
    (all_in_range (λ k. nat_eq (slice_index counts k) (tiles_of meld k)) 0 34 kind just (omega arith) (omega arith))

-- the meld with just these tiles is found
finds_meld : (counts : List ℕ) (meld : Meld) → IsCounts counts → is_meld meld ≡ true → ((kind : ℕ) → slice_index counts kind ≡ tiles_of meld kind)
    → find (reads_as counts) (map (melded (name_of meld)) every_kind) ≡ Some meld
finds_meld counts meld are proper just =
    let name : MeldName = name_of meld in
    let k : ℕ = kind_in meld in
    let below : k < 34 = kind_below counts meld are just in
    let P : Meld → Type 0 = λ m. reads_as counts m ≡ true in
    let passes : reads_as counts meld ≡ true =
    and_from (is_meld meld) (has_just counts meld) proper
    (range_all (λ kind. nat_eq (slice_index counts kind) (tiles_of meld kind)) 0 34 (λ kind. eq-eqb (slice_index counts kind) (tiles_of meld kind) (just kind))) in
    find_made (reads_as counts) (melded name) 0 34 k (omega arith) (omega arith) (subst P (sym (melded_same meld)) passes)
    (λ i low before. false_from_ne_true (reads_as counts (melded name i)) (λ is.
    let parts = and_parts (is_meld (melded name i)) (has_just counts (melded name i)) is in
    let agree : (kind : ℕ) → kind < 34 → tiles_of (melded name i) kind ≡ tiles_of (melded name k) kind =
    (λ kind short. sym (just_at counts (melded name i) kind parts.1 short) ∙ just kind ∙ ap (λ m. tiles_of m kind) (sym (melded_same meld))) in
    let same : i ≡ k = same_kind name i k (agree i (omega arith)) (agree k below) in
    omega arith))
    ∙ ap Some (melded_same meld)

-- Only the meld of the lowest kind can have just the tiles.

has_own : (name : MeldName) (i : ℕ) → 0 < tiles_of (melded name i) i
has_own names.Chi i = grind (arith, nat_tests)
has_own names.Pon i = grind (arith, nat_tests)
has_own names.Kan i = grind (arith, nat_tests)
has_own names.Ankan i = grind (arith, nat_tests)

none_before : (name : MeldName) (i kind : ℕ) → kind < i → tiles_of (melded name i) kind ≡ 0
none_before names.Chi i kind less = grind (arith, nat_tests)
none_before names.Pon i kind less = grind (arith, nat_tests)
none_before names.Kan i kind less = grind (arith, nat_tests)
none_before names.Ankan i kind less = grind (arith, nat_tests)

reads_lowest : (counts : List ℕ) (name : MeldName) (i low : ℕ) → i < 34 → low < 34 → ((kind : ℕ) → kind < low → slice_index counts kind ≡ 0)
    → 0 < slice_index counts low → reads_as counts (melded name i) ≡ true → i ≡ low
reads_lowest counts name i low short below none some is =
    let just = (and_parts (is_meld (melded name i)) (has_just counts (melded name i)) is).1 in
    let at_low = just_at counts (melded name i) low just below in
    let at_i = just_at counts (melded name i) i just short in
    elim (cases_lt i low) [
      | inl less ↦ absurd (omega (arith, has_own name i, at_i, none i less))
      | inr more ↦ elim (cases_lt low i) [ inl over ↦ absurd (omega (arith, some, at_low, none_before name i low over)) | inr same ↦ omega arith ]
    ]

find_none : {X : Type 0} (p : X → Bool) (make : ℕ → X) (start n : ℕ) → ((i : ℕ) → start ≤ i → i < start + n → p (make i) ≡ false)
    → find p (map make (range_with_len start n)) ≡ None
find_none p make start zero fails = refl
find_none p make start (suc n) fails = rw (fails start (omega arith) (omega arith)) (find_none p make (start + 1) n (λ i low high. fails i (omega arith) (omega arith)))

pub finds_lowest : (counts : List ℕ) (name : MeldName) (low : ℕ) → low < 34 → 0 < slice_index counts low → ((kind : ℕ) → kind < low → slice_index counts kind ≡ 0)
    → reads_as counts (melded name low) ≡ true → find (reads_as counts) (map (melded name) every_kind) ≡ Some (melded name low)
finds_lowest counts name low below some none passes =
    find_made (reads_as counts) (melded name) 0 34 low (omega arith) (omega arith) passes
    (λ i from before. false_from_ne_true (reads_as counts (melded name i)) (λ is. omega (arith, reads_lowest counts name i low (omega arith) below none some is)))

pub finds_no_other : (counts : List ℕ) (name : MeldName) (low : ℕ) → low < 34 → 0 < slice_index counts low → ((kind : ℕ) → kind < low → slice_index counts kind ≡ 0)
    → reads_as counts (melded name low) ≡ false → find (reads_as counts) (map (melded name) every_kind) ≡ None
finds_no_other counts name low below some none fails =
    find_none (reads_as counts) (melded name) 0 34
    (λ i from short. false_from_ne_true (reads_as counts (melded name i)) (λ is.
    let P : ℕ → Type 0 = λ k. reads_as counts (melded name k) ≡ true in
    let passes = subst P (reads_lowest counts name i low (omega arith) below none some is) is in
    let bad : true ≡ false = sym passes ∙ fails in cc))

pub finds_nothing : (counts : List ℕ) (name : MeldName) → ((kind : ℕ) → kind < 34 → slice_index counts kind ≡ 0) → find (reads_as counts) (map (melded name) every_kind) ≡ None
finds_nothing counts name none =
    find_none (reads_as counts) (melded name) 0 34
    (λ i from short. false_from_ne_true (reads_as counts (melded name i)) (λ is.
    let just = (and_parts (is_meld (melded name i)) (has_just counts (melded name i)) is).1 in
    omega (arith, has_own name i, just_at counts (melded name i) i just (omega arith), none i (omega arith))))

-- Both directions.

pub meld_of_spelled : (text : List ℕ) (meld : Meld) → SpellsMeld text meld → meld_of text ≡ Some meld
unfolding meld_of
meld_of_spelled text meld s =
    ap (λ t. meld_after (cut_named (cut_at 58 t))) s.text_is ∙ ap meld_after (cut_word (name_of meld) s.notation)
    ∙ ap (meld_by_counts (name_of meld)) (reading_of_spelled s.notation s.counts s.spelled)
    ∙ finds_meld s.counts meld s.spelled.are_counts s.proper s.just_its_tiles

pub meld_of_read : (text : List ℕ) (name : MeldName) (rest counts : List ℕ) → cut_named (cut_at 58 text) ≡ Some (name, rest) → reading_of rest ≡ Ok counts
    → meld_of text ≡ find (reads_as counts) (map (melded name) every_kind)
unfolding meld_of
meld_of_read text name rest counts cut read = ap meld_after cut ∙ ap (meld_by_counts name) read

pub meld_of_refused : (text : List ℕ) (name : MeldName) (rest : List ℕ) (fault : NotationFault) → cut_named (cut_at 58 text) ≡ Some (name, rest)
    → reading_of rest ≡ Err fault → meld_of text ≡ None
unfolding meld_of
meld_of_refused text name rest fault cut read = ap meld_after cut ∙ ap (meld_by_counts name) read

pub found_spells : (text : List ℕ) (name : MeldName) (rest counts : List ℕ) (meld : Meld) → cut_named (cut_at 58 text) ≡ Some (name, rest) → Spells rest counts
    → find (reads_as counts) (map (melded name) every_kind) ≡ Some meld → SpellsMeld text meld
found_spells text name rest counts meld cut spelled found =
    let made = made_found (reads_as counts) (melded name) 0 34 meld found in
    let passes = and_parts (is_meld meld) (has_just counts meld) (find_passes (reads_as counts) (map (melded name) every_kind) meld found) in
    let P : Meld → Type 0 = λ m. is_meld m ≡ true in
    let named_so : name_of meld ≡ name = ap name_of made.2 ∙ name_made name made.0 in
    record {
      notation = rest;
      counts = counts;
      text_is = text_of_cut text name rest cut ∙ ap (λ n. word_of_name n ++ 58 ∷ rest) (sym named_so);
      spelled = spelled;
      just_its_tiles = λ kind. elim (cases_lt kind 34) [
        | inl below ↦ just_at counts meld kind passes.1 below
        | inr past ↦
            get_or_past counts kind 0 (omega (arith, spelled.are_counts.each_kind))
            ∙ sym (none_past name made.0 kind (omega (arith, made.1)) (subst P made.2 passes.0) past)
            ∙ ap (λ m. tiles_of m kind) (sym made.2)
      ];
      proper = passes.0;
    }
