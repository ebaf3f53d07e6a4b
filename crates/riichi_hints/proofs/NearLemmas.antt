-- When so many letters left out lead from one word to another, and which name is reached.
use Rattle.std.proofs.Common.{◌≡◌, ◌≢◌, ◌⊎◌, inl, inr, ℕ, ◌+◌, ◌-◌, ◌*◌, ◌<◌, ◌≤◌, List, [], ◌∷◌, ◌++◌, Bool, Option, None, Some, length, get_or, take, drop, map, leb, refl, ◌∙◌, sym, ap, subst, arith}
use Rattle.std.specs.Borrow.{Bor}
use Rattle.std.specs.List.{All, Any, cons_option}
use Rattle.std.proofs.lemmas.List.{append-nil, length-map, take_more, get_or-map}
use Rattle.std.proofs.lemmas.List.Elements.{All-map, All-same, filter_map-append}
use Rattle.riichi_hints.specs.declared.names.Meaning.{Meaning}
use Rattle.std.proofs.lemmas.Bool.{leb-true, le-leb}
use Rattle.std.proofs.lemmas.List.{take_rest}
use Rattle.std.specs.Bool.{Decides}
use Rattle.riichi_hints.specs.Near.{IsPart, IsWithin, small_letter, plain_name, names, IsReached, IsNearest}

-- ---- parts

no_letter : (word : List ℕ) → IsPart [] word
no_letter [] = tt
no_letter (first ∷ word) = tt

-- a part of the rest is a part of the whole
part_more : (first : ℕ) (part word : List ℕ) → IsPart part word → IsPart part (first ∷ word)
part_more first [] word h = tt
part_more first (letter ∷ part) word h = inr h

-- a part without its first letter is a part
tail_part : (letter : ℕ) (part word : List ℕ) → IsPart (letter ∷ part) word → IsPart part word
tail_part letter part [] h = absurd h
tail_part letter part (first ∷ word) (inl both) = part_more first part word both.1
tail_part letter part (first ∷ word) (inr later) = part_more first part word (tail_part letter part word later)

-- and it is one of the rest
rest_part : (letter first : ℕ) (part word : List ℕ) → IsPart (letter ∷ part) (first ∷ word) → IsPart part word
rest_part letter first part word (inl both) = both.1
rest_part letter first part word (inr later) = tail_part letter part word later

length_part : (part word : List ℕ) → IsPart part word → length part ≤ length word
length_part [] word h = omega arith
length_part (letter ∷ part) [] h = absurd h
length_part (letter ∷ part) (first ∷ word) (inl both) = let e : length part ≤ length word = length_part part word both.1 in omega arith
length_part (letter ∷ part) (first ∷ word) (inr later) =
    let e : length (letter ∷ part) ≤ length word = length_part (letter ∷ part) word later in omega arith

-- ---- a word without a letter

pub swapped : {edits : ℕ} {word other : List ℕ} → IsWithin edits word other → IsWithin edits other word
swapped h = record { left = h.left; in_word = h.in_other; in_other = h.in_word; few = omega (arith, h.few) }

within_nothing : (edits : ℕ) (other : List ℕ) → length other ≤ edits → IsWithin edits [] other
within_nothing edits other h = record { left = []; in_word = tt; in_other = no_letter other; few = omega arith }

nothing_within : (edits : ℕ) (other : List ℕ) → IsWithin edits [] other → length other ≤ edits
nothing_within edits other h = let e : length h.left ≤ 0 = length_part h.left [] h.in_word in omega (arith, h.few)

-- ---- words that begin alike: some longest common part begins so too

same_more : (edits first second : ℕ) (after rest : List ℕ) → first ≡ second
    → IsWithin edits after rest → IsWithin edits (first ∷ after) (second ∷ rest)
same_more edits first second after rest same h = record {
  left = first ∷ h.left;
  in_word = inl (refl, h.in_word);
  in_other = inl (same, h.in_other);
  few = omega (arith, h.few);
}

same_left : (edits first second : ℕ) (left after rest : List ℕ)
    → IsPart left (first ∷ after) → IsPart left (second ∷ rest)
    → length (first ∷ after) + length (second ∷ rest) ≤ edits + 2 * length left → IsWithin edits after rest
same_left edits first second [] after rest g h few =
    record { left = []; in_word = no_letter after; in_other = no_letter rest; few = omega arith }
same_left edits first second (letter ∷ left) after rest g h few = record {
  left = left;
  in_word = rest_part letter first left after g;
  in_other = rest_part letter second left rest h;
  few = omega arith;
}

same_less : (edits first second : ℕ) (after rest : List ℕ) → IsWithin edits (first ∷ after) (second ∷ rest) → IsWithin edits after rest
same_less edits first second after rest h = same_left edits first second h.left after rest h.in_word h.in_other h.few

-- ---- words that begin otherwise: one of the first letters is left out

word_more : (edits first : ℕ) (after other : List ℕ) → 0 < edits → IsWithin (edits - 1) after other → IsWithin edits (first ∷ after) other
word_more edits first after other some h = record {
  left = h.left;
  in_word = part_more first h.left after h.in_word;
  in_other = h.in_other;
  few = omega (arith, h.few);
}

abbrev OneLess : ℕ → ℕ → ℕ → List ℕ → List ℕ → Type 0
OneLess edits first second after rest =
    (0 < edits) × (IsWithin (edits - 1) after (second ∷ rest) ⊎ IsWithin (edits - 1) (first ∷ after) rest)

other_left : (edits first second : ℕ) (left after rest : List ℕ) → first ≢ second
    → IsPart left (first ∷ after) → IsPart left (second ∷ rest)
    → length (first ∷ after) + length (second ∷ rest) ≤ edits + 2 * length left → OneLess edits first second after rest
other_left edits first second [] after rest differ g h few =
    (omega arith, inl (record { left = []; in_word = no_letter after; in_other = tt; few = omega arith }))
other_left edits first second (letter ∷ left) after rest differ (inr later) h few =
    let e : length (letter ∷ left) ≤ length after = length_part (letter ∷ left) after later in
    let f : length (letter ∷ left) ≤ length (second ∷ rest) = length_part (letter ∷ left) (second ∷ rest) h in
    (omega arith, inl (record { left = letter ∷ left; in_word = later; in_other = h; few = omega arith }))
other_left edits first second (letter ∷ left) after rest differ (inl both) (inr later) few =
    let e : length (letter ∷ left) ≤ length (first ∷ after) = length_part (letter ∷ left) (first ∷ after) (inl both) in
    let f : length (letter ∷ left) ≤ length rest = length_part (letter ∷ left) rest later in
    (omega arith, inr (record { left = letter ∷ left; in_word = inl both; in_other = later; few = omega arith }))
other_left edits first second (letter ∷ left) after rest differ (inl both) (inl also) few =
    absurd (differ (sym both.0 ∙ also.0))

other_less : (edits first second : ℕ) (after rest : List ℕ) → first ≢ second
    → IsWithin edits (first ∷ after) (second ∷ rest) → OneLess edits first second after rest
other_less edits first second after rest differ h = other_left edits first second h.left after rest differ h.in_word h.in_other h.few

-- ---- what the code asks of words by their places

abbrev pub rest : List ℕ → List ℕ
rest word = take (length word - 1) (drop 1 word)

pub rest_is : (first : ℕ) (after : List ℕ) → rest (first ∷ after) ≡ after
rest_is first after = take_rest (first ∷ after) 1

pub word_ends : (edits : ℕ) (word other : List ℕ) → length word < 1 → Decides (leb (length other) edits) (IsWithin edits word other)
word_ends edits [] other h = (λ e. within_nothing edits other (leb-true _ _ e), λ w. le-leb _ _ (nothing_within edits other w))
word_ends edits (first ∷ after) other h = absurd (omega arith)

pub begin_alike : (edits : ℕ) (word other : List ℕ) (found : Bool) → 0 < length word → 0 < length other
    → get_or word 0 0 ≡ get_or other 0 0
    → Decides found (IsWithin edits (rest word) (rest other)) → Decides found (IsWithin edits word other)
begin_alike edits [] other found some also same h = absurd (omega arith)
begin_alike edits (first ∷ after) [] found some also same h = absurd (omega arith)
begin_alike edits (first ∷ after) (second ∷ later) found some also same h =
    let g = rw (rest_is first after, rest_is second later) at h in
    (λ e. same_more edits first second after later same (g.0 e), λ w. g.1 (same_less edits first second after later w))

pub first_left_out : (edits : ℕ) (word other : List ℕ) → 0 < length word → 0 < edits
    → IsWithin (edits - 1) (rest word) other → IsWithin edits word other
first_left_out edits [] other some more h = absurd (omega arith)
first_left_out edits (first ∷ after) other some more h = word_more edits first after other more (rw (rest_is first after) at h)

pub begin_otherwise : (edits : ℕ) (word other : List ℕ) → 0 < length word → 0 < length other
    → get_or word 0 0 ≢ get_or other 0 0 → IsWithin edits word other
    → (0 < edits) × (IsWithin (edits - 1) (rest word) other ⊎ IsWithin (edits - 1) word (rest other))
begin_otherwise edits [] other some also differ h = absurd (omega arith)
begin_otherwise edits (first ∷ after) [] some also differ h = absurd (omega arith)
begin_otherwise edits (first ∷ after) (second ∷ later) some also differ h =
    rw (rest_is first after, rest_is second later) (other_less edits first second after later differ h)

-- ---- the name of a word, letter by letter

letter_more : (word : List ℕ) (i : ℕ) (letter : Option ℕ) → small_letter (get_or word i 0) ≡ letter → i < length word
    → plain_name (take (i + 1) word) ≡ plain_name (take i word) ++ cons_option letter []
letter_more word i letter e h =
    ap plain_name (take_more word i 0 h) ∙ (filter_map-append small_letter (take i word) (get_or word i 0 ∷ [])
    ∙ ap (λ (o : Option ℕ). plain_name (take i word) ++ cons_option o []) e)

pub letter_kept : (word : List ℕ) (i letter : ℕ) → small_letter (get_or word i 0) ≡ Some letter → i < length word
    → plain_name (take (i + 1) word) ≡ plain_name (take i word) ++ letter ∷ []
letter_kept word i letter e h = letter_more word i (Some letter) e h

pub letter_left_out : (word : List ℕ) (i : ℕ) → small_letter (get_or word i 0) ≡ None → i < length word
    → plain_name (take (i + 1) word) ≡ plain_name (take i word)
letter_left_out word i e h = letter_more word i None e h ∙ append-nil (plain_name (take i word))

-- ---- the names by their places

abbrev pub row_of : Bor (List ℕ) × Meaning → List ℕ × Meaning
row_of row = (row.0.now, row.1)

pub none_reached : (rows : List (Bor (List ℕ) × Meaning)) (P : List ℕ × Meaning → Type 0)
    → map row_of rows ≡ names → All (λ row. P (row_of row)) rows → All P names
none_reached rows P are all = All-same P names (map row_of rows) (sym are) (All-map P row_of rows all)

pub reached_at : (rows : List (Bor (List ℕ) × Meaning)) (i edits : ℕ) (name : List ℕ) (d : Bor (List ℕ) × Meaning)
    → map row_of rows ≡ names → i < length rows → IsWithin edits (get_or rows i d).0.now name
    → IsReached edits name (get_or rows i d).1
reached_at rows i edits name d are h near =
    let row : List ℕ × Meaning = row_of (get_or rows i d) in
    subst (Any (λ (other : List ℕ × Meaning). (other.1 ≡ row.1) × IsWithin edits other.0 name)) are
    (i, row, simp length-map (omega arith), get_or-map row_of rows i d row h, (refl, near))

pub nearest_at : (name : List ℕ) (edits : ℕ) (meaning : Meaning)
    → edits ≤ 2 → 2 * edits ≤ length name
    → ((fewer : ℕ) → fewer < edits → All (λ row. IsWithin fewer row.0 name → ⊥) names)
    → IsReached edits name meaning → IsNearest name meaning
nearest_at name edits meaning few half none reached = record {
  edits = edits;
  few = few;
  half_at_most = half;
  reached = reached;
  least = λ fewer other few h. none fewer few h.0 h.1 h.2 (subst (λ (row : List ℕ × Meaning). IsWithin fewer row.0 name) (sym h.3) h.4.1);
}
