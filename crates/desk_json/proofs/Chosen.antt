-- The texts of those numbers from 0 on that pass a test, written one after another.
use Rattle.std.proofs.Common.{◌≡◌, ℕ, zero, suc, ◌+◌, ◌<◌, ◌≤◌, Bool, true, false, cond, Some, take, length, List, [], ◌∷◌, ◌++◌, map, refl, sym, ap, ◌∙◌, append_assoc, arith}
use Rattle.std.proofs.lemmas.Bool.{lt-ltb}
use Rattle.std.proofs.lemmas.List.{append-nil, map-append, map-id, map_more}
use Rattle.std.proofs.lemmas.List.FromFn.{filter_of_map_range_with_len_more}
use Rattle.std.specs.List.{filter, range_with_len}
use Rattle.std.specs.Prelude.{slice_index, slice_get, nat_lt}
use Rattle.std.proofs.lemmas.Option.{get_or_from_slice_get, slice_get_within}
use Rattle.riichi_shape.specs.LiveCopies.{pairs_of}
use Rattle.riichi_shape.specs.declared.discard.Discard.{Discard}
use Rattle.desk_json.specs.Parts.{comma_if, listed, live_json, discard_json}
use Rattle.desk_json.proofs.Lists.{is_begun, begun_one_more, joined_more}

unfoldable pub texts_below : (ℕ → List ℕ) → (ℕ → Bool) → ℕ → List (List ℕ)
texts_below text test n = map text (filter test (range_with_len 0 n))

-- what stands behind a text after the numbers below n, and whether that is more than nothing
pub record IsWrittenTo (text : ℕ → List ℕ) (test : ℕ → Bool) (n : ℕ) (before now : List ℕ) (later : Bool) : Type 0 where
  pub bytes : now ≡ before ++ listed (texts_below text test n)
  pub begun : later ≡ is_begun (texts_below text test n)

texts_last : (text : ℕ → List ℕ) (test : ℕ → Bool) (n : ℕ) → texts_below text test (n + 1) ≡ texts_below text test n ++ map text (cond (test n) (n ∷ []) [])
unfolding texts_below
texts_last text test n =
    let more = filter_of_map_range_with_len_more test (λ k. k) 0 n n (omega arith) in
    ap (map text) (simp map-id at more) ∙ map-append text (filter test (range_with_len 0 n)) (cond (test n) (n ∷ []) [])

pub start : (text : ℕ → List ℕ) (test : ℕ → Bool) (before : List ℕ) → IsWrittenTo text test 0 before before false
unfolding texts_below
start text test before = record { bytes = sym (append-nil before); begun = refl }

regroup : (a b c d : List ℕ) → ((a ++ b) ++ c) ++ d ≡ a ++ (b ++ (c ++ d))
regroup a b c d = simp append_assoc

-- after one that passes the test
pub with_one : (text : ℕ → List ℕ) (test : ℕ → Bool) (n : ℕ) (before now then : List ℕ) (later later' : Bool) → test n ≡ true → IsWrittenTo text test n before now later
    → then ≡ (now ++ comma_if later) ++ text n → later' ≡ true → IsWrittenTo text test (n + 1) before then later'
with_one text test n before now then later later' passes so_far e is =
    let texts = texts_below text test n in
    let more : texts_below text test (n + 1) ≡ texts ++ text n ∷ [] = texts_last text test n ∙ ap (λ b. texts ++ map text (cond b (n ∷ []) [])) passes in
    record {
      bytes = e ∙ ap (λ l. (now ++ comma_if l) ++ text n) so_far.begun ∙ ap (λ t. (t ++ comma_if (is_begun texts)) ++ text n) so_far.bytes
          ∙ regroup before (listed texts) (comma_if (is_begun texts)) (text n)
          ∙ ap (λ t. before ++ t) (sym (joined_more texts (text n)) ∙ ap listed (sym more));
      begun = is ∙ begun_one_more texts (text n) ∙ ap is_begun (sym more);
    }

-- after one that doesn't
pub without_one : (text : ℕ → List ℕ) (test : ℕ → Bool) (n : ℕ) (before now then : List ℕ) (later later' : Bool) → test n ≡ false → IsWrittenTo text test n before now later
    → then ≡ now → later' ≡ later → IsWrittenTo text test (n + 1) before then later'
without_one text test n before now then later later' fails so_far e is =
    let texts = texts_below text test n in
    let same : texts_below text test (n + 1) ≡ texts = texts_last text test n ∙ ap (λ b. texts ++ map text (cond b (n ∷ []) [])) fails ∙ append-nil texts in
    record {
      bytes = e ∙ so_far.bytes ∙ ap (λ ts. before ++ listed ts) (sym same);
      begun = is ∙ so_far.begun ∙ ap is_begun (sym same);
    }

-- the texts of all numbers below an end
pub at_end : (text : ℕ → List ℕ) (test : ℕ → Bool) (n end : ℕ) (before now : List ℕ) (later : Bool) → IsWrittenTo text test n before now later → n ≤ end → end ≤ n
    → now ≡ before ++ listed (texts_below text test end)
at_end text test n end before now later so_far most least =
    let same : n ≡ end = omega arith in
    so_far.bytes ∙ ap (λ m. before ++ listed (texts_below text test m)) same

-- ---- the texts of a list

begun_map : {X : Type 0} (text : X → List ℕ) (xs : List X) → is_begun xs ≡ is_begun (map text xs)
begun_map text [] = refl
begun_map text (x ∷ xs) = refl

-- after one more of its elements
pub listed_more : {X : Type 0} (text : X → List ℕ) (before now then : List ℕ) (done : List X) (x : X) (later : Bool) → now ≡ before ++ listed (map text done) → later ≡ is_begun done
    → then ≡ (now ++ comma_if later) ++ text x → then ≡ before ++ listed (map text (done ++ x ∷ []))
listed_more text before now then done x later so_far begun e =
    let texts : List (List ℕ) = map text done in
    e ∙ ap (λ l. (now ++ comma_if l) ++ text x) (begun ∙ begun_map text done) ∙ ap (λ t. (t ++ comma_if (is_begun texts)) ++ text x) so_far
    ∙ regroup before (listed texts) (comma_if (is_begun texts)) (text x)
    ∙ ap (λ t. before ++ t) (sym (joined_more texts (text x)) ∙ ap listed (sym (map-append text done (x ∷ []))))

-- ---- pairs and discards

fused : {X Y : Type 0} (text : Y → List ℕ) (make : X → Y) (xs : List X) → map (λ x. text (make x)) xs ≡ map text (map make xs)
fused text make [] = refl
fused text make (x ∷ xs) = ap (λ ys. text (make x) ∷ ys) (fused text make xs)

pub all_pairs : (copies : List ℕ) → texts_below (λ kind. live_json (kind, slice_index copies kind)) (λ kind. nat_lt 0 (slice_index copies kind)) 34 ≡ map live_json (pairs_of copies)
unfolding texts_below pairs_of
all_pairs copies = fused live_json (λ kind. (kind, slice_index copies kind)) (filter (λ kind. nat_lt 0 (slice_index copies kind)) (range_with_len 0 34))

begun_taken : {X : Type 0} (f : X → List ℕ) (xs : List X) (i : ℕ) → i < length xs → nat_lt 0 i ≡ is_begun (map f (take i xs))
begun_taken f [] i low = absurd (omega arith)
begun_taken f (x ∷ xs) zero low = refl
begun_taken f (x ∷ xs) (suc i) low = lt-ltb 0 (suc i) (omega arith)

pub discard_more : (discards : List Discard) (before : List ℕ) (i : ℕ) (discard : Discard) → slice_get discards i ≡ Some discard
    → ((before ++ listed (map discard_json (take i discards))) ++ comma_if (nat_lt 0 i)) ++ discard_json discard ≡ before ++ listed (map discard_json (take (i + 1) discards))
discard_more discards before i discard e =
    let low : i < length discards = slice_get_within discards i discard e in
    let texts : List (List ℕ) = map discard_json (take i discards) in
    let more : map discard_json (take (i + 1) discards) ≡ texts ++ discard_json discard ∷ [] =
    map_more discard_json discards i discard low ∙ ap (λ d. texts ++ discard_json d ∷ []) (get_or_from_slice_get discards i discard discard e) in
    ap (λ l. ((before ++ listed texts) ++ comma_if l) ++ discard_json discard) (begun_taken discard_json discards i low)
    ∙ regroup before (listed texts) (comma_if (is_begun texts)) (discard_json discard)
    ∙ ap (λ t. before ++ t) (sym (joined_more texts (discard_json discard)) ∙ ap listed (sym more))
