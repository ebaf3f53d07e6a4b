-- Where the words of a text begin and end.
use Rattle.std.proofs.Common.{◌≡◌, ℕ, zero, suc, ◌+◌, ◌<◌, ◌≤◌, ◌⊎◌, inl, inr, List, [], ◌∷◌, ◌++◌, Bool, true, false, nat_eq, length, take, drop, refl, sym, ◌∙◌, ap, arith, length-drop, length-take}
use Rattle.std.proofs.lemmas.Bool.{cases_lt, and_parts}
use Rattle.std.proofs.lemmas.List.{take-append-drop, drop_all}
use Rattle.std.proofs.Math.Seq.{take-append_seam}
use Rattle.std.specs.Prelude.{not, if◌then◌else◌}
use Rattle.std.specs.List.{list_all, position_or_len}
use Rattle.riichi_tiles.proofs.CutLemmas.{plain, plain_is}
use Rattle.riichi_hand.specs.Words.{is_space, starts, from_words, word_of, without_spaces, begins_with_space}

abbrev pub is_word : List ℕ → Bool
is_word [] = false
is_word (byte ∷ bytes) = true

-- a word ends at the first space
pub position_or_len-word : (word rest : List ℕ) → list_all (plain 32) word ≡ true → (rest ≡ []) ⊎ (begins_with_space rest ≡ true) → position_or_len is_space (word ++ rest) ≡ length word
position_or_len-word [] [] all after = refl
position_or_len-word [] (byte ∷ bytes) all (inl none) = absurd (cc)
position_or_len-word [] (byte ∷ bytes) all (inr space) = rw space refl
position_or_len-word (byte ∷ bytes) rest all after =
    let h = plain_is 32 byte (list_all (plain 32) bytes) all in
    let later : position_or_len is_space (bytes ++ rest) ≡ length bytes = position_or_len-word bytes rest h.1 after in
    let here : position_or_len is_space ((byte ∷ bytes) ++ rest) ≡ 1 + position_or_len is_space (bytes ++ rest) = rw h.0 refl in
    omega (arith, here, later)

pub word_end : (text : List ℕ) (len : ℕ) → len ≤ length text → list_all (plain 32) (take len text) ≡ true → (len < length text → begins_with_space (drop len text) ≡ true) → len ≡ position_or_len is_space text
word_end text len within all after =
    let rest : (drop len text ≡ []) ⊎ (begins_with_space (drop len text) ≡ true) =
    elim (cases_lt len (length text)) as (λ _. (drop len text ≡ []) ⊎ (begins_with_space (drop len text) ≡ true)) [ inl more ↦ inr (after more) | inr over ↦ inl (drop_all len text over) ] in
    omega (arith, ap (position_or_len is_space) (take-append-drop len text), position_or_len-word (take len text) (drop len text) all rest, length-take len text, within)

-- spaces before the words
pub from_words_spaces : (spaces rest : List ℕ) → list_all (λ byte. nat_eq byte 32) spaces ≡ true → from_words (spaces ++ rest) ≡ from_words rest
from_words_spaces [] rest all = refl
from_words_spaces (byte ∷ spaces) rest all = let h = and_parts (nat_eq byte 32) (list_all (λ byte. nat_eq byte 32) spaces) all in rw h.0 (from_words_spaces spaces rest h.1)

spaced : (byte : ℕ) (bytes : List ℕ) (test : Bool) → test ≡ true → starts (not test) bytes ≡ (if test then starts false bytes else (byte ∷ bytes) ∷ starts true bytes)
spaced byte bytes true is = refl
spaced byte bytes false is = absurd (cc)

-- no word begins before the first space
in_word : (word rest : List ℕ) → list_all (plain 32) word ≡ true → (rest ≡ []) ⊎ (begins_with_space rest ≡ true) → starts true (word ++ rest) ≡ from_words rest
in_word [] [] all after = refl
in_word [] (byte ∷ bytes) all (inl none) = absurd (cc)
in_word [] (byte ∷ bytes) all (inr space) = spaced byte bytes (is_space byte) space
in_word (byte ∷ bytes) rest all after =
    let h = plain_is 32 byte (list_all (plain 32) bytes) all in ap (λ test. starts (not test) (bytes ++ rest)) h.0 ∙ in_word bytes rest h.1 after

pub from_words-word : (word rest : List ℕ) → list_all (plain 32) word ≡ true → is_word word ≡ true → (rest ≡ []) ⊎ (begins_with_space rest ≡ true) → from_words (word ++ rest) ≡ (word ++ rest) ∷ from_words rest
from_words-word [] rest all some after = absurd (cc)
from_words-word (byte ∷ bytes) rest all some after =
    let h = plain_is 32 byte (list_all (plain 32) bytes) all in
    ap (λ (test : Bool). if test then starts false (bytes ++ rest) else (byte ∷ bytes ++ rest) ∷ starts true (bytes ++ rest)) h.0 ∙ ap (λ froms. (byte ∷ bytes ++ rest) ∷ froms) (in_word bytes rest h.1 after)

pub word_of-word : (word rest : List ℕ) → list_all (plain 32) word ≡ true → (rest ≡ []) ⊎ (begins_with_space rest ≡ true) → word_of (word ++ rest) ≡ word
word_of-word word rest all after = ap (λ len. take len (word ++ rest)) (position_or_len-word word rest all after) ∙ take-append_seam word rest

-- the same of a text that is cut at a place
pub first_from : (text : List ℕ) (len : ℕ) → 0 < length text → begins_with_space text ≡ false → list_all (plain 32) (take len text) ≡ true → (len < length text → begins_with_space (drop len text) ≡ true) → len ≤ length text
    → (from_words text ≡ text ∷ from_words (drop len text)) × (length (drop len text) < length text)
first_from [] len some begins all after within = absurd (omega arith)
first_from (byte ∷ bytes) zero some begins all after within = let space = after some in absurd (cc)
first_from (byte ∷ bytes) (suc len) some begins all after within =
    let text = byte ∷ bytes in
    let rest : (drop (suc len) text ≡ []) ⊎ (begins_with_space (drop (suc len) text) ≡ true) =
    elim (cases_lt (suc len) (length text)) as (λ _. (drop (suc len) text ≡ []) ⊎ (begins_with_space (drop (suc len) text) ≡ true)) [ inl more ↦ inr (after more) | inr over ↦ inl (drop_all (suc len) text over) ] in
    let joined = take-append-drop (suc len) text in
    (ap from_words (sym joined) ∙ from_words-word (take (suc len) text) (drop (suc len) text) all refl rest ∙ ap (λ t. t ∷ from_words (drop (suc len) text)) joined, omega (arith, length-drop (suc len) text))

-- a text that begins with a word
pub from_words-begins : (text : List ℕ) → 0 < length text → begins_with_space text ≡ false → (froms : List (List ℕ)) × (from_words text ≡ text ∷ froms)
from_words-begins [] some begins = absurd (omega arith)
from_words-begins (byte ∷ bytes) some begins = (starts true bytes, ap (λ (test : Bool). if test then starts false bytes else (byte ∷ bytes) ∷ starts true bytes) begins)

pub without_spaces_past : (spaces rest : List ℕ) → list_all (λ byte. nat_eq byte 32) spaces ≡ true → begins_with_space rest ≡ false → without_spaces (spaces ++ rest) ≡ rest
without_spaces_past [] [] all begins = refl
without_spaces_past [] (byte ∷ bytes) all begins = rw begins refl
without_spaces_past (byte ∷ spaces) rest all begins = let h = and_parts (nat_eq byte 32) (list_all (λ byte. nat_eq byte 32) spaces) all in rw h.0 (without_spaces_past spaces rest h.1 begins)

pub ruleset without_spaces_facts = (from_words_spaces, without_spaces_past)
