-- What is added piece by piece, and words letter by letter.
use Rattle.std.proofs.Common.{◌≡◌, ◌∙◌, ◌<◌, ◌-◌, ℕ, List, [], ◌∷◌, ◌++◌, Bool, true, false, ◌&&◌, ◌||◌, ◌==◌, length, take, drop, get_or, refl, sym, ap, append_assoc, append-nil, arith}
use Rattle.std.proofs.lemmas.List.{take_rest}
use Rattle.riichi_hints.specs.declared.account.Account.{Account}
use Rattle.riichi_hints.specs.Account.{IsAdded, begins_as, small_byte, stands_in}

-- ---- one piece behind another

pub added_nothing : (one : Account) → IsAdded one one []
added_nothing one = λ whole. (whole, sym (append-nil one.text.items))

pub added_more : (one two three : Account) (some more : List ℕ) → IsAdded one two some → IsAdded two three more → IsAdded one three (some ++ more)
added_more one two three some more first second = λ whole.
    let later = second whole in
    let earlier = first later.0 in
    (earlier.0, later.1 ∙ (ap (λ (text : List ℕ). text ++ more) earlier.1 ∙ append_assoc one.text.items some more))

pub added_thrice : (one two three four : Account) (some more most : List ℕ) → IsAdded one two some → IsAdded two three more → IsAdded three four most → IsAdded one four (some ++ (more ++ most))
added_thrice one two three four some more most first second third =
    added_more one two four some (more ++ most) first (added_more two three four more most second third)

-- ---- words

abbrev rest : List ℕ → List ℕ
rest word = take (length word - 1) (drop 1 word)

rest_is : (first : ℕ) (after : List ℕ) → rest (first ∷ after) ≡ after
rest_is first after = take_rest (first ∷ after) 1

pub begins_nothing : (word letters : List ℕ) → length letters < 1 → begins_as word letters ≡ true
begins_nothing word [] h = refl
begins_nothing word (letter ∷ letters) h = absurd (omega arith)

pub nothing_begins : (word letters : List ℕ) → length word < 1 → 0 < length letters → begins_as word letters ≡ false
nothing_begins [] [] h some = absurd (omega arith)
nothing_begins [] (letter ∷ letters) h some = refl
nothing_begins (one ∷ word) letters h some = absurd (omega arith)

pub begins_more : (word letters : List ℕ) → 0 < length word → 0 < length letters
    → begins_as word letters ≡ ((small_byte (get_or word 0 0) == small_byte (get_or letters 0 0)) && begins_as (rest word) (rest letters))
begins_more [] letters some also = absurd (omega arith)
begins_more (one ∷ word) [] some also = absurd (omega arith)
begins_more (one ∷ word) (letter ∷ letters) some also = rw (rest_is one word, rest_is letter letters)

pub stands_in_nothing : (word other : List ℕ) → length other < 1 → stands_in word other ≡ begins_as other word
stands_in_nothing word [] h = refl
stands_in_nothing word (letter ∷ other) h = absurd (omega arith)

pub stands_in_more : (word other : List ℕ) → 0 < length other → stands_in word other ≡ (begins_as other word || stands_in word (rest other))
stands_in_more word [] some = absurd (omega arith)
stands_in_more word (letter ∷ other) some = rw (rest_is letter other)
