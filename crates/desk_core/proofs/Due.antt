-- The values of the first jobs, without those whose number is gone, each with its number.
use Rattle.std.proofs.Common.{◌≡◌, ℕ, zero, suc, ◌+◌, ◌-◌, ◌<◌, ◌≤◌, Bool, true, false, cond, not, eqb, List, [], ◌∷◌, ◌++◌, length, take, drop, Some, refl, sym, ap, ◌∙◌, arith, zero-add, append-nil}
use Rattle.std.specs.Prelude.{slice_get, filter, ◌||◌}
use Rattle.std.specs.List.{enumerate_from, list_any}
use Rattle.std.proofs.lemmas.List.Folds.{list_any-append}
use Rattle.std.proofs.lemmas.List.{take_all, take-append-le, take-append-drop}
use Rattle.std.proofs.lemmas.List.FromFn.{length-enumerate_from}
use Rattle.std.proofs.lemmas.List.Elements.{filter-append}
use Rattle.std.proofs.lemmas.Bool.{ne_eqb}
use Rattle.std.proofs.Math.Seq.{take-append_seam}
use Rattle.desk_core.proofs.Lists.{take-push_get, slice_get-enumerate_from, enumerate_from-append}

abbrev pub due : {X : Type 0} → (ℕ → Bool) → ℕ → List X → List (ℕ × X)
due gone n xs = filter (λ numbered. not (gone numbered.0)) (take n (enumerate_from 0 xs))

pub due-suc : {X : Type 0} (gone : ℕ → Bool) (n : ℕ) (xs : List X) (x : X) → slice_get xs n ≡ Some x → due gone (suc n) xs ≡ due gone n xs ++ cond (not (gone n)) ((n, x) ∷ []) []
due-suc gone n xs x there =
    let at : slice_get (enumerate_from 0 xs) n ≡ Some (n, x) =
    slice_get-enumerate_from 0 xs n ∙ (rw there (ap (λ k. Some (k, x)) (zero-add n))) in
    ap (filter (λ numbered. not (gone numbered.0))) (take-push_get n (enumerate_from 0 xs) (n, x) at)
    ∙ filter-append (λ numbered. not (gone numbered.0)) (take n (enumerate_from 0 xs)) ((n, x) ∷ [])

pub some_there : {X : Type 0} (xs : List X) (n : ℕ) → n < length xs → (x : X) × (slice_get xs n ≡ Some x)
some_there [] n within = absurd (omega arith)
some_there (x ∷ xs) zero within = (x, refl)
some_there (x ∷ xs) (suc n) within = some_there xs n (omega arith)

-- past numbers that are gone nothing is added
pub due-pass : {X : Type 0} (gone : ℕ → Bool) (n more : ℕ) (xs : List X) → n + more ≤ length xs → ((i : ℕ) → n ≤ i → i < n + more → gone i ≡ true) → due gone (n + more) xs ≡ due gone n xs
due-pass gone n zero xs within all = let same : n + 0 ≡ n = omega arith in ap (λ k. due gone k xs) same
due-pass gone n (suc more) xs within all =
    let same : n + suc more ≡ suc (n + more) = omega arith in
    let item = some_there xs (n + more) (omega arith) in
    let last : gone (n + more) ≡ true = all (n + more) (omega arith) (omega arith) in
    ap (λ k. due gone k xs) same
    ∙ due-suc gone (n + more) xs item.0 item.1
    ∙ (rw last (append-nil (due gone (n + more) xs)))
    ∙ due-pass gone n more xs (omega arith) (λ i low high. all i low (omega arith))

-- what goes later changes nothing before it
pub due-same : {X : Type 0} (one other : ℕ → Bool) (n : ℕ) (xs : List X) → n ≤ length xs → ((i : ℕ) → i < n → one i ≡ other i) → due one n xs ≡ due other n xs
due-same one other zero xs within same = refl
due-same one other (suc n) xs within same =
    let item = some_there xs n (omega arith) in
    let last : one n ≡ other n = same n (omega arith) in
    due-suc one n xs item.0 item.1
    ∙ ap (λ b. due one n xs ++ cond (not b) ((n, item.0) ∷ []) []) last
    ∙ ap (λ ys. ys ++ cond (not (other n)) ((n, item.0) ∷ []) []) (due-same one other n xs (omega arith) (λ i below. same i (omega arith)))
    ∙ sym (due-suc other n xs item.0 item.1)

-- nor do later jobs
pub due-more : {X : Type 0} (gone : ℕ → Bool) (n : ℕ) (xs ys : List X) → n ≤ length xs → due gone n (xs ++ ys) ≡ due gone n xs
due-more gone n xs ys within =
    let front : n ≤ length (enumerate_from 0 xs) = omega (arith, length-enumerate_from 0 xs) in
    ap (filter (λ numbered. not (gone numbered.0)))
    (ap (take n) (enumerate_from-append 0 xs ys) ∙ take-append-le n (enumerate_from 0 xs) (enumerate_from (0 + length xs) ys) front)

last_one : {X : Type 0} (b : Bool) (n i : ℕ) (x : X) → eqb n i ≡ false → (false || list_any (λ (numbered : ℕ × X). eqb numbered.0 i) (cond b ((n, x) ∷ []) [])) ≡ false
last_one true n i x other = rw other refl
last_one false n i x other = refl

-- what is due before n has numbers below n
pub due-below : {X : Type 0} (gone : ℕ → Bool) (n : ℕ) (xs : List X) (i : ℕ) → n ≤ length xs → n ≤ i → list_any (λ (numbered : ℕ × X). eqb numbered.0 i) (due gone n xs) ≡ false
due-below {X = X} gone zero xs i within past = refl
due-below {X = X} gone (suc n) xs i within past =
    let item = some_there xs n (omega arith) in
    ap (list_any (λ (numbered : ℕ × X). eqb numbered.0 i)) (due-suc gone n xs item.0 item.1)
    ∙ list_any-append (λ (numbered : ℕ × X). eqb numbered.0 i) (due gone n xs) (cond (not (gone n)) ((n, item.0) ∷ []) [])
    ∙ ap (λ b. b || list_any (λ (numbered : ℕ × X). eqb numbered.0 i) (cond (not (gone n)) ((n, item.0) ∷ []) [])) (due-below gone n xs i (omega arith) (omega arith))
    ∙ last_one (not (gone n)) n i item.0 (ne_eqb n i (λ e. absurd (omega arith)))

-- what is due up to a later number, after the answer of n
pub due-after_answer : {X : Type 0} (gone : ℕ → Bool) (n m : ℕ) (xs : List X) (x : X) → slice_get xs n ≡ Some x → gone n ≡ false → n < m → m ≤ length xs → ((i : ℕ) → n < i → i < m → gone i ≡ true) → due gone m xs ≡ due gone n xs ++ (n, x) ∷ []
due-after_answer gone n m xs x there stays later within all =
    let gap : m ≡ suc n + (m - suc n) = omega arith in
    ap (λ k. due gone k xs) gap
    ∙ due-pass gone (suc n) (m - suc n) xs (omega arith) (λ i low high. all i (omega arith) (omega arith))
    ∙ due-suc gone n xs x there ∙ (rw stays refl)

-- the same where more is gone from n on
pub due-after_withdrawal : {X : Type 0} (before gone : ℕ → Bool) (n m : ℕ) (xs : List X) → ((i : ℕ) → i < n → before i ≡ gone i) → n ≤ m → m ≤ length xs → ((i : ℕ) → n ≤ i → i < m → gone i ≡ true) → due gone m xs ≡ due before n xs
due-after_withdrawal before gone n m xs same later within all =
    let gap : m ≡ n + (m - n) = omega arith in
    ap (λ k. due gone k xs) gap
    ∙ due-pass gone n (m - n) xs (omega arith) (λ i low high. all i low (omega arith))
    ∙ due-same gone before n xs (omega arith) (λ i below. sym (same i below))

-- all that is due begins with what is due of the first jobs
pub due-front : {X : Type 0} (gone : ℕ → Bool) (n : ℕ) (xs : List X) → take (length (due gone n xs)) (filter (λ numbered. not (gone numbered.0)) (enumerate_from 0 xs)) ≡ due gone n xs
due-front gone n xs =
    let rest = filter (λ numbered. not (gone numbered.0)) (drop n (enumerate_from 0 xs)) in
    ap (λ ys. take (length (due gone n xs)) (filter (λ numbered. not (gone numbered.0)) ys)) (sym (take-append-drop n (enumerate_from 0 xs)))
    ∙ ap (take (length (due gone n xs))) (filter-append (λ numbered. not (gone numbered.0)) (take n (enumerate_from 0 xs)) (drop n (enumerate_from 0 xs)))
    ∙ take-append_seam (due gone n xs) rest

-- what is due of all jobs is all that is due
pub due-all : {X : Type 0} (gone : ℕ → Bool) (n : ℕ) (xs : List X) → length xs ≤ n → due gone n xs ≡ filter (λ numbered. not (gone numbered.0)) (enumerate_from 0 xs)
due-all gone n xs past =
    let whole : length (enumerate_from 0 xs) ≤ n = omega (arith, length-enumerate_from 0 xs) in
    ap (filter (λ numbered. not (gone numbered.0))) (take_all n (enumerate_from 0 xs) whole)
