-- The text of the accepted kinds and of the discards.
use Rattle.std.proofs.Common.{◌≡◌, ℕ, zero, suc, ◌+◌, ◌-◌, ◌<◌, ◌≤◌, Bool, true, false, cond, List, [], ◌∷◌, ◌++◌, map, take, drop, ◌*◌, ltb, refl, sym, ap, ◌∙◌, arith}
use Rattle.std.proofs.lemmas.Bool.{lt-ltb, le-ltb, ltb-false, ltb-true}
use Rattle.std.proofs.lemmas.List.{append-nil, flat_map_more}
use Rattle.std.specs.Str.{IsAscii}
use Rattle.std.proofs.lemmas.Str.Ascii.{IsAscii-cons, IsAscii-nil}
use Rattle.std.specs.List.{filter, flat_map, range_with_len}
use Rattle.std.specs.Prelude.{codes, nat_lt, slice_index}
use Rattle.riichi_tiles.specs.HeldKinds.{AreHeldOf, is_held}
use Rattle.riichi_shape.specs.LiveCopies.{pairs_of}
use Rattle.riichi_text.specs.Tiles.{digit_of, letter_of}
use Rattle.riichi_text.proofs.Letters.{letter_below}
use Rattle.riichi_shape.specs.Text.{pair_text}

-- the pairs of the kinds below a number
unfoldable pub pairs_below : List ℕ → ℕ → List (ℕ × ℕ)
pairs_below copies n = map (λ kind. (kind, slice_index copies kind)) (filter (λ kind. nat_lt 0 (slice_index copies kind)) (range_with_len 0 n))

pub pairs_all : (copies : List ℕ) → pairs_below copies 34 ≡ pairs_of copies
unfolding pairs_below pairs_of
pairs_all copies = refl

pub pairs_none : (copies : List ℕ) → pairs_below copies 0 ≡ []
unfolding pairs_below
pairs_none copies = refl

chosen_last : {X : Type 0} (f : ℕ → X) (p : ℕ → Bool) (a n : ℕ) → map f (filter p (range_with_len a (suc n))) ≡ map f (filter p (range_with_len a n)) ++ cond (p (a + n)) (f (a + n) ∷ []) []
chosen_last f p a zero = at_front (p a) ∙ ap (λ k. cond (p k) (f k ∷ []) []) (same a)
  where
    same : (a : ℕ) → a ≡ a + 0
    same a = omega arith

    at_front : (t : Bool) → map f (cond t (a ∷ []) []) ≡ cond t (f a ∷ []) []
    at_front true = refl
    at_front false = refl
chosen_last f p a (suc n) = by_test (p a) (chosen_last f p (a + 1) n ∙ ap (λ k. map f (filter p (range_with_len (a + 1) n)) ++ cond (p k) (f k ∷ []) []) (same a n))
  where
    same : (a n : ℕ) → a + 1 + n ≡ a + suc n
    same a n = omega arith

    by_test : (t : Bool) → map f (filter p (range_with_len (a + 1) (suc n))) ≡ map f (filter p (range_with_len (a + 1) n)) ++ cond (p (a + suc n)) (f (a + suc n) ∷ []) [] →
        map f (cond t (a ∷ filter p (range_with_len (a + 1) (suc n))) (filter p (range_with_len (a + 1) (suc n)))) ≡ map f (cond t (a ∷ filter p (range_with_len (a + 1) n)) (filter p (range_with_len (a + 1) n))) ++ cond (p (a + suc n)) (f (a + suc n) ∷ []) []
    by_test true rest = ap (λ xs. f a ∷ xs) rest
    by_test false rest = rest

pairs_more : (copies : List ℕ) (n : ℕ) → pairs_below copies (n + 1) ≡ pairs_below copies n ++ cond (ltb 0 (slice_index copies n)) ((n, slice_index copies n) ∷ []) []
unfolding pairs_below
pairs_more copies n =
    ap (λ m. map (λ kind. (kind, slice_index copies kind)) (filter (λ kind. nat_lt 0 (slice_index copies kind)) (range_with_len 0 m))) (next n)
    ∙ chosen_last (λ kind. (kind, slice_index copies kind)) (λ kind. nat_lt 0 (slice_index copies kind)) 0 n
    ∙ ap (λ k. map (λ kind. (kind, slice_index copies kind)) (filter (λ kind. nat_lt 0 (slice_index copies kind)) (range_with_len 0 n)) ++ cond (ltb 0 (slice_index copies k)) ((k, slice_index copies k) ∷ []) []) (same n)
  where
    next : (n : ℕ) → n + 1 ≡ suc n
    next n = omega arith

    same : (n : ℕ) → 0 + n ≡ n
    same n = omega arith

pub text_with : (before copies : List ℕ) (n : ℕ) → 0 < slice_index copies n → (before ++ flat_map pair_text (pairs_below copies n)) ++ pair_text (n, slice_index copies n) ≡ before ++ flat_map pair_text (pairs_below copies (n + 1))
text_with before copies n live =
    flat_map_more pair_text before (pairs_below copies n) (n, slice_index copies n)
    ∙ sym (ap (λ ps. before ++ flat_map pair_text ps) (pairs_more copies n ∙ ap (λ t. pairs_below copies n ++ cond t ((n, slice_index copies n) ∷ []) []) (lt-ltb 0 (slice_index copies n) live)))

-- the kinds from one to another have no live copies
pub pairs_past : (copies : List ℕ) (n more : ℕ) → ((kind : ℕ) → n ≤ kind → kind < n + more → slice_index copies kind ≤ 0) → pairs_below copies (n + more) ≡ pairs_below copies n
pairs_past copies n zero none = ap (pairs_below copies) (same n)
  where
    same : (n : ℕ) → n + 0 ≡ n
    same n = omega arith
pairs_past copies n (suc more) none =
    ap (pairs_below copies) (next n more) ∙ pairs_more copies (n + more)
    ∙ ap (λ t. pairs_below copies (n + more) ++ cond t ((n + more, slice_index copies (n + more)) ∷ []) []) (le-ltb 0 (slice_index copies (n + more)) (none (n + more) (omega arith) (omega arith)))
    ∙ append-nil (pairs_below copies (n + more)) ∙ pairs_past copies n more (λ kind low high. none kind low (omega arith))
  where
    next : (n more : ℕ) → n + suc more ≡ n + more + 1
    next n more = omega arith

-- a set of the kinds that have live copies
module _ (copies : List ℕ) (set : ℕ) (live : AreHeldOf copies set) where
  pub live_at : (kind : ℕ) → is_held set kind ≡ true → 0 < slice_index copies kind
  live_at kind held = ltb-true 0 (slice_index copies kind) (sym (live.each kind) ∙ held)

  pub next_live : (n m : ℕ) → n ≤ m → ((kind : ℕ) → n ≤ kind → kind < m → is_held set kind ≡ false) → pairs_below copies m ≡ pairs_below copies n
  next_live n m up none =
      ap (pairs_below copies) (parts n m up) ∙ pairs_past copies n (m - n) (λ kind low high. ltb-false 0 (slice_index copies kind) (sym (live.each kind) ∙ none kind low (omega (arith, up))))
    where
      parts : (n m : ℕ) → n ≤ m → m ≡ n + (m - n)
      parts n m up = omega arith

-- ---- the kinds before their live copies

-- a kind as it stands there
abbrev pub front : ℕ → List ℕ
front kind = 32 ∷ digit_of kind ∷ letter_of kind ∷ 58 ∷ []

abbrev pub fronts : ℕ → ℕ → List ℕ
fronts a n = flat_map front (range_with_len a n)

pub fronts_ascii : (a n : ℕ) → IsAscii (fronts a n)
fronts_ascii a zero = IsAscii-nil
fronts_ascii a (suc n) =
    let rest = fronts (a + 1) n in
    IsAscii-cons 32 (digit_of a ∷ letter_of a ∷ 58 ∷ rest) (omega arith)
    (IsAscii-cons (digit_of a) (letter_of a ∷ 58 ∷ rest) (omega arith)
    (IsAscii-cons (letter_of a) (58 ∷ rest) (letter_below a) (IsAscii-cons 58 rest (omega arith) (fronts_ascii (a + 1) n))))

-- each stands behind those before it
pub front_at : (a n k : ℕ) → k < n → take 4 (drop (4 * k) (fronts a n)) ≡ front (a + k)
front_at a zero k low = absurd (omega (arith, low))
front_at a (suc n) zero low = ap front (same a)
  where
    same : (a : ℕ) → a ≡ a + 0
    same a = omega arith
front_at a (suc n) (suc k) low = ap (λ m. take 4 (drop m (fronts a (suc n)))) (further k) ∙ front_at (a + 1) n k (omega (arith, low)) ∙ ap front (moved a k)
  where
    further : (k : ℕ) → 4 * suc k ≡ suc (suc (suc (suc (4 * k))))
    further k = omega arith

    moved : (a k : ℕ) → a + 1 + k ≡ a + suc k
    moved a k = omega arith

-- so does each digit
pub digit_at : (live : ℕ) → live ≤ 4 → take 1 (drop live (codes "01234")) ≡ (48 + live) ∷ []
digit_at zero few = refl
digit_at (suc zero) few = refl
digit_at (suc (suc zero)) few = refl
digit_at (suc (suc (suc zero))) few = refl
digit_at (suc (suc (suc (suc zero)))) few = refl
digit_at (suc (suc (suc (suc (suc more))))) few = absurd (omega (arith, few))
