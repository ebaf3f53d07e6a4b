-- Pieces that are written behind a text, one after another.
use Rattle.std.proofs.Common.{◌≡◌, ℕ, ◌+◌, ◌<◌, Some, None, slice_get, List, [], ◌∷◌, ◌++◌, length, take, append_assoc, sym, ap, ◌∙◌, ⊎_elim, arith}
use Rattle.std.proofs.lemmas.List.{flat_map_more, take_more}
use Rattle.std.proofs.lemmas.Option.{get_or_from_slice_get, none-some, slice_get_cases, slice_get_within}
use Rattle.std.specs.List.{flat_map}

-- two to five pieces
pub pushed-two : (old a b : List ℕ) {s t : List ℕ} → s ≡ old ++ a → t ≡ s ++ b → t ≡ old ++ (a ++ b)
pushed-two old a b e f = f ∙ ap (λ (x : List ℕ). x ++ b) e ∙ append_assoc old a b

pub pushed-three : (old a b c : List ℕ) {s t u : List ℕ} → s ≡ old ++ a → t ≡ s ++ b → u ≡ t ++ c → u ≡ old ++ (a ++ b ++ c)
pushed-three old a b c e f g = pushed-two old (a ++ b) c (pushed-two old a b e f) g

pub pushed_four : (old a b c d : List ℕ) {s t u v : List ℕ} → s ≡ old ++ a → t ≡ s ++ b → u ≡ t ++ c → v ≡ u ++ d → v ≡ old ++ (a ++ b ++ c ++ d)
pushed_four old a b c d e f g h = pushed-two old (a ++ b ++ c) d (pushed-three old a b c e f g) h

pub pushed_five : (old a b c d e : List ℕ) {s t u v w : List ℕ} → s ≡ old ++ a → t ≡ s ++ b → u ≡ t ++ c → v ≡ u ++ d → w ≡ v ++ e → w ≡ old ++ (a ++ b ++ c ++ d ++ e)
pushed_five old a b c d e p q r s t = pushed-two old (a ++ b ++ c ++ d) e (pushed_four old a b c d p q r s) t

-- ---- a piece for each element of a list

-- an element is at each place that is below the length
pub some_there : {X : Type 0} (xs : List X) (i : ℕ) → i < length xs → slice_get xs i ≡ None → ⊥
some_there xs i low e = ⊎_elim (λ found. none-some found.0 (sym e ∙ found.2)) (λ past. omega (arith, past.0, low)) (slice_get_cases xs i).1

-- with the element at a place the pieces go one place further
pub flat_map_get : {X : Type 0} (f : X → List ℕ) (xs : List X) (before : List ℕ) (i : ℕ) (x : X) → slice_get xs i ≡ Some x →
    (before ++ flat_map f (take i xs)) ++ f x ≡ before ++ flat_map f (take (i + 1) xs)
flat_map_get f xs before i x e =
    flat_map_more f before (take i xs) x
    ∙ sym (ap (λ ys. before ++ flat_map f ys) (take_more xs i x (slice_get_within xs i x e) ∙ ap (λ y. take i xs ++ y ∷ []) (get_or_from_slice_get xs i x x e)))
