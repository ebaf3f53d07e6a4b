-- Lists of at most so many, compared in their places.
use Rattle.std.proofs.Common.{◌≡◌, ℕ, zero, suc, ◌+◌, Bool, true, List, [], ◌∷◌, ◌++◌, Some, None, length, map, refl, ap, arith}
use Rattle.std.specs.Prelude.{replicate, ◌&&◌}
use Rattle.std.specs.Option.{option_eq}
use Rattle.std.specs.Cmp.Lexicographic.{pointwise}

empty_places : {X : Type 0} (E : X → X → Bool) (n : ℕ) → pointwise (option_eq E) (replicate n None) (replicate n None) ≡ true
empty_places E zero = refl
empty_places E (suc n) = empty_places E n

-- two lists in as many places are equal in all places where they are equal
pub pointwise_placed : {X : Type 0} (E : X → X → Bool) (xs ys : List X) (m n : ℕ) → length xs + m ≡ length ys + n → pointwise (option_eq E) (map Some xs ++ replicate m None) (map Some ys ++ replicate n None) ≡ pointwise E xs ys
pointwise_placed E [] [] m n same =
    let equal : m ≡ n = omega arith in
    rw equal (empty_places E n)
pointwise_placed E [] (y ∷ ys) zero n same = absurd (omega arith)
pointwise_placed E [] (y ∷ ys) (suc m) n same = refl
pointwise_placed E (x ∷ xs) [] m zero same = absurd (omega arith)
pointwise_placed E (x ∷ xs) [] m (suc n) same = refl
pointwise_placed E (x ∷ xs) (y ∷ ys) m n same =
    ap (λ b. E x y && b) (pointwise_placed E xs ys m n (omega arith))
