-- The text of a list by its items.
use Rattle.std.proofs.Common.{◌≡◌, ◌≤◌, ℕ, List, [], ◌∷◌, ◌++◌, ◌-◌, length, get_or, take, drop, map, refl, ap, arith}
use Rattle.std.proofs.lemmas.List.{take_all}
use Rattle.std.specs.List.{flat_map}
use Rattle.riichi_text.specs.Lists.{joined}

later_items : {X : Type 0} (separator : List ℕ) (text : X → List ℕ) (xs : List X) → flat_map (λ next. separator ++ next) (map text xs) ≡ flat_map (λ x. separator ++ text x) xs
later_items separator text [] = refl
later_items separator text (x ∷ xs) = ap (λ t. (separator ++ text x) ++ t) (later_items separator text xs)

-- the first item, and the others behind separators
pub joined_items : {X : Type 0} (separator : List ℕ) (text : X → List ℕ) (items : List X) (first : X) → 1 ≤ length items → first ≡ get_or items 0 first
    → joined separator (map text items) ≡ text first ++ flat_map (λ next. separator ++ text next) (take (length items - 1) (drop 1 items))
joined_items separator text [] first some is = absurd (omega (arith, some))
joined_items separator text (x ∷ xs) first some is =
    let all : take (length (x ∷ xs) - 1) xs ≡ xs = take_all (length (x ∷ xs) - 1) xs (omega arith) in
    rw (is, all) (ap (λ t. text x ++ t) (later_items separator text xs))
