-- The columns of names.
use Rattle.std.proofs.Common.{◌≡◌, List, [], ◌∷◌, map, refl}
use Rattle.std.specs.Prelude.{fold}

-- a fold over what is made of the items
pub fold_made : {A B C : Type 0} (f : C → B → C) (g : A → B) (first : C) (items : List A) → fold (λ c a. f c (g a)) first items ≡ fold f first (map g items)
fold_made f g first [] = refl
fold_made f g first (item ∷ rest) = fold_made f g (f first (g item)) rest
