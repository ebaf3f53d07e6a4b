-- The first elements of a list, and the next one.
use Rattle.std.proofs.Common.{◌≡◌, ℕ, ◌+◌, ◌<◌, ◌≤◌, List, [], ◌∷◌, ◌++◌, length, get_or, take, drop, length-drop, sym, ap, ◌∙◌, arith}
use Rattle.std.proofs.lemmas.List.{drop_all, drop_more, take_all, take_more}

pub take-one_more : {X : Type 0} (xs : List X) (i : ℕ) (x : X) (rest : List X) → drop i xs ≡ x ∷ rest → (take (i + 1) xs ≡ take i xs ++ x ∷ []) × (drop (i + 1) xs ≡ rest)
take-one_more xs i x rest e =
    let within : i < length xs = omega (arith, length-drop i xs, ap length e) in
    let split : get_or xs i x ∷ drop (i + 1) xs ≡ x ∷ rest = sym (drop_more xs i x within) ∙ e in
    let here : get_or xs i x ≡ x = cc in
    let more : drop (i + 1) xs ≡ rest = cc in
    (take_more xs i x within ∙ ap (λ y. take i xs ++ y ∷ []) here, more)

pub take-no_more : {X : Type 0} (xs : List X) (i : ℕ) → drop i xs ≡ [] → (take (i + 1) xs ≡ take i xs) × (drop (i + 1) xs ≡ [])
take-no_more xs i e =
    let past : length xs ≤ i = omega (arith, length-drop i xs, ap length e) in
    (take_all (i + 1) xs (omega arith) ∙ sym (take_all i xs past), drop_all (i + 1) xs (omega arith))
