-- The text of a list, and what is added to it by one more.
use Rattle.std.proofs.Common.{◌≡◌, ℕ, Bool, true, false, List, [], ◌∷◌, ◌++◌, map, refl, sym, ap, ◌∙◌, append_assoc}
use Rattle.std.proofs.lemmas.List.{append-nil, flat_map_more}
use Rattle.std.specs.Prelude.{codes}
use Rattle.std.specs.List.{flat_map}
use Rattle.json.specs.Json.{Json}
use Rattle.desk_json.specs.Trees.{json_items}
use Rattle.desk_json.specs.Parts.{comma_if, listed}
use Rattle.desk_json.proofs.Written.{written, items_written}

-- whether something stands before the next
abbrev pub is_begun : {X : Type 0} → List X → Bool
is_begun [] = false
is_begun (x ∷ xs) = true

pub begun_one_more : {X : Type 0} (xs : List X) (x : X) → true ≡ is_begun (xs ++ x ∷ [])
begun_one_more [] x = refl
begun_one_more (y ∷ xs) x = refl

pub joined_more : (texts : List (List ℕ)) (next : List ℕ) → listed (texts ++ next ∷ []) ≡ listed texts ++ (comma_if (is_begun texts) ++ next)
joined_more [] next = append-nil next
joined_more (text ∷ texts) next = sym (flat_map_more (λ t. codes "," ++ t) text texts next)

items_later : {X : Type 0} (tree : X → Json) (text : X → List ℕ) → ((x : X) → written (tree x) ≡ text x) → (xs : List X)
    → items_written true (json_items tree xs) ≡ flat_map (λ next. codes "," ++ next) (map text xs) ++ codes "]"
unfolding written
items_later tree text each [] = refl
items_later tree text each (x ∷ xs) =
    ap (λ t. codes "," ++ (t ++ items_written true (json_items tree xs))) (each x)
    ∙ ap (λ t. codes "," ++ (text x ++ t)) (items_later tree text each xs)
    ∙ sym (append_assoc (codes "," ++ text x) (flat_map (λ next. codes "," ++ next) (map text xs)) (codes "]"))

pub items_joined : {X : Type 0} (tree : X → Json) (text : X → List ℕ) → ((x : X) → written (tree x) ≡ text x) → (xs : List X)
    → items_written false (json_items tree xs) ≡ listed (map text xs) ++ codes "]"
unfolding written
items_joined tree text each [] = refl
items_joined tree text each (x ∷ xs) =
    ap (λ t. t ++ items_written true (json_items tree xs)) (each x)
    ∙ ap (λ t. text x ++ t) (items_later tree text each xs)
    ∙ sym (append_assoc (text x) (flat_map (λ next. codes "," ++ next) (map text xs)) (codes "]"))
