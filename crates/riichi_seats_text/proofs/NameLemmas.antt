-- One name more.
use Rattle.std.proofs.Common.{◌≡◌, ℕ, Bool, true, false, ◌||◌, List, [], ◌∷◌, ◌++◌, map, refl, ap, sym, ◌∙◌, subst}
use Rattle.std.specs.List.{list_any}
use Rattle.std.specs.Str.{bytes_eq}
use Rattle.std.proofs.lemmas.List.{map-append}
use Rattle.std.proofs.lemmas.List.Folds.{list_any-append}
use Rattle.riichi_game_text.specs.Names.{is_player_name}
use Rattle.riichi_seats_text.specs.Names.{AreOnce}

neither : (one other : Bool) → (one || other) ≡ false → (one ≡ false) × (other ≡ false)
neither true other h = (h, cc)
neither false other h = (refl, h)

or_neither : (one other : Bool) → one ≡ false → other ≡ false → (one || other || false) ≡ false
or_neither one other first second = ap (λ test. test || other || false) first ∙ ap (λ test. test || false) second

pub once_more : (names : List (List ℕ)) (name : List ℕ) → AreOnce names → is_player_name name ≡ true
    → list_any (λ other. bytes_eq other name) names ≡ false → AreOnce (names ++ name ∷ [])
once_more [] name before can new = (can, refl, tt)
once_more (first ∷ names) name before can new =
    let apart = neither (bytes_eq first name) (list_any (λ other. bytes_eq other name) names) new in
    let words_behind : list_any (bytes_eq first) (names ++ name ∷ []) ≡ false =
    list_any-append (bytes_eq first) names (name ∷ []) ∙ ap (λ test. test || (bytes_eq first name || false)) before.1
    ∙ ap (λ test. test || false) apart.0 in
    (before.0, words_behind, once_more names name before.2 can apart.1)

pub any_of_map : {X Y : Type 0} (test : Y → Bool) (of : X → Y) (xs : List X) → list_any test (map of xs) ≡ list_any (λ x. test (of x)) xs
any_of_map test of [] = refl
any_of_map test of (x ∷ xs) = ap (λ rest. test (of x) || rest) (any_of_map test of xs)

-- the same, of what has a name
pub pushed_once : {X : Type 0} (of : X → List ℕ) (xs ys : List X) (x : X) (word : List ℕ) → AreOnce (map of xs) → is_player_name (of x) ≡ true
    → word ≡ of x → list_any (λ other. bytes_eq (of other) word) xs ≡ false → ys ≡ xs ++ x ∷ [] → AreOnce (map of ys)
pushed_once of xs ys x word before can same new pushed =
    let alone : list_any (λ other. bytes_eq other (of x)) (map of xs) ≡ false =
    any_of_map (λ other. bytes_eq other (of x)) of xs ∙ ap (λ name. list_any (λ other. bytes_eq (of other) name) xs) (sym same) ∙ new in
    subst AreOnce (sym (ap (map of) pushed ∙ map-append of xs (x ∷ []))) (once_more (map of xs) (of x) before can alone)
