-- The place of a name among the names.
use Rattle.std.proofs.Common.{◌≡◌, ℕ, ◌+◌, ◌≤◌, List, [], ◌∷◌, ◌++◌, Bool, true, false, cond, length, map, None, Some, refl, sym, ap, ◌∙◌, arith}
use Rattle.std.specs.Prelude.{not, ◌||◌, position, nat_lt, if◌then◌else◌}
use Rattle.std.specs.List.{list_any, prefix_len, position_or_len}
use Rattle.std.specs.Str.{bytes_eq}
use Rattle.std.proofs.lemmas.List.{length-map, map-append}
use Rattle.std.proofs.lemmas.Bool.{ltb-false}

module _ {X Y : Type 0} (f : X → Y) (test : Y → Bool) where
  prefix_len-map : (xs : List X) → prefix_len test (map f xs) ≡ prefix_len (λ x. test (f x)) xs
  prefix_len-map [] = refl
  prefix_len-map (x ∷ xs) = ap (λ rest. cond (test (f x)) (1 + rest) 0) (prefix_len-map xs)

-- the place of a text that passes, by the things that have the texts
pub position-map : {X : Type 0} (xs : List X) (f : X → List ℕ) (test : List ℕ → Bool) → position (λ x. test (f x)) xs ≡ position test (map f xs)
position-map xs f test =
    ap (λ (place : ℕ). cond (nat_lt place (length xs)) (Some place) None) (sym (prefix_len-map f (λ text. not (test text)) xs))
    ∙ ap (λ (count : ℕ). cond (nat_lt (position_or_len test (map f xs)) count) (Some (position_or_len test (map f xs))) None) (sym (length-map xs f))

module _ {X : Type 0} (test : X → Bool) where
  none_any : (xs : List X) → length xs ≤ position_or_len test xs → list_any test xs ≡ false
  none_any [] past = refl
  none_any (x ∷ xs) past =
      elim (test x) as (λ b. length (x ∷ xs) ≤ cond (not b) (1 + position_or_len test xs) 0 → (b || list_any test xs) ≡ false) [ true ↦ λ h. absurd (omega arith) | false ↦ λ h. none_any xs (omega arith) ] past

  past_all : (place count : ℕ) → cond (nat_lt place count) (Some place) None ≡ None → count ≤ place
  past_all place count none = ltb-false place count (elim (nat_lt place count) as (λ b. cond b (Some place) None ≡ None → b ≡ false) [ true ↦ λ h. cc | false ↦ λ h. refl ] none)

  -- nothing passes
  pub any-none : (xs : List X) → position test xs ≡ None → list_any test xs ≡ false
  any-none xs none = none_any xs (past_all (position_or_len test xs) (length xs) none)

-- a new name goes last
pub names-added : {X : Type 0} (keys new : List X) (key : X) (f : X → List ℕ) (name : List ℕ) (names : List (List ℕ)) → map f keys ≡ names → f key ≡ name → position (bytes_eq name) names ≡ None
    → new ≡ (if list_any (λ x. bytes_eq (f key) (f x)) keys then keys else keys ++ key ∷ []) → map f new ≡ names ++ name ∷ []
names-added keys new key f name names are is absent added =
    let none : list_any (λ x. bytes_eq (f key) (f x)) keys ≡ false =
    any-none (λ x. bytes_eq (f key) (f x)) keys (position-map keys f (bytes_eq (f key)) ∙ ap (λ (n : List ℕ). position (bytes_eq n) (map f keys)) is ∙ ap (position (bytes_eq name)) are ∙ absent) in
    ap (map f) (added ∙ ap (λ (test : Bool). cond test keys (keys ++ key ∷ [])) none) ∙ map-append f keys (key ∷ []) ∙ ap (λ all. all ++ f key ∷ []) are ∙ ap (λ n. names ++ n ∷ []) is
