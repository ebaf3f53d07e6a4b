-- Lists whose elements differ, and what std's words say of them.
use Rattle.std.proofs.Common.{◌≡◌, ◌≢◌, ◌+◌, ℕ, zero, suc, inl, inr, List, [], ◌∷◌, ◌++◌, get_or, map, flat_map, replicate, refl, sym, subst, arith}
use Rattle.std.specs.List.{AllPairs, range_with_len}
use Rattle.riichi_tiles.proofs.Members.{Contains-in, IsIn, get_or-in, in-cases, in-flat_map-inv, in-map-inv, in-range-inv}

module _ {X : Type 0} where
  -- the elements differ
  abbrev pub Differ : List X → Type 0
  Differ [] = Unit {0}
  Differ (x ∷ xs) = (IsIn x xs → ⊥) × Differ xs

  pub Differ-append : (xs ys : List X) → Differ xs → Differ ys → ((x : X) → IsIn x xs → IsIn x ys → ⊥) → Differ (xs ++ ys)
  Differ-append [] ys a b h = b
  Differ-append (x ∷ xs) ys a b h =
      (λ i. elim (in-cases x xs ys i) [ inl p ↦ a.0 p | inr q ↦ h x (inl refl) q ], Differ-append xs ys a.1 b (λ z p q. h z (inr p) q))

  pub AllPairs-differ : (xs : List X) → Differ xs → AllPairs ◌≢◌ xs
  AllPairs-differ [] h i j d l m = absurd (omega arith)
  AllPairs-differ (x ∷ xs) h zero zero d l m = absurd (omega arith)
  AllPairs-differ (x ∷ xs) h zero (suc j) d l m = λ e. h.0 (subst (λ (z : X). IsIn z xs) (sym e) (get_or-in xs j d (omega arith)))
  AllPairs-differ (x ∷ xs) h (suc i) zero d l m = absurd (omega arith)
  AllPairs-differ (x ∷ xs) h (suc i) (suc j) d l m = AllPairs-differ xs h.1 i j d (omega arith) (omega arith)

  pub differ-AllPairs : (xs : List X) → AllPairs ◌≢◌ xs → Differ xs
  differ-AllPairs [] h = tt
  differ-AllPairs (x ∷ xs) h =
      (λ i. let c = Contains-in x xs i in h 0 (suc c.0) x (omega arith) (omega (arith, c.1)) (sym c.2), differ-AllPairs xs (λ i j d l m. h (suc i) (suc j) d (omega arith) (omega arith)))

module _ {X Y : Type 0} (f : X → List Y) where
  pub Differ-flat_map : (xs : List X) → ((x : X) → Differ (f x)) → ((a b : X) (y : Y) → IsIn y (f a) → IsIn y (f b) → a ≡ b) → Differ xs → Differ (flat_map f xs)
  Differ-flat_map [] d s h = tt
  Differ-flat_map (x ∷ xs) d s h =
      Differ-append (f x) (flat_map f xs) (d x) (Differ-flat_map xs d s h.1)
      (λ y a b. let i = in-flat_map-inv f y xs b in h.0 (subst (λ (z : X). IsIn z xs) (sym (s x i.0 y a i.2)) i.1))

module _ {X Y : Type 0} (f : X → Y) where
  pub Differ-map : (xs : List X) → ((a b : X) → f a ≡ f b → a ≡ b) → Differ xs → Differ (map f xs)
  Differ-map [] j h = tt
  Differ-map (x ∷ xs) j h =
      (λ i. let m = in-map-inv f (f x) xs i in h.0 (subst (λ (z : X). IsIn z xs) (j m.0 x m.2) m.1), Differ-map xs j h.1)

-- a list of one and the same element
pub replicate-at : {X : Type 0} (n k : ℕ) (x : X) → get_or (replicate n x) k x ≡ x
replicate-at zero k x = refl
replicate-at (suc n) zero x = refl
replicate-at (suc n) (suc k) x = replicate-at n k x

pub Differ-range : (n a : ℕ) → Differ (range_with_len a n)
Differ-range zero a = tt
Differ-range (suc n) a = (λ h. let i = in-range-inv n (a + 1) a h in absurd (omega (arith, i.0)), Differ-range n (a + 1))
