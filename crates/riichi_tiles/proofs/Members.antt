-- What stands in a list that is made of others, by recursion, and what std's words say of it.
use Rattle.std.proofs.Common.{◌∙◌, ◌≤◌, ◌+◌, ◌||◌, ◌&&◌, Bool, true, false, flat_map, ◌≡◌, ℕ, zero, suc, ◌<◌, ◌⊎◌, inl, inr, List, [], ◌∷◌, ◌++◌, length, get_or, map, filter, cond, refl, sym, ap, subst, arith, All, Contains}
use Rattle.std.specs.List.{list_all, list_any, range_with_len}
use Rattle.std.proofs.lemmas.Bool.{and_from, and_parts, false≢true, or_cases, or_left, or_right, or_parts, cases_eq}

module _ {X : Type 0} where
  -- x is an element
  abbrev pub IsIn : X → List X → Type 0
  IsIn x [] = ⊥
  IsIn x (y ∷ ys) = (y ≡ x) ⊎ IsIn x ys

  pub in-left : (x : X) (xs ys : List X) → IsIn x xs → IsIn x (xs ++ ys)
  in-left x [] ys h = absurd h
  in-left x (y ∷ xs) ys (inl e) = inl e
  in-left x (y ∷ xs) ys (inr h) = inr (in-left x xs ys h)

  pub in-right : (x : X) (xs ys : List X) → IsIn x ys → IsIn x (xs ++ ys)
  in-right x [] ys h = h
  in-right x (y ∷ xs) ys h = inr (in-right x xs ys h)

  pub in-cases : (x : X) (xs ys : List X) → IsIn x (xs ++ ys) → IsIn x xs ⊎ IsIn x ys
  in-cases x [] ys h = inr h
  in-cases x (y ∷ xs) ys (inl e) = inl (inl e)
  in-cases x (y ∷ xs) ys (inr h) = elim (in-cases x xs ys h) [ inl a ↦ inl (inr a) | inr b ↦ inr b ]

  pub get_or-in : (xs : List X) (k : ℕ) (d : X) → k < length xs → IsIn (get_or xs k d) xs
  get_or-in [] k d l = absurd (omega arith)
  get_or-in (y ∷ ys) zero d l = inl refl
  get_or-in (y ∷ ys) (suc k) d l = inr (get_or-in ys k d (omega arith))

  pub Contains-in : (x : X) (xs : List X) → IsIn x xs → Contains xs x
  Contains-in x [] h = absurd h
  Contains-in x (y ∷ ys) (inl e) = (0, omega arith, e)
  Contains-in x (y ∷ ys) (inr h) = let c = Contains-in x ys h in (suc c.0, omega (arith, c.1), c.2)

  pub in-Contains : (x : X) (xs : List X) → Contains xs x → IsIn x xs
  in-Contains x xs c = subst (λ (z : X). IsIn z xs) c.2 (get_or-in xs c.0 x c.1)

  pub All-in : (P : X → Type 0) (xs : List X) → ((x : X) → IsIn x xs → P x) → All P xs
  All-in P xs h k d l = h (get_or xs k d) (get_or-in xs k d l)

  pub in-All : (P : X → Type 0) (xs : List X) → All P xs → (x : X) → IsIn x xs → P x
  in-All P [] h x i = absurd i
  in-All P (y ∷ ys) h x (inl e) = subst P e (h 0 y (omega arith))
  in-All P (y ∷ ys) h x (inr i) = in-All P ys (λ k d l. h (suc k) d (omega arith)) x i

module _ {X Y : Type 0} (f : X → List Y) where
  pub in-flat_map : (x : X) (y : Y) (xs : List X) → IsIn x xs → IsIn y (f x) → IsIn y (flat_map f xs)
  in-flat_map x y [] h i = absurd h
  in-flat_map x y (z ∷ zs) (inl e) i = in-left y (f z) (flat_map f zs) (subst (λ (w : X). IsIn y (f w)) (sym e) i)
  in-flat_map x y (z ∷ zs) (inr h) i = in-right y (f z) (flat_map f zs) (in-flat_map x y zs h i)

  pub in-flat_map-inv : (y : Y) (xs : List X) → IsIn y (flat_map f xs) → (x : X) × IsIn x xs × IsIn y (f x)
  in-flat_map-inv y [] h = absurd h
  in-flat_map-inv y (x ∷ xs) h =
      elim (in-cases y (f x) (flat_map f xs) h) [
        | inl a ↦ (x, inl refl, a)
        | inr b ↦ let i = in-flat_map-inv y xs b in (i.0, inr i.1, i.2)
      ]

module _ {X Y : Type 0} (f : X → Y) where
  pub in-map : (x : X) (xs : List X) → IsIn x xs → IsIn (f x) (map f xs)
  in-map x [] h = absurd h
  in-map x (y ∷ ys) (inl e) = inl (ap f e)
  in-map x (y ∷ ys) (inr h) = inr (in-map x ys h)

  pub in-map-inv : (y : Y) (xs : List X) → IsIn y (map f xs) → (x : X) × IsIn x xs × (f x ≡ y)
  in-map-inv y [] h = absurd h
  in-map-inv y (x ∷ xs) (inl e) = (x, inl refl, e)
  in-map-inv y (x ∷ xs) (inr h) = let i = in-map-inv y xs h in (i.0, inr i.1, i.2)

-- ---- the elements that pass a test

module _ {X : Type 0} (p : X → Bool) where
  kept_first : (x y : X) (rest : List X) (b : Bool) → p y ≡ b → (y ≡ x) ⊎ IsIn x rest → p x ≡ true → IsIn x (cond b (y ∷ rest) rest)
  kept_first x y rest true e h t = h
  kept_first x y rest false e (inl here) t = absurd (false≢true (sym e ∙ ap p here ∙ t))
  kept_first x y rest false e (inr later) t = later

  from_kept : (x y : X) (rest : List X) (b : Bool) → p y ≡ b → IsIn x (cond b (y ∷ rest) rest) → ((y ≡ x) × (p x ≡ true)) ⊎ IsIn x rest
  from_kept x y rest true e (inl here) = inl (here, ap p (sym here) ∙ e)
  from_kept x y rest true e (inr later) = inr later
  from_kept x y rest false e h = inr h

  pub in-filter : (x : X) (xs : List X) → IsIn x xs → p x ≡ true → IsIn x (filter p xs)
  in-filter x [] h t = absurd h
  in-filter x (y ∷ xs) (inl here) t = kept_first x y (filter p xs) (p y) refl (inl here) t
  in-filter x (y ∷ xs) (inr later) t = kept_first x y (filter p xs) (p y) refl (inr (in-filter x xs later t)) t

  pub in-filter-inv : (x : X) (xs : List X) → IsIn x (filter p xs) → IsIn x xs × (p x ≡ true)
  in-filter-inv x [] h = absurd h
  in-filter-inv x (y ∷ xs) h = elim (from_kept x y (filter p xs) (p y) refl h) [
    | inl first ↦ (inl first.0, first.1)
    | inr later ↦ let r = in-filter-inv x xs later in (inr r.0, r.1)
  ]

  -- ---- tests of all and of some elements

  pub all-in : (xs : List X) → list_all p xs ≡ true → (x : X) → IsIn x xs → p x ≡ true
  all-in [] h x i = absurd i
  all-in (y ∷ ys) h x (inl e) = ap p (sym e) ∙ (and_parts (p y) (list_all p ys) h).0
  all-in (y ∷ ys) h x (inr i) = all-in ys (and_parts (p y) (list_all p ys) h).1 x i

  pub all-from : (xs : List X) → ((x : X) → IsIn x xs → p x ≡ true) → list_all p xs ≡ true
  all-from [] h = refl
  all-from (y ∷ ys) h = and_from (p y) (list_all p ys) (h y (inl refl)) (all-from ys (λ x i. h x (inr i)))

  pub any-in : (xs : List X) → list_any p xs ≡ true → (x : X) × IsIn x xs × (p x ≡ true)
  any-in [] h = absurd (cc)
  any-in (y ∷ ys) h = elim (or_cases (p y) (list_any p ys) h) [ inl e ↦ (y, inl refl, e) | inr r ↦ let i = any-in ys r in (i.0, inr i.1, i.2) ]

  pub any-from : (xs : List X) (x : X) → IsIn x xs → p x ≡ true → list_any p xs ≡ true
  any-from [] x i e = absurd i
  any-from (y ∷ ys) x (inl i) e = or_left (p y) (list_any p ys) (ap p i ∙ e)
  any-from (y ∷ ys) x (inr i) e = or_right (p y) (list_any p ys) (any-from ys x i e)

  pub none-in : (xs : List X) → list_any p xs ≡ false → (x : X) → IsIn x xs → p x ≡ false
  none-in [] h x i = absurd i
  none-in (y ∷ ys) h x (inl e) = ap p (sym e) ∙ (or_parts (p y) (list_any p ys) h).0
  none-in (y ∷ ys) h x (inr i) = none-in ys (or_parts (p y) (list_any p ys) h).1 x i

-- two tests that agree on each element
module _ {X : Type 0} (p q : X → Bool) where
  pub any-agree : (xs : List X) → ((x : X) → IsIn x xs → p x ≡ q x) → list_any p xs ≡ list_any q xs
  any-agree [] each = refl
  any-agree (x ∷ xs) each = ap (λ b. b || list_any p xs) (each x (inl refl)) ∙ ap (λ b. q x || b) (any-agree xs (λ y i. each y (inr i)))

  pub all-agree : (xs : List X) → ((x : X) → IsIn x xs → p x ≡ q x) → list_all p xs ≡ list_all q xs
  all-agree [] each = refl
  all-agree (x ∷ xs) each = ap (λ b. b && list_all p xs) (each x (inl refl)) ∙ ap (λ b. q x && b) (all-agree xs (λ y i. each y (inr i)))

-- ---- the numbers of a range

pub in-range : (n a k : ℕ) → a ≤ k → k < a + n → IsIn k (range_with_len a n)
in-range zero a k l h = absurd (omega arith)
in-range (suc n) a k l h = elim (cases_eq a k) [ inl e ↦ inl e | inr u ↦ inr (in-range n (a + 1) k (omega arith) (omega arith)) ]

pub in-range-inv : (n a k : ℕ) → IsIn k (range_with_len a n) → (a ≤ k) × (k < a + n)
in-range-inv zero a k h = absurd h
in-range-inv (suc n) a k (inl e) = (omega arith, omega arith)
in-range-inv (suc n) a k (inr h) = let i = in-range-inv n (a + 1) k h in (omega (arith, i.0), omega (arith, i.1))
