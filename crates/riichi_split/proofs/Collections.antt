-- The ordered lists of sets: each stands once among `collections`.
use Rattle.std.proofs.Common.{subst, ◌≡◌, ℕ, zero, suc, Bool, true, false, List, [], ◌∷◌, length, flat_map, inl, inr, ◌⊎◌, refl, sym, ap, ◌∙◌, arith, leb, map}
use Rattle.std.specs.List.{AllByRecursion}
use Rattle.std.proofs.lemmas.Bool.Decides.{nat_tests}
use Rattle.riichi_tiles.specs.Sets.{sets_at, every_set}
use Rattle.riichi_tiles.specs.Melds.{every_kind}
use Rattle.riichi_tiles.specs.Blocks.{IsSet, IsOrderedFrom, place_in_order}
use Rattle.riichi_tiles.specs.declared.block.Block.{Block}
use Rattle.riichi_tiles.specs.declared.block.Block.TheVariants.{Run, Triplet}
use Rattle.riichi_tiles.specs.Kinds.{begins_run}
use Rattle.riichi_split.specs.ReadingsOf.{when, collections}
use Rattle.riichi_tiles.proofs.Members.{IsIn, in-flat_map, in-flat_map-inv, in-map, in-map-inv}
use Rattle.riichi_tiles.proofs.EverySet.{every_set-inv, in-every_set}
use Rattle.riichi_split.proofs.Lists.{Differ, Differ-map, Differ-flat_map, Differ-range}

module _ {X : Type 0} where
  pub in-when : (b : Bool) (x : X) (xs : List X) → b ≡ true → IsIn x xs → IsIn x (when b xs)
  in-when true x xs e h = h
  in-when false x xs e h = absurd (cc)

  pub in-when-inv : (b : Bool) (x : X) (xs : List X) → IsIn x (when b xs) → (b ≡ true) × IsIn x xs
  in-when-inv true x xs h = (refl, h)
  in-when-inv false x xs h = absurd h

  pub Differ-when : (b : Bool) (xs : List X) → Differ xs → Differ (when b xs)
  Differ-when true xs h = h
  Differ-when false xs h = tt

-- ---- every set

in-sets_at : (k : ℕ) (set : Block) → IsIn set (sets_at k) → (set ≡ Triplet k) ⊎ ((set ≡ Run k) × (begins_run k ≡ true))
in-sets_at k set (inl e) = inl (sym e)
in-sets_at k set (inr h) =
    let i = in-when-inv (begins_run k) set (Run k ∷ []) h in
    inr (elim i.1 [ inl e ↦ sym e | inr z ↦ absurd z ], i.0)

same-kind : (a b : ℕ) (set : Block) → IsIn set (sets_at a) → IsIn set (sets_at b) → a ≡ b
same-kind a b set h g =
    elim (in-sets_at a set h) [
      | inl x ↦ elim (in-sets_at b set g) [ inl y ↦ cc | inr y ↦ let z = y.0 in absurd (cc) ]
      | inr x ↦ let w = x.0 in elim (in-sets_at b set g) [ inl y ↦ absurd (cc) | inr y ↦ let z = y.0 in cc ]
    ]

Differ-sets_at : (k : ℕ) → Differ (sets_at k)
Differ-sets_at k = (
  λ h. let i = in-when-inv (begins_run k) (Triplet k) (Run k ∷ []) h in elim i.1 [ inl e ↦ absurd (cc) | inr z ↦ z ],
  Differ-when (begins_run k) (Run k ∷ []) (λ h. h, tt),
)

Differ-every_set : Differ every_set
unfolding every_set
Differ-every_set = Differ-flat_map sets_at every_kind Differ-sets_at same-kind (Differ-range 34 0)

-- ---- collections

-- those that begin with this set
abbrev begun_with : ℕ → ℕ → Block → List (List Block)
begun_with place more set = when (leb place (place_in_order set)) (map (λ sets. set ∷ sets) (collections (place_in_order set) more))

collections-suc : (place more : ℕ) → collections place (suc more) ≡ flat_map (begun_with place more) every_set
unfolding collections
collections-suc place more = refl

collections-zero : (place : ℕ) → collections place 0 ≡ [] ∷ []
unfolding collections
collections-zero place = refl

pub in-collections : (sets : List Block) (place : ℕ) → AllByRecursion IsSet sets → IsOrderedFrom place sets → IsIn sets (collections place (length sets))
in-collections [] place s o = rw (collections-zero place) (inl refl)
in-collections (set ∷ sets) place s o =
    let t : leb place (place_in_order set) ≡ true = grind (arith, nat_tests, o.0) in
    rw (collections-suc place (length sets)) (in-flat_map (begun_with place (length sets)) set (set ∷ sets) every_set (in-every_set set s.0)
    (in-when (leb place (place_in_order set)) (set ∷ sets) (map (λ x. set ∷ x) (collections (place_in_order set) (length sets))) t (in-map (λ x. set ∷ x) sets (collections (place_in_order set) (length sets)) (in-collections sets (place_in_order set) s.1 o.1))))

-- an ordered list of sets
pub record IsCollection (place more : ℕ) (sets : List Block) : Type 0 where
  pub many : length sets ≡ more
  pub each_a_set : AllByRecursion IsSet sets
  pub in_order : IsOrderedFrom place sets

none-collected : (place : ℕ) (sets : List Block) → sets ≡ [] → IsCollection place 0 sets
none-collected place [] e = record { many = refl; each_a_set = tt; in_order = tt }
none-collected place (set ∷ sets) e = absurd (cc)

one-more : (place more : ℕ) (set : Block) (rest sets : List Block) → IsSet set → leb place (place_in_order set) ≡ true → IsCollection (place_in_order set) more rest → set ∷ rest ≡ sets → IsCollection place (suc more) sets
one-more place more set rest sets s t c e =
    let P : List Block → Type 0 = λ z. IsCollection place (suc more) z in
    subst P e (record { many = ap suc c.many; each_a_set = (s, c.each_a_set); in_order = (grind (arith, nat_tests), c.in_order) })

pub collections-inv : (more place : ℕ) (sets : List Block) → IsIn sets (collections place more) → IsCollection place more sets
collections-inv zero place sets h = elim (rw (collections-zero place) at h) [ inl e ↦ none-collected place sets (sym e) | inr z ↦ absurd z ]
collections-inv (suc more) place sets h =
    let i = in-flat_map-inv (begun_with place more) sets every_set (rw (collections-suc place more) at h) in
    let w = in-when-inv (leb place (place_in_order i.0)) sets (map (λ x. i.0 ∷ x) (collections (place_in_order i.0) more)) i.2 in
    let m = in-map-inv (λ x. i.0 ∷ x) sets (collections (place_in_order i.0) more) w.1 in
    one-more place more i.0 m.0 sets (every_set-inv i.0 i.1) w.0 (collections-inv more (place_in_order i.0) m.0 m.1) m.2

tail-same : (set : Block) (xs ys : List Block) → set ∷ xs ≡ set ∷ ys → xs ≡ ys
tail-same set xs ys e = cc

head-same : (place more : ℕ) (a b : Block) (sets : List Block) → IsIn sets (begun_with place more a) → IsIn sets (begun_with place more b) → a ≡ b
head-same place more a b sets h g =
    let x = in-map-inv (λ z. a ∷ z) sets (collections (place_in_order a) more) (in-when-inv (leb place (place_in_order a)) sets (map (λ z. a ∷ z) (collections (place_in_order a) more)) h).1 in
    let y = in-map-inv (λ z. b ∷ z) sets (collections (place_in_order b) more) (in-when-inv (leb place (place_in_order b)) sets (map (λ z. b ∷ z) (collections (place_in_order b) more)) g).1 in
    let e : a ∷ x.0 ≡ b ∷ y.0 = x.2 ∙ sym y.2 in
    cc

pub Differ-collections : (more place : ℕ) → Differ (collections place more)
Differ-collections zero place = rw (collections-zero place) (λ h. h, tt)
Differ-collections (suc more) place =
    rw (collections-suc place more) (Differ-flat_map (begun_with place more) every_set
    (λ set. Differ-when (leb place (place_in_order set)) (map (λ x. set ∷ x) (collections (place_in_order set) more)) (Differ-map (λ x. set ∷ x) (collections (place_in_order set) more) (tail-same set) (Differ-collections more (place_in_order set))))
    (head-same place more) Differ-every_set)
