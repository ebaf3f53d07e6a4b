-- Sums over kinds, and how many tiles blocks have.
use Rattle.std.proofs.Common.{◌≡◌, ℕ, zero, suc, ◌+◌, ◌*◌, ◌<◌, inl, inr, cond, nat_eq, List, [], ◌∷◌, length, get_or, set, refl, sym, ap, ◌∙◌, arith, eqb, ltb}
use Rattle.std.specs.List.{AllByRecursion, range_with_len, sum}
use Rattle.std.specs.Prelude.{slice_index, sum_by}
use Rattle.std.proofs.lemmas.List.{get_or-set_other}
use Rattle.std.proofs.lemmas.List.Elements.{recursion_from_All}
use Rattle.std.proofs.lemmas.List.Sums.{sum_by-cons}
use Rattle.std.proofs.lemmas.Grind.{get_or-set_at}
use Rattle.std.proofs.lemmas.Bool.Decides.{nat_tests, eqb_tells}
use Rattle.riichi_tiles.specs.declared.block.Block.{Block}
use Rattle.riichi_tiles.specs.declared.block.Block.TheVariants.{Run, Triplet, Pair}
use Rattle.riichi_tiles.specs.Blocks.{IsSet, copies, total}
use Rattle.riichi_tiles.specs.Forms.{AreMadeOf}
use Rattle.riichi_tiles.specs.Melds.{every_kind}
use Rattle.riichi_tiles.proofs.Members.{IsIn, in-range-inv}

-- so many more of a kind
pub get_or-more : (counts : List ℕ) (place kind more : ℕ) → place < length counts → get_or (set counts place (get_or counts place 0 + more)) kind 0 ≡ get_or counts kind 0 + cond (nat_eq place kind) more 0
get_or-more counts place kind more h =
    elim (eqb_tells place kind) [
      | inl t ↦
          let one : cond {A = ℕ} (nat_eq place kind) more 0 ≡ more = ap (λ b. cond b more 0) t.0 in
          let same : get_or counts kind 0 ≡ get_or counts place 0 = ap (λ k. get_or counts k 0) (sym t.1) in
          omega (arith, get_or-set_at counts place kind (get_or counts place 0 + more) 0 (sym t.1) h, one, same)
      | inr f ↦
          let none : cond {A = ℕ} (nat_eq place kind) more 0 ≡ 0 = ap (λ b. cond b more 0) f.0 in
          omega (arith, get_or-set_other counts place kind (get_or counts place 0 + more) 0 (λ e. f.1 (sym e)), none)
    ]

-- the tiles of a kind that blocks have, as a sum
pub tiles_is_sum : (kind : ℕ) (blocks : List Block) → total blocks kind ≡ sum_by (λ block. copies block kind) blocks
tiles_is_sum kind [] = refl
tiles_is_sum kind (block ∷ blocks) = ap (λ n. copies block kind + n) (tiles_is_sum kind blocks) ∙ sym (sum_by-cons (λ b. copies b kind) block blocks)

-- ---- any sum

-- one tile of a kind
abbrev pub one : ℕ → ℕ → ℕ
one kind k = cond (eqb k kind) 1 0

pub record IsSum (sum : (ℕ → ℕ) → ℕ) : Type 0 where
  pub same : (f g : ℕ → ℕ) → ((k : ℕ) → f k ≡ g k) → sum f ≡ sum g
  pub add : (f g : ℕ → ℕ) → sum (λ k. f k + g k) ≡ sum f + sum g

module _ (sum : (ℕ → ℕ) → ℕ) (is : IsSum sum) where
  pub sum-none : sum (λ k. 0) ≡ 0
  sum-none = let a = is.same (λ k. 0 + 0) (λ k. 0) (λ k. refl) in omega (arith, a, is.add (λ k. 0) (λ k. 0))

  pub sum-run : (low : ℕ) → sum (copies (Run low)) ≡ sum (one low) + sum (one (low + 1)) + sum (one (low + 2))
  sum-run low =
      let a = is.same (copies (Run low)) (λ k. one low k + (one (low + 1) k + one (low + 2) k)) (λ k. grind (arith, nat_tests)) in
      omega (arith, a, is.add (one low) (λ k. one (low + 1) k + one (low + 2) k), is.add (one (low + 1)) (one (low + 2)))

  pub sum-triplet : (kind : ℕ) → sum (copies (Triplet kind)) ≡ 3 * sum (one kind)
  sum-triplet kind =
      let a = is.same (copies (Triplet kind)) (λ k. one kind k + (one kind k + one kind k)) (λ k. grind (arith, nat_tests)) in
      omega (arith, a, is.add (one kind) (λ k. one kind k + one kind k), is.add (one kind) (one kind))

  -- the tiles of a pair and of sets
  pub sum-split : (c : List ℕ) (sets : List Block) (pair : ℕ) → ((k : ℕ) → total (Pair pair ∷ sets) k ≡ get_or c k 0) → sum (λ k. get_or c k 0) ≡ 2 * sum (one pair) + sum (total sets)
  sum-split c sets pair adds =
      let a = is.same (λ k. copies (Pair pair) k + total sets k) (λ k. get_or c k 0) adds in
      let p = is.same (copies (Pair pair)) (λ k. one pair k + one pair k) (λ k. grind (arith, nat_tests)) in
      omega (arith, a, is.add (copies (Pair pair)) (total sets), p, is.add (one pair) (one pair))

-- ---- the sum over some numbers

pub same-in : (f g : ℕ → ℕ) (xs : List ℕ) → ((k : ℕ) → IsIn k xs → f k ≡ g k) → sum_by f xs ≡ sum_by g xs
same-in f g [] h = refl
same-in f g (x ∷ xs) h = omega (arith, sum_by-cons f x xs, sum_by-cons g x xs, h x (inl refl), same-in f g xs (λ k i. h k (inr i)))

sum-of-both : (f g : ℕ → ℕ) (xs : List ℕ) → sum_by (λ k. f k + g k) xs ≡ sum_by f xs + sum_by g xs
sum-of-both f g [] = refl
sum-of-both f g (x ∷ xs) = omega (arith, sum_by-cons (λ k. f k + g k) x xs, sum_by-cons f x xs, sum_by-cons g x xs, sum-of-both f g xs)

-- one number more at the end of a range
pub sum-more : (f : ℕ → ℕ) (a n : ℕ) → sum_by f (range_with_len a (suc n)) ≡ sum_by f (range_with_len a n) + f (a + n)
sum-more f a zero = omega (arith, sum_by-cons f a [], ap f (first a))
  where
    first : (a : ℕ) → a ≡ a + 0
    first a = omega arith
sum-more f a (suc n) = omega (arith, sum_by-cons f a (range_with_len (a + 1) (suc n)), sum_by-cons f a (range_with_len (a + 1) n), sum-more f (a + 1) n, ap f (last a n))
  where
    last : (a n : ℕ) → a + 1 + n ≡ a + suc n
    last a n = omega arith

-- ---- the sum over all kinds

pub over-kinds : IsSum (λ f. sum_by f every_kind)
over-kinds = record { same = λ f g h. same-in f g every_kind (λ k i. h k); add = λ f g. sum-of-both f g every_kind }

one_more : (kind n : ℕ) → cond (ltb kind n) 1 0 + one kind (0 + n) ≡ cond (ltb kind (suc n)) 1 0
one_more kind n = grind (arith, nat_tests)

one-below : (kind n : ℕ) → sum_by (one kind) (range_with_len 0 n) ≡ cond (ltb kind n) 1 0
one-below kind zero = grind (arith, nat_tests)
one-below kind (suc n) = sum-more (one kind) 0 n ∙ ap (λ x. x + one kind (0 + n)) (one-below kind n) ∙ one_more kind n

one-kind : (kind : ℕ) → kind < 34 → sum_by (one kind) every_kind ≡ 1
one-kind kind small = let e = one-below kind 34 in grind (arith, nat_tests)

-- the tiles counted by kind are all tiles
tiles-from : (f : ℕ → ℕ) (a : ℕ) (c : List ℕ) → ((k : ℕ) → f (a + k) ≡ get_or c k 0) → sum_by f (range_with_len a (length c)) ≡ sum c
tiles-from f a [] each = refl
tiles-from f a (held ∷ c) each =
    let first : f a ≡ held = ap f (same a) ∙ each 0 in
    let rest = tiles-from f (a + 1) c (λ k. ap f (next a k) ∙ each (suc k)) in
    omega (arith, first, rest, sum_by-cons f a (range_with_len (a + 1) (length c)), sum_by-cons (λ held. held) held c)
  where
    same : (a : ℕ) → a ≡ a + 0
    same a = omega arith

    next : (a k : ℕ) → a + 1 + k ≡ a + suc k
    next a k = omega arith

pub tiles-by-kind : (c : List ℕ) → length c ≡ 34 → sum_by (slice_index c) every_kind ≡ sum c
tiles-by-kind c long = ap (λ n. sum_by (slice_index c) (range_with_len 0 n)) (sym long) ∙ tiles-from (slice_index c) 0 c (λ k. ap (slice_index c) (same k))
  where
    same : (k : ℕ) → 0 + k ≡ k
    same k = omega arith

-- ---- how many tiles sets and a pair have

set-tiles : (set : Block) → IsSet set → sum_by (copies set) every_kind ≡ 3
set-tiles (Run low) is = omega (arith, sum-run (λ f. sum_by f every_kind) over-kinds low, one-kind low (omega (arith, is.0)), one-kind (low + 1) (omega (arith, is.0)), one-kind (low + 2) (omega (arith, is.0)))
set-tiles (Triplet kind) is = omega (arith, sum-triplet (λ f. sum_by f every_kind) over-kinds kind, one-kind kind is)
set-tiles (Pair kind) is = absurd is

sets-tiles : (sets : List Block) → AllByRecursion IsSet sets → sum_by (total sets) every_kind ≡ 3 * length sets
sets-tiles [] are = sum-none (λ f. sum_by f every_kind) over-kinds
sets-tiles (set ∷ sets) are = omega (arith, over-kinds.add (copies set) (total sets), set-tiles set are.0, sets-tiles sets are.1)

pub made-tiles : (c : List ℕ) (sets : List Block) (pair : ℕ) → AreMadeOf c sets pair → sum_by (slice_index c) every_kind ≡ 3 * length sets + 2
made-tiles c sets pair made =
    let whole = same-in (slice_index c) (total (Pair pair ∷ sets)) every_kind (λ k i. made.adds_up k (omega (arith, (in-range-inv 34 0 k i).1))) in
    let two = over-kinds.same (copies (Pair pair)) (λ k. one pair k + one pair k) (λ k. grind (arith, nat_tests)) in
    omega (arith, whole, over-kinds.add (copies (Pair pair)) (total sets), two, over-kinds.add (one pair) (one pair), one-kind pair made.is_kind, sets-tiles sets (recursion_from_All IsSet sets made.are_sets))
