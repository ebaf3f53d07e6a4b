-- Each collection of sets has one ordered list: sort it; two such lists are one.
use Rattle.std.proofs.Common.{◌≡◌, ℕ, ◌+◌, ◌<◌, ◌≤◌, Bool, true, false, cond, List, [], ◌∷◌, length, refl, sym, ap, ◌∙◌, arith, leb}
use Rattle.std.specs.List.{AllByRecursion}
use Rattle.std.proofs.lemmas.Bool.{cond_both, leb-true, leb-false}
use Rattle.riichi_tiles.specs.declared.block.Block.{Block}
use Rattle.riichi_tiles.specs.declared.block.Block.TheVariants.{Run, Triplet, Pair}
use Rattle.riichi_tiles.specs.Blocks.{IsSet, IsOrderedFrom, place_in_order, copies, total}
use Rattle.riichi_split.specs.Dones.{same_block}
use Rattle.riichi_split.specs.Laws.{times, AreOneCollection, EachCollectionHasOneOrder}
use Rattle.riichi_split.proofs.Dones.{same-block, same_block-self}

-- ---- into order

put : Block → List Block → List Block
put b [] = b ∷ []
put b (x ∷ xs) = cond (leb (place_in_order b) (place_in_order x)) (b ∷ x ∷ xs) (x ∷ put b xs)

pub sorted : List Block → List Block
sorted [] = []
sorted (b ∷ bs) = put b (sorted bs)

-- what adds up over the blocks stays the same
module _ (sum : List Block → ℕ) (own : Block → ℕ) (adds : (b : Block) (bs : List Block) → sum (b ∷ bs) ≡ own b + sum bs) where
  sum-put : (b : Block) (xs : List Block) → sum (put b xs) ≡ own b + sum xs
  unfolding put
  sum-put b [] = adds b []
  sum-put b (x ∷ xs) = cond_both (leb (place_in_order b) (place_in_order x)) (b ∷ x ∷ xs) (x ∷ put b xs) (λ ys. sum ys ≡ own b + sum (x ∷ xs))
      (λ t. adds b (x ∷ xs)) (λ t. omega (arith, adds x (put b xs), sum-put b xs, adds x xs))

  sum-sorted : (bs : List Block) → sum (sorted bs) ≡ sum bs
  unfolding sorted
  sum-sorted [] = refl
  sum-sorted (b ∷ bs) = omega (arith, sum-put b (sorted bs), sum-sorted bs, adds b bs)

times-sorted : (y : Block) (bs : List Block) → times y bs ≡ times y (sorted bs)
times-sorted y bs = sym (sum-sorted (times y) (λ b. cond (same_block y b) 1 0) (λ b bs. refl) bs)

-- sorted sets have the same tiles
pub total-sorted : (k : ℕ) (bs : List Block) → total (sorted bs) k ≡ total bs k
total-sorted k bs = sum-sorted (λ bs. total bs k) (λ b. copies b k) (λ b bs. refl) bs

-- and are as many
pub length-sorted : (bs : List Block) → length (sorted bs) ≡ length bs
length-sorted bs = sum-sorted (λ bs. length bs) (λ b. 1) (λ b bs. omega arith) bs

sets-put : (b : Block) (xs : List Block) → IsSet b → AllByRecursion IsSet xs → AllByRecursion IsSet (put b xs)
unfolding put
sets-put b [] s a = (s, tt)
sets-put b (x ∷ xs) s a = cond_both (leb (place_in_order b) (place_in_order x)) (b ∷ x ∷ xs) (x ∷ put b xs) (AllByRecursion IsSet) (λ t. (s, a)) (λ t. (a.0, sets-put b xs s a.1))

pub sets-sorted : (bs : List Block) → AllByRecursion IsSet bs → AllByRecursion IsSet (sorted bs)
unfolding sorted
sets-sorted [] a = tt
sets-sorted (b ∷ bs) a = sets-put b (sorted bs) a.0 (sets-sorted bs a.1)

order-put : (p : ℕ) (b : Block) (xs : List Block) → p ≤ place_in_order b → IsOrderedFrom p xs → IsOrderedFrom p (put b xs)
unfolding put
order-put p b [] l o = (l, tt)
order-put p b (x ∷ xs) l o = cond_both (leb (place_in_order b) (place_in_order x)) (b ∷ x ∷ xs) (x ∷ put b xs) (IsOrderedFrom p)
    (λ t. (l, (leb-true (place_in_order b) (place_in_order x) t, o.1))) (λ t. (o.0, order-put (place_in_order x) b xs (omega (arith, leb-false (place_in_order b) (place_in_order x) t)) o.1))

pub order-sorted : (bs : List Block) → IsOrderedFrom 0 (sorted bs)
unfolding sorted
order-sorted [] = tt
order-sorted (b ∷ bs) = order-put 0 b (sorted bs) (omega arith) (order-sorted bs)

-- ---- two ordered lists of one collection

same-place : (a b : Block) → IsSet a → IsSet b → place_in_order a ≡ place_in_order b → a ≡ b
same-place (Run a) (Run b) s t e = let f : a ≡ b = omega (arith, e) in ap Run f
same-place (Run a) (Triplet b) s t e = absurd (omega (arith, e))
same-place (Run a) (Pair b) s t e = absurd t
same-place (Triplet a) (Run b) s t e = absurd (omega (arith, e))
same-place (Triplet a) (Triplet b) s t e = let f : a ≡ b = omega (arith, e) in ap Triplet f
same-place (Triplet a) (Pair b) s t e = absurd t
same-place (Pair a) b s t e = absurd s

first-place : (t : Bool) (p : ℕ) (x y : Block) (n : ℕ) → t ≡ same_block x y → 0 < cond t 1 0 + n → p ≤ place_in_order y → (0 < n → place_in_order y ≤ place_in_order x) → p ≤ place_in_order x
first-place true p x y n e h l i = let f = same-block x y (sym e) in let g : place_in_order x ≡ place_in_order y = ap place_in_order f in omega (arith, g, l)
first-place false p x y n e h l i = omega (arith, i (omega (arith, h)), l)

-- what comes in an ordered list stands past its beginning
place-of-one : (x : Block) (ys : List Block) (p : ℕ) → IsOrderedFrom p ys → 0 < times x ys → p ≤ place_in_order x
place-of-one x [] p o h = absurd (omega arith)
place-of-one x (y ∷ ys) p o h = first-place (same_block x y) p x y (times x ys) refl h o.0 (λ i. place-of-one x ys (place_in_order y) o.1 i)

comes-first : (x : Block) (xs : List Block) → 0 < times x (x ∷ xs)
comes-first x xs = let e : cond {A = ℕ} (same_block x x) 1 0 ≡ 1 = ap (λ t. cond {A = ℕ} t 1 0) (same_block-self x) in omega (arith, e)

heads : (x y : Block) (xs ys : List Block) → IsSet x → IsSet y → IsOrderedFrom (place_in_order x) xs → IsOrderedFrom (place_in_order y) ys → AreOneCollection (x ∷ xs) (y ∷ ys) → x ≡ y
heads x y xs ys s t o q h =
    let a = place-of-one x (y ∷ ys) (place_in_order y) (omega arith, q) (let c = comes-first x xs in omega (arith, c, h x)) in
    let b = place-of-one y (x ∷ xs) (place_in_order x) (omega arith, o) (let c = comes-first y ys in omega (arith, c, h y)) in
    same-place x y s t (omega (arith, a, b))

tails : (x y : Block) (xs ys : List Block) → x ≡ y → AreOneCollection (x ∷ xs) (y ∷ ys) → AreOneCollection xs ys
tails x y xs ys e h z =
    let f : cond {A = ℕ} (same_block z x) 1 0 ≡ cond {A = ℕ} (same_block z y) 1 0 = ap (λ b. cond {A = ℕ} (same_block z b) 1 0) e in
    omega (arith, f, h z)

one-list : (xs ys : List Block) (p q : ℕ) → AllByRecursion IsSet xs → AllByRecursion IsSet ys → IsOrderedFrom p xs → IsOrderedFrom q ys → AreOneCollection xs ys → xs ≡ ys
one-list [] [] p q s t o r h = refl
one-list [] (y ∷ ys) p q s t o r h = let c = comes-first y ys in absurd (omega (arith, c, h y))
one-list (x ∷ xs) [] p q s t o r h = let c = comes-first x xs in absurd (omega (arith, c, h x))
one-list (x ∷ xs) (y ∷ ys) p q s t o r h =
    let e = heads x y xs ys s.0 t.0 o.1 r.1 h in
    let f = one-list xs ys (place_in_order x) (place_in_order y) s.1 t.1 o.1 r.1 (tails x y xs ys e h) in
    cc

pub one_order : EachCollectionHasOneOrder
one_order sets s = record {
  ordered = sorted sets;
  one_collection = λ y. times-sorted y sets;
  each_a_set = sets-sorted sets s;
  in_order = order-sorted sets;
  only = λ others h a o. one-list others (sorted sets) 0 0 a (sets-sorted sets s) o (order-sorted sets) (λ y. sym (h y) ∙ times-sorted y sets);
}
