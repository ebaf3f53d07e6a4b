-- The numbers of a set's tiles add up to a multiple of three, so the sum of all numbers gives the pair's kind by three.
use Rattle.std.proofs.Common.{◌≡◌, ◌≤◌, ℕ, zero, suc, ◌+◌, ◌-◌, ◌*◌, ◌%◌, ◌<◌, cond, add-one, Option, Some, None, List, [], ◌∷◌, length, length-set, get_or, set, refl, ap, ◌∙◌, arith, ltb}
use Rattle.std.specs.List.{AllByRecursion}
use Rattle.std.proofs.lemmas.Bool.Decides.{nat_tests}
use Rattle.riichi_tiles.specs.declared.block.Block.{Block}
use Rattle.riichi_tiles.specs.declared.block.Block.TheVariants.{Run, Triplet, Pair}
use Rattle.riichi_tiles.specs.Blocks.{copies, total, IsSet}
use Rattle.riichi_split.specs.Cuts.{thirds, third_of_pair, sets_beside, split_of, from_choices, from_pairs}
use Rattle.riichi_tiles.proofs.KindSums.{IsSum, one, sum-none, sum-run, sum-triplet, sum-split}
use Rattle.riichi_split.proofs.Sound.{IsCut-from, same-total}
use Rattle.riichi_split.proofs.AllSplits.{beside-inv, uncarried, without}
use Rattle.riichi_split.proofs.Falling.{falling-passed}
use Rattle.riichi_split.proofs.SplitSteps.{from_choices_none, from_choices-passed}

pub thirds-zero : (f : ℕ → ℕ) → thirds f 0 ≡ 0
unfolding thirds
thirds-zero f = refl

thirds-suc : (f : ℕ → ℕ) (n : ℕ) → thirds f (suc n) ≡ thirds f n + (f (3 * n + 1) + 2 * f (3 * n + 2))
unfolding thirds
thirds-suc f n = refl

same : (f g : ℕ → ℕ) (n : ℕ) → ((k : ℕ) → f k ≡ g k) → thirds f n ≡ thirds g n
unfolding thirds
same f g zero h = refl
same f g (suc n) h = omega (arith, same f g n h, h (3 * n + 1), h (3 * n + 2))

add : (f g : ℕ → ℕ) (n : ℕ) → thirds (λ k. f k + g k) n ≡ thirds f n + thirds g n
unfolding thirds
add f g zero = refl
add f g (suc n) = omega (arith, add f g n)

thirds-sum : IsSum (λ f. thirds f 11)
thirds-sum = record { same = λ f g. same f g 11; add = λ f g. add f g 11 }

one-more : (kind n : ℕ) → cond (ltb kind (3 * n)) (kind % 3) 0 + (one kind (3 * n + 1) + 2 * one kind (3 * n + 2)) ≡ cond (ltb kind (3 * suc n)) (kind % 3) 0
one-more kind n = grind (arith, nat_tests)

one-below : (kind n : ℕ) → thirds (one kind) n ≡ cond (ltb kind (3 * n)) (kind % 3) 0
unfolding thirds
one-below kind zero = grind (arith, nat_tests)
one-below kind (suc n) = ap (λ x. x + (one kind (3 * n + 1) + 2 * one kind (3 * n + 2))) (one-below kind n) ∙ one-more kind n

of-one : (kind : ℕ) → kind < 34 → thirds (one kind) 11 ≡ kind % 3
of-one kind h = let e = one-below kind 11 in grind (arith, nat_tests)

of-set : (block : Block) → IsSet block → (q : ℕ) × (thirds (copies block) 11 ≡ 3 * q)
of-set (Run low) s =
    (1, omega (arith, sum-run (λ f. thirds f 11) thirds-sum low, of-one low (omega (arith, s.0)), of-one (low + 1) (omega (arith, s.0)), of-one (low + 2) (omega (arith, s.0))))
of-set (Triplet kind) s = (kind % 3, omega (arith, sum-triplet (λ f. thirds f 11) thirds-sum kind, of-one kind s))
of-set (Pair kind) s = absurd s

of-sets : (blocks : List Block) → AllByRecursion IsSet blocks → (q : ℕ) × (thirds (total blocks) 11 ≡ 3 * q)
of-sets [] s = (0, sum-none (λ f. thirds f 11) thirds-sum)
of-sets (block ∷ blocks) s =
    let a = of-set block s.0 in
    let b = of-sets blocks s.1 in
    (a.0 + b.0, omega (arith, add (copies block) (total blocks) 11, a.1, b.1))

-- the pair beside sets
of-all : (c : List ℕ) (blocks : List Block) (p : ℕ) → p < 34 → AllByRecursion IsSet blocks → ((k : ℕ) → total (Pair p ∷ blocks) k ≡ get_or c k 0) → p % 3 ≡ third_of_pair c
of-all c blocks p h s add_up = let q = of-sets blocks s in omega (arith, sum-split (λ f. thirds f 11) thirds-sum c blocks p add_up, q.1, of-one p h)

beside : (c : List ℕ) (wanted p x : ℕ) (bs : List Block) → length c ≡ 34 → p < 34 → sets_beside c wanted p x ≡ Some bs → p % 3 ≡ third_of_pair c
beside c wanted p x bs long h e =
    let s = beside-inv c wanted p x bs _ refl e in
    let cut = IsCut-from (set c p (get_or c p 0 - 2)) 0 0 0 wanted x bs (simp length-set (omega (arith, long))) s.1 in
    of-all c bs p h cut.sets (λ k. let a = cut.adds k in let u = uncarried k in let t = same-total bs (0 + k) k (omega arith) in let v = without c p k (omega (arith, long)) s.0 in omega arith)

not-beside : (c : List ℕ) (wanted p x : ℕ) (o : Option (List Block)) → length c ≡ 34 → p < 34 → (p % 3 ≡ third_of_pair c → ⊥) → sets_beside c wanted p x ≡ o → split_of p o ≡ []
not-beside c wanted p x None long h wrong e = refl
not-beside c wanted p x (Some bs) long h wrong e = absurd (wrong (beside c wanted p x bs long h e))

-- a kind that leaves over another number is no pair
pub wrong_pair : (c : List ℕ) (wanted p n : ℕ) → length c ≡ 34 → p < 34 → (p % 3 ≡ third_of_pair c → ⊥) → from_choices c wanted p n ≡ []
wrong_pair c wanted p n long h wrong =
    from_choices-passed c wanted p 0 n (omega arith) (λ x a b. not-beside c wanted p x (sets_beside c wanted p x) long h wrong refl) ∙ from_choices_none c wanted p 0 refl

pub thirds-more : (c : List ℕ) (n sum a b : ℕ) → sum ≡ thirds (λ k. get_or c k 0) n → a ≡ get_or c (3 * n + 1) 0 → b ≡ get_or c (3 * n + 2) 0 → sum + (a + 2 * b) ≡ thirds (λ k. get_or c k 0) (n + 1)
thirds-more c n sum a b e f g =
    let s : thirds (λ k. get_or c k 0) (n + 1) ≡ thirds (λ k. get_or c k 0) (suc n) = ap (thirds (λ k. get_or c k 0)) (add-one n) in
    omega (arith, s, thirds-suc (λ k. get_or c k 0) n, e, f, g)

-- kinds that leave over another number make no pairs
pub from_pairs_passed : (c : List ℕ) (wanted m first left kinds : ℕ) → length c ≡ 34 → left ≤ kinds → first + kinds ≤ 34 → ((kind : ℕ) → left ≤ kind → kind < kinds → (first + kind) % 3 ≡ third_of_pair c → ⊥) → from_pairs c wanted m first kinds ≡ from_pairs c wanted m first left
unfolding from_pairs
from_pairs_passed c wanted m first left kinds long fewer h wrong =
    falling-passed (λ k. from_choices c wanted (first + k) m) left kinds fewer (λ kind a b. wrong_pair c wanted (first + kind) m long (omega arith) (wrong kind a b))
