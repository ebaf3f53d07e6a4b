-- One step along the blocks that the winning tile completes.
use Rattle.std.proofs.Common.{◌≡◌, ℕ, zero, suc, ◌+◌, ◌≤◌, Bool, true, false, cond, ◌&&◌, ◌||◌, not, Option, Some, None, is_some, MatchOption, List, [], ◌∷◌, ◌++◌, length, drop, refl, sym, ap, ◌∙◌, arith, ltb, add-one}
use Rattle.std.specs.List.{slice_get}
use Rattle.std.proofs.Math.Bool.{or-false, or_assoc}
use Rattle.riichi_tiles.specs.declared.block.Block.{Block}
use Rattle.riichi_tiles.specs.declared.block.Block.TheVariants.{Pair}
use Rattle.riichi_tiles.specs.Blocks.{copies}
use Rattle.riichi_split.specs.Dones.{same_block, is_block_among, dones, done_first, done_unless_again}

is_block_among-push : (b y : Block) (xs : List Block) → is_block_among b (xs ++ y ∷ []) ≡ (is_block_among b xs || same_block b y)
is_block_among-push b y [] = or-false (same_block b y)
is_block_among-push b y (x ∷ xs) = ap (λ t. same_block b x || t) (is_block_among-push b y xs) ∙ sym (or_assoc (same_block b x) (is_block_among b xs) (same_block b y))

done_first-suc : (w pair place : ℕ) (sets : List Block) (b : Block) → slice_get sets place ≡ Some b → done_first w (drop place (sets ++ Pair pair ∷ [])) ≡ done_unless_again (is_block_among b (drop (suc place) sets) || same_block b (Pair pair)) b w
done_first-suc w pair place [] b e = absurd (cc)
done_first-suc w pair zero (x ∷ xs) b e =
    let x-is : x ≡ b = cc in
    ap (λ y. done_unless_again (is_block_among y (xs ++ Pair pair ∷ [])) y w) x-is ∙ ap (λ t. done_unless_again t b w) (is_block_among-push b (Pair pair) xs)
done_first-suc w pair (suc place) (x ∷ xs) b e = done_first-suc w pair place xs b e

pub done_first_set : (w pair place : ℕ) (sets : List Block) (b : Block) → slice_get sets place ≡ Some b → done_first w (drop place (sets ++ Pair pair ∷ [])) ≡ done_unless_again (is_block_among b (drop (place + 1) sets) || same_block b (Pair pair)) b w
done_first_set w pair place sets b e = rw add-one (done_first-suc w pair place sets b e)

pub done_first_pair : (w pair place : ℕ) (sets : List Block) → slice_get sets place ≡ None → place ≤ length sets → done_first w (drop place (sets ++ Pair pair ∷ [])) ≡ done_unless_again false (Pair pair) w
done_first_pair w pair zero [] e l = refl
done_first_pair w pair (suc place) [] e l = absurd (omega arith)
done_first_pair w pair zero (x ∷ xs) e l = absurd (cc)
done_first_pair w pair (suc place) (x ∷ xs) e l = done_first_pair w pair place xs e (omega arith)

first-inv : (t : Bool) (b : Block) (xs : List Block) (o : Option Block) → o ≡ cond t (Some b) None → MatchOption o (cond t (b ∷ xs) xs ≡ xs) (λ d. cond t (b ∷ xs) xs ≡ d ∷ xs)
first-inv true b xs None e = absurd (cc)
first-inv true b xs (Some d) e = let i : b ≡ d = cc in ap (λ y. y ∷ xs) i
first-inv false b xs None e = refl
first-inv false b xs (Some d) e = absurd (cc)

dones-suc : (w place : ℕ) (bs : List Block) (o : Option Block) → o ≡ done_first w (drop place bs) → MatchOption o (dones w (drop place bs) ≡ dones w (drop (suc place) bs)) (λ d. dones w (drop place bs) ≡ d ∷ dones w (drop (suc place) bs))
dones-suc w zero [] None e = refl
dones-suc w zero [] (Some d) e = absurd (cc)
dones-suc w (suc place) [] None e = refl
dones-suc w (suc place) [] (Some d) e = absurd (cc)
dones-suc w zero (b ∷ bs) o e = first-inv (ltb 0 (copies b w) && not (is_block_among b bs)) b (dones w bs) o e
dones-suc w (suc place) (b ∷ bs) o e = dones-suc w place bs o e

pub dones_found : (w place : ℕ) (bs before : List Block) (o : Option Block) → o ≡ done_first w (drop place bs) → is_some o ≡ true → dones w (drop place bs) ≡ before → MatchOption o ((before ≡ []) × (dones w (drop (place + 1) bs) ≡ [])) (λ d. before ≡ d ∷ dones w (drop (place + 1) bs))
dones_found w place bs before None e s h = absurd (cc)
dones_found w place bs before (Some d) e s h = rw add-one (sym h ∙ dones-suc w place bs (Some d) e)

pub dones_passed : (w place : ℕ) (bs before : List Block) (o : Option Block) → o ≡ done_first w (drop place bs) → is_some o ≡ false → dones w (drop place bs) ≡ before → dones w (drop (place + 1) bs) ≡ before
dones_passed w place bs before None e s h = rw add-one (sym (dones-suc w place bs None e) ∙ h)
dones_passed w place bs before (Some d) e s h = absurd (cc)

pub not_done : (b : Block) (w : ℕ) (again : Bool) → ltb 0 (copies b w) ≡ false → None ≡ done_unless_again again b w
not_done b w again e = ap (λ t. cond (t && not again) (Some b) None) (sym e)
