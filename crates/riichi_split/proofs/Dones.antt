-- The blocks that the winning tile completes, each once.
use Rattle.std.proofs.Common.{◌≡◌, ℕ, ◌<◌, Bool, true, ◌&&◌, ◌||◌, not, inl, inr, List, [], ◌∷◌, sym, ap, ◌∙◌, subst, arith, ltb}
use Rattle.std.proofs.lemmas.Bool.{or_cases, or_right, and_parts, and_cases, both_ways, not-true, not-false, ltb-true, lt-ltb, cond_both}
use Rattle.std.proofs.lemmas.Bool.Decides.{nat_tests}
use Rattle.riichi_tiles.specs.declared.block.Block.{Block}
use Rattle.riichi_tiles.specs.declared.block.Block.TheVariants.{Run, Triplet, Pair}
use Rattle.riichi_tiles.specs.Blocks.{copies}
use Rattle.riichi_split.specs.Dones.{same_block, is_block_among, dones}
use Rattle.riichi_tiles.proofs.Members.{IsIn}
use Rattle.riichi_split.proofs.Lists.{Differ}

pub same-block : (a b : Block) → same_block a b ≡ true → a ≡ b
same-block (Run a) (Run b) e = ap Run (grind (arith, nat_tests))
same-block (Triplet a) (Triplet b) e = ap Triplet (grind (arith, nat_tests))
same-block (Pair a) (Pair b) e = ap Pair (grind (arith, nat_tests))
same-block a b e = absurd (cc)

pub same_block-self : (a : Block) → same_block a a ≡ true
same_block-self (Run a) = grind (arith, nat_tests)
same_block-self (Triplet a) = grind (arith, nat_tests)
same_block-self (Pair a) = grind (arith, nat_tests)

in-is_among : (b : Block) (xs : List Block) → is_block_among b xs ≡ true → IsIn b xs
in-is_among b [] e = absurd (cc)
in-is_among b (x ∷ xs) e = elim (or_cases (same_block b x) (is_block_among b xs) e) [ inl s ↦ inl (sym (same-block b x s)) | inr r ↦ inr (in-is_among b xs r) ]

is_block_among-in : (b : Block) (xs : List Block) → IsIn b xs → is_block_among b xs ≡ true
is_block_among-in b [] h = absurd h
is_block_among-in b (x ∷ xs) (inl e) = let s = same_block-self b in let f : same_block b x ≡ true = ap (same_block b) e ∙ s in ap (λ t. t || is_block_among b xs) f
is_block_among-in b (x ∷ xs) (inr h) = or_right (same_block b x) (is_block_among b xs) (is_block_among-in b xs h)

-- a block is one of the dones if the winning tile completes it and it does not come again
abbrev is_last : ℕ → Block → List Block → Bool
is_last w b bs = ltb 0 (copies b w) && not (is_block_among b bs)

pub dones-inv : (w : ℕ) (d : Block) (bs : List Block) → IsIn d (dones w bs) → IsIn d bs × (0 < copies d w)
dones-inv w d [] h = absurd h
dones-inv w d (b ∷ bs) h =
    cond_both (is_last w b bs) (b ∷ dones w bs) (dones w bs) (λ xs. IsIn d xs → IsIn d (b ∷ bs) × (0 < copies d w))
    (λ t i. elim i [
      | inl e ↦ (inl e, subst (λ (x : Block). 0 < copies x w) e (ltb-true 0 (copies b w) (and_parts (ltb 0 (copies b w)) (not (is_block_among b bs)) t).0))
      | inr j ↦ let r = dones-inv w d bs j in (inr r.0, r.1)
    ])
    (λ f j. let r = dones-inv w d bs j in (inr r.0, r.1)) h

pub in-dones : (w : ℕ) (d : Block) (bs : List Block) → IsIn d bs → 0 < copies d w → IsIn d (dones w bs)
in-dones w d [] h l = absurd h
in-dones w d (b ∷ bs) (inl e) l =
    cond_both (is_last w b bs) (b ∷ dones w bs) (dones w bs) (IsIn d) (λ t. inl e)
    (λ f. elim (and_cases (ltb 0 (copies b w)) (not (is_block_among b bs)) f) [
      | inl none ↦ absurd (both_ways (ltb 0 (copies b w)) none (lt-ltb 0 (copies b w) (subst (λ (x : Block). 0 < copies x w) (sym e) l)))
      | inr again ↦ in-dones w d bs (subst (λ (x : Block). IsIn x bs) e (in-is_among b bs (not-false (is_block_among b bs) again))) l
    ])
in-dones w d (b ∷ bs) (inr h) l = let i = in-dones w d bs h l in cond_both (is_last w b bs) (b ∷ dones w bs) (dones w bs) (IsIn d) (λ t. inr i) (λ f. i)

pub Differ-dones : (w : ℕ) (bs : List Block) → Differ (dones w bs)
Differ-dones w [] = tt
Differ-dones w (b ∷ bs) =
    let rest = Differ-dones w bs in
    cond_both (is_last w b bs) (b ∷ dones w bs) (dones w bs) (λ xs. Differ xs)
    (λ t. ((λ i. both_ways (is_block_among b bs) (not-true (is_block_among b bs) (and_parts (ltb 0 (copies b w)) (not (is_block_among b bs)) t).1) (is_block_among-in b bs (dones-inv w b bs i).0)), rest)) (λ f. rest)
