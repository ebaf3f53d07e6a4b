-- The fu of blocks, as those of the sets and those of the pairs.
use Rattle.std.proofs.Common.{◌≡◌, ◌≤◌, ◌+◌, ◌*◌, ℕ, Bool, true, false, cond, List, [], ◌∷◌, length, refl, arith}
use Rattle.std.specs.List.{sum_by}
use Rattle.std.proofs.lemmas.List.Sums.{sum_by-cons}
use Rattle.std.specs.Prelude.{◌==◌}
use Rattle.riichi_hand.specs.Win.{wind_kind}
use Rattle.riichi_hand.specs.declared.win.WinParts.{WinParts}
use Rattle.riichi_blocks.specs.declared.hand_block.HandBlock.{HandBlock}
use Rattle.riichi_blocks.specs.declared.hand_block.HandBlock.TheVariants.{Run, Triplet, Kong, Pair}
use Rattle.riichi_blocks.specs.Kinds.{is_dragon, is_orphan}
use Rattle.riichi_blocks.specs.Pairs.{fu_if_pair, has_prevalent_fu, pair_fu}
use Rattle.riichi_blocks.specs.Tally.{set_fu}
use Rattle.riichi_score.specs.Fu.{block_fu}

a-triplet : (orphan concealed : Bool) → (cond orphan 4 2) * (cond concealed 2 1) ≡ 2 * cond concealed 2 1 * cond orphan 2 1
a-triplet true true = refl
a-triplet true false = refl
a-triplet false true = refl
a-triplet false false = refl

none-before : (n : ℕ) → n ≡ 0 + n
none-before n = omega arith

one-block : (win : WinParts) (block : HandBlock) → block_fu win block ≡ set_fu block + fu_if_pair win block
one-block win (Run low) = refl
one-block win (Triplet kind concealed) = omega (arith, a-triplet (is_orphan kind) concealed)
one-block win (Kong kind concealed) = omega (arith, a-triplet (is_orphan kind) concealed)
one-block win (Pair kind) = none-before (pair_fu win kind)

pub sets_and_pairs : (win : WinParts) (blocks : List HandBlock) → sum_by (block_fu win) blocks ≡ sum_by set_fu blocks + sum_by (fu_if_pair win) blocks
sets_and_pairs win [] = refl
sets_and_pairs win (block ∷ blocks) = omega (arith, sum_by-cons (block_fu win) block blocks, sum_by-cons set_fu block blocks, sum_by-cons (fu_if_pair win) block blocks, one-block win block, sets_and_pairs win blocks)

most-triplet : (orphan concealed : Bool) → (cond orphan 4 2) * (cond concealed 2 1) ≤ 8
most-triplet true true = omega arith
most-triplet true false = omega arith
most-triplet false true = omega arith
most-triplet false false = omega arith

two : (b : Bool) → cond {A = ℕ} b 2 0 ≤ 2
two true = omega arith
two false = omega arith

most-block : (win : WinParts) (block : HandBlock) → block_fu win block ≤ 32
most-block win (Run low) = omega arith
most-block win (Triplet kind concealed) = omega (arith, most-triplet (is_orphan kind) concealed)
most-block win (Kong kind concealed) = omega (arith, most-triplet (is_orphan kind) concealed)
most-block win (Pair kind) = omega (arith, two (is_dragon kind), two (kind == wind_kind win.seat), two (has_prevalent_fu win kind))

pub few_fu : (win : WinParts) (blocks : List HandBlock) → sum_by (block_fu win) blocks ≤ 32 * length blocks
few_fu win [] = omega arith
few_fu win (block ∷ blocks) = omega (arith, sum_by-cons (block_fu win) block blocks, most-block win block, few_fu win blocks)
