-- Sets of yaku, by which yaku are in them.
use Rattle.std.proofs.Common.{◌≡◌, ℕ, zero, suc, ◌+◌, ◌*◌, ◌/◌, ◌%◌, ◌^◌, Bool, true, false, not, ◌&&◌, ◌||◌, cond, nat_eq, nat_le, List, [], ◌∷◌, map, take, length, ◌<◌, ◌≤◌, get_or, refl, sym, ap, ◌∙◌, arith}
use Rattle.std.specs.List.{list_any, range_with_len}
use Rattle.std.proofs.Math.Nat.{two-pow-succ}
use Rattle.std.proofs.lemmas.Nat.Bits.{bit_at_lowest, bit_at-suc, bit_at-zero}
use Rattle.std.proofs.lemmas.List.{get_or-map}
use Rattle.std.proofs.lemmas.List.FromFn.{get_or-range_with_len}
use Rattle.std.proofs.lemmas.Bool.{leb-true}
use Rattle.std.proofs.lemmas.Bool.Decides.{nat_tests}
use Rattle.std.specs.Int.{bit_at}
use Rattle.riichi_hand.specs.declared.win.WinParts.{WinParts}
use Rattle.riichi_split.specs.declared.reading.Reading.{Reading}
use Rattle.riichi_blocks.specs.declared.hand_block.HandBlock.{HandBlock}
use Rattle.riichi_blocks.specs.HandBlocks.{blocks_of}
use Rattle.riichi_blocks.specs.Held.{all_tiles}
use Rattle.riichi_yaku.specs.declared.table.Yaku.{Yaku}
use Rattle.riichi_yaku.specs.declared.table.Yaku.TheVariants.{Riichi}
use Rattle.riichi_yaku.specs.Table.{every_yaku, number, word, yaku_is_yakuman}
use Rattle.riichi_yaku.specs.YakuSets.{contains, number_of_bits, set_of}
use Rattle.riichi_yaku.specs.Conditions.{condition, is_met, is_yakuman_met, is_other_met, counts_where, counts, holds, yaku_of}
use Rattle.riichi_yaku.specs.declared.table.TheConstants.Yaku.{COUNT, MOST_WORD}

-- ---- numbers and their bits

-- a number below its first bit is twice its rest
half : (b : Bool) (n : ℕ) → (cond b 1 0 + 2 * n) / 2 ≡ n
half true n = omega arith
half false n = omega arith

lowest : (b : Bool) (n : ℕ) → nat_eq ((cond b 1 0 + 2 * n) % 2) 1 ≡ b
lowest true n = ap (λ k. nat_eq k 1) (let e : (1 + 2 * n) % 2 ≡ 1 = omega arith in e)
lowest false n = ap (λ k. nat_eq k 1) (let e : (0 + 2 * n) % 2 ≡ 0 = omega arith in e)

-- bit n of the number is flag n
bit-number_of : (flags : List Bool) (n : ℕ) → nat_eq (bit_at (number_of_bits flags) n) 1 ≡ get_or flags n false
bit-number_of [] n = ap (λ k. nat_eq k 1) (bit_at-zero n)
bit-number_of (b ∷ flags) zero = ap (λ k. nat_eq k 1) (bit_at_lowest (cond b 1 0 + 2 * number_of_bits flags)) ∙ lowest b (number_of_bits flags)
bit-number_of (b ∷ flags) (suc n) =
    ap (λ k. nat_eq k 1) (bit_at-suc (cond b 1 0 + 2 * number_of_bits flags) n ∙ ap (λ k. bit_at k n) (half b (number_of_bits flags)))
    ∙ bit-number_of flags n

step : (b : Bool) (n : ℕ) (any : Bool) → not (nat_eq n 0) ≡ any → (b || any) ≡ not (nat_eq (cond b 1 0 + 2 * n) 0)
step true n any e = ap not (let some : false ≡ nat_eq (1 + 2 * n) 0 = grind (arith, nat_tests) in some)
step false zero any e = sym e
step false (suc n) any e = sym e ∙ ap not (let some : nat_eq (suc n) 0 ≡ nat_eq (0 + 2 * suc n) 0 = grind (arith, nat_tests) in some)

-- a flag is set where the number isn't 0
any-number_of : (flags : List Bool) → list_any (λ flag. flag) flags ≡ not (nat_eq (number_of_bits flags) 0)
any-number_of [] = refl
any-number_of (b ∷ flags) = step b (number_of_bits flags) (list_any (λ flag. flag) flags) (sym (any-number_of flags))

lt-step : (b : Bool) (n p : ℕ) → n < p → cond b 1 0 + 2 * n < p + p
lt-step true n p h = omega (arith, h)
lt-step false n p h = omega (arith, h)

number_of_bits-lt : (flags : List Bool) → number_of_bits flags < 2 ^ length flags
number_of_bits-lt [] = omega arith
number_of_bits-lt (b ∷ flags) = omega (arith, lt-step b (number_of_bits flags) (2 ^ length flags) (number_of_bits-lt flags), two-pow-succ (length flags))

-- ---- the yaku of a set

-- each yaku stands in the table where its number says
pub in_table : (yaku : Yaku) → get_or every_yaku (number yaku) Riichi ≡ yaku
in_table Riichi = refl
in_table other = refl

pub below_count : (yaku : Yaku) → number yaku < COUNT
below_count Riichi = omega arith
below_count other = omega arith

pub number_at : (place : ℕ) (other : Yaku) → place < COUNT → number (get_or every_yaku place other) ≡ place
number_at place other within =
    let numbers : map number every_yaku ≡ range_with_len 0 COUNT = refl in
    sym (get_or-map number every_yaku place other 0 within) ∙ ap (λ x. get_or x place 0) numbers ∙ get_or-range_with_len 0 COUNT place 0 within ∙ omega arith

pub contains-set_of : (is_so : Yaku → Bool) (yaku : Yaku) → contains (set_of is_so) yaku ≡ is_so yaku
contains-set_of is_so yaku =
    bit-number_of (map is_so every_yaku) (number yaku)
    ∙ get_or-map is_so every_yaku (number yaku) Riichi false (below_count yaku)
    ∙ ap is_so (in_table yaku)

-- ---- yakuman alone

chosen : (met : Yaku → Bool) (none some_yakuman : Bool) → some_yakuman ≡ not none → cond none (set_of (is_other_met met)) (set_of (is_yakuman_met met)) ≡ set_of (counts_where some_yakuman met)
chosen met true some e = ap (λ b. set_of (counts_where b met)) (sym e)
chosen met false some e = ap (λ b. set_of (counts_where b met)) (sym e)

counted-set : (met : Yaku → Bool) → cond (nat_eq (set_of (is_yakuman_met met)) 0) (set_of (is_other_met met)) (set_of (is_yakuman_met met)) ≡ set_of (counts met)
counted-set met = chosen met (nat_eq (set_of (is_yakuman_met met)) 0) (list_any (is_yakuman_met met) every_yaku) (any-number_of (map (is_yakuman_met met) every_yaku))

others-below : (met : Yaku → Bool) → set_of (is_other_met met) < 2 ^ 29
others-below met =
    let flags : List Bool = map met (take 29 every_yaku) in
    let same : set_of (is_other_met met) ≡ number_of_bits flags = omega arith in
    omega (arith, same, number_of_bits-lt flags)

no-other : (met : Yaku → Bool) (yaku : Yaku) (some_yakuman : Bool) → nat_le (2 ^ 29) (set_of (counts_where some_yakuman met)) ≡ true → yaku_is_yakuman yaku ≡ false → counts_where some_yakuman met yaku ≡ false
no-other met yaku true large e = ap (λ b. b && met yaku) e
no-other met yaku false large e = absurd (omega (arith, leb-true (2 ^ 29) (set_of (is_other_met met)) large, others-below met))

-- the set of the blocks and tiles of a reading, where it is known whether some yakuman is met
pub yaku_of-where : (reading : Reading) (w : WinParts) (blocks : List HandBlock) (tiles : List ℕ) (none : Bool) → blocks ≡ blocks_of reading w → tiles ≡ all_tiles w → nat_eq (set_of (is_yakuman_met (condition blocks reading tiles w))) 0 ≡ none →
    cond none (set_of (is_other_met (condition blocks reading tiles w))) (set_of (is_yakuman_met (condition blocks reading tiles w))) ≡ yaku_of reading w
unfolding yaku_of
yaku_of-where reading w blocks tiles none b t e =
    ap (λ n. cond n (set_of (is_other_met (condition blocks reading tiles w))) (set_of (is_yakuman_met (condition blocks reading tiles w)))) (sym e)
    ∙ counted-set (condition blocks reading tiles w)
    ∙ ap (λ x. set_of (counts (condition x reading tiles w))) b
    ∙ ap (λ x. set_of (counts (condition (blocks_of reading w) reading x w))) t

pub contains-yaku_of : (reading : Reading) (w : WinParts) (yaku : Yaku) → contains (yaku_of reading w) yaku ≡ holds reading w yaku
unfolding yaku_of holds
contains-yaku_of reading w yaku = contains-set_of (counts (is_met reading w)) yaku

pub yakuman-alone : (reading : Reading) (w : WinParts) → nat_le (2 ^ 29) (yaku_of reading w) ≡ true → (yaku : Yaku) → yaku_is_yakuman yaku ≡ false → contains (yaku_of reading w) yaku ≡ false
unfolding yaku_of
yakuman-alone reading w large yaku e =
    contains-set_of (counts (is_met reading w)) yaku
    ∙ no-other (is_met reading w) yaku (list_any (is_yakuman_met (is_met reading w)) every_yaku) large e

-- ---- words

-- no word is longer than `all-terminals-and-honours`
pub word_short : (yaku : Yaku) → length (word yaku) ≤ MOST_WORD
word_short Riichi = omega arith
word_short other = omega arith
