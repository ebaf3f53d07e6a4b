-- The ranks of a set as the bits of a number.
use Rattle.std.proofs.Common.{◌≡◌, ℕ, zero, suc, ◌+◌, ◌*◌, ◌^◌, ◌/◌, ◌<◌, Bool, true, false, cond, ap, ◌∙◌, sym, arith, bit_and}
use Rattle.std.proofs.lemmas.Bool.Decides.{nat_tests}
use Rattle.std.proofs.lemmas.Nat.Bits.{and_pow, bit_at-lt, bit_at-suc, bit_at_lowest}
use Rattle.std.proofs.Math.Nat.{one-le-pow}
use Rattle.std.specs.Int.{bit_at}
use Rattle.std.specs.Prelude.{◌==◌, nat_lt}
use Rattle.riichi_rows.specs.Marks.{has_rank}
use Rattle.riichi_rows.specs.declared.rank_set.RankSet.{RankSet}

-- a bit of one and twice a number
lowest_is : (first : Bool) (later n : ℕ) → n ≡ cond first 1 0 + 2 * later → (bit_at n 0 == 1) ≡ first
lowest_is true later n e = let lowest = bit_at_lowest n in grind (arith, nat_tests, lowest, e)
lowest_is false later n e = let lowest = bit_at_lowest n in grind (arith, nat_tests, lowest, e)

one_bit : (b p : ℕ) → b < 2 → 0 < p → (b == 1) ≡ nat_lt 0 (b * p)
one_bit zero p low some = ap (nat_lt 0) (none p)
  where
    none : (p : ℕ) → 0 ≡ 0 * p
    none p = omega arith
one_bit (suc zero) p low some = grind (arith, nat_tests)
one_bit (suc (suc b)) p low some = absurd (omega arith)

later_is : (first : Bool) (later n rank : ℕ) → n ≡ cond first 1 0 + 2 * later → (bit_at n (suc rank) == 1) ≡ nat_lt 0 (bit_and later (2 ^ rank))
later_is first later n rank e =
    ap (λ b. b == 1) (bit_at-suc n rank ∙ ap (λ m. bit_at m rank) (half first n e))
    ∙ one_bit (bit_at later rank) (2 ^ rank) (bit_at-lt later rank) (one-le-pow rank 2 (omega arith))
    ∙ ap (nat_lt 0) (sym (and_pow later rank))
  where
    half : (first : Bool) (n : ℕ) → n ≡ cond first 1 0 + 2 * later → n / 2 ≡ later
    half true n e = omega (arith, e)
    half false n e = omega (arith, e)

pub bits_are : (set : RankSet) (n rank : ℕ) → n ≡ cond set.first 1 0 + 2 * set.later → (bit_at n rank == 1) ≡ has_rank set rank
bits_are set n zero e = lowest_is set.first set.later n e
bits_are set n (suc rank) e = later_is set.first set.later n rank e
