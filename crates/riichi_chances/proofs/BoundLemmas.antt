-- No number of draws is more than those of 136 tiles.
use Rattle.std.proofs.Common.{◌≡◌, ℕ, zero, suc, ◌+◌, ◌-◌, ◌*◌, ◌^◌, ◌<◌, ◌≤◌, Bool, true, false, cond, List, [], ◌∷◌, refl, ap, arith}
use Rattle.std.proofs.Math.Nat.{mul-le-mul}
use Rattle.std.proofs.lemmas.List.Sums.{sum_by-cons}
use Rattle.std.specs.Prelude.{sum_by}
use Rattle.std.specs.List.{filter}
use Rattle.riichi_hand.specs.HandParts.{ShapeParts}
use Rattle.riichi_tiles.specs.Melds.{every_kind}
use Rattle.riichi_rows.proofs.Spread.{spread_few}
use Rattle.riichi_shape.specs.Accepted.{is_accepted, live_of}
use Rattle.riichi_shape.specs.Discards.{is_discard}
use Rattle.riichi_shape.specs.LiveCopies.{live_in}
use Rattle.riichi_deeper.specs.Drawn.{parts_with}
use Rattle.riichi_chances.specs.AtMost.{accepted_most, counted_most, most_with}
use Rattle.riichi_chances.specs.Counted.{accepts, counted_draws, counted_rest, counted_with, accepted_draws, parts_less}
use Rattle.riichi_chances.specs.Draws.{all_draws, is_there}
use Rattle.riichi_chances.specs.Numbers.{most_draws}
use Rattle.riichi_chances.proofs.CountedLemmas.{accepted_sum}
use Rattle.riichi_chances.proofs.SumLemmas.{greatest_few}

pub times_few : (a b c d : ℕ) → a ≤ b → c ≤ d → a * c ≤ b * d
times_few a b c d less few = mul-le-mul less few

pub all_few : (unseen turns : ℕ) → unseen ≤ 136 → all_draws unseen turns ≤ most_draws turns
unfolding all_draws most_draws
all_few unseen zero few = omega arith
all_few unseen (suc turns) few = times_few unseen 136 (all_draws (unseen - 1) turns) (most_draws turns) few (all_few (unseen - 1) turns (omega arith))

pub accepted_few : (parts : ShapeParts) → live_in (accepts parts) ≤ 136
accepted_few parts =
    omega (arith, accepted_sum (λ pair. pair.1) parts.tiles parts.melds parts.seen, spread_few (λ k. cond (is_accepted parts.tiles parts.melds parts.seen k) (live_of parts.tiles parts.melds parts.seen k) 0) 0 34 (λ k low high. few (is_accepted parts.tiles parts.melds parts.seen k) (live_of parts.tiles parts.melds parts.seen k) (omega arith)))
  where
    few : (t : Bool) (n : ℕ) → n ≤ 4 → cond t n 0 ≤ 4
    few true n h = h
    few false n h = omega arith

pub pairs_few : (number : ℕ → ℕ) (most : ℕ) → ((kind : ℕ) → number kind ≤ most) → (pairs : List (ℕ × ℕ)) → sum_by (λ (pair : ℕ × ℕ). pair.1 * number pair.0) pairs ≤ sum_by (λ (pair : ℕ × ℕ). pair.1) pairs * most
pairs_few number most few [] = omega arith
pairs_few number most few (pair ∷ pairs) =
    add (pair.1) (number pair.0) (sum_by (λ (p : ℕ × ℕ). p.1 * number p.0) pairs) (sum_by (λ (p : ℕ × ℕ). p.1) pairs) (sum_by-cons (λ (p : ℕ × ℕ). p.1 * number p.0) pair pairs) (sum_by-cons (λ (p : ℕ × ℕ). p.1) pair pairs) (few pair.0) (pairs_few number most few pairs)
  where
    add : {s t : ℕ} (l n rest some : ℕ) → s ≡ l * n + rest → t ≡ l + some → n ≤ most → rest ≤ some * most → s ≤ t * most
    add l n rest some e e' small later = omega (arith, e, ap (λ m. m * most) e', times_few l l n most (omega arith) small, later)

module _ (goal unseen left most : ℕ) (value : ShapeParts → ℕ) (all : all_draws unseen left ≤ most) (each : (parts : ShapeParts) → value parts ≤ most) where
  pub with_few : (drawn : ShapeParts) → counted_with goal unseen left value drawn ≤ most
  unfolding counted_with counted_rest
  with_few drawn = by_test (is_there goal drawn) (greatest_few (λ kind. value (parts_less drawn kind)) most (filter (is_discard drawn.tiles drawn.melds) every_kind) (λ k i. each (parts_less drawn k)))
    where
      by_test : {n : ℕ} (t : Bool) → n ≤ most → cond t (all_draws unseen left) n ≤ most
      by_test true few = all
      by_test false few = few

  pub gains_few : (parts : ShapeParts) → accepted_draws goal unseen left value parts ≤ live_in (accepts parts) * most
  unfolding accepted_draws
  gains_few parts = pairs_few (λ kind. counted_with goal unseen left value (parts_with parts kind)) most (λ kind. with_few (parts_with parts kind)) (accepts parts)

  most_gains : (parts : ShapeParts) → accepted_most goal unseen left value parts ≤ live_in (accepts parts) * most
  unfolding accepted_most
  most_gains parts = pairs_few (most_with goal unseen left value parts) most (λ kind. omega (arith, with_few (parts_with parts kind), each parts)) (accepts parts)

pub most_none : most_draws zero ≡ 1
unfolding most_draws
most_none = refl

pub most_more : (turns : ℕ) → most_draws (suc turns) ≡ 136 * most_draws turns
unfolding most_draws
most_more turns = refl

-- as many times as there are other tiles, and what begins with the live ones
pub step_few : (others some c g most : ℕ) → others + some ≤ 136 → c ≤ most → g ≤ some * most → others * c + g ≤ 136 * most
step_few others some c g most few small more =
    omega (arith, times_few others others c most (omega arith) small, more, times_few (others + some) 136 most most few (omega arith))

pub counted_few : (goal turns unseen : ℕ) (parts : ShapeParts) → unseen ≤ 136 → counted_draws goal parts unseen turns ≤ most_draws turns
unfolding counted_draws most_draws
counted_few goal zero unseen parts few = by_test (is_there goal parts) most_none
  where
    by_test : (t : Bool) → most_draws zero ≡ 1 → cond t 1 0 ≤ most_draws zero
    by_test true e = omega (arith, e)
    by_test false e = omega (arith, e)
counted_few goal (suc left) unseen parts few =
    by_test (is_there goal parts) (all_few unseen (suc left) few)
    (step_few (unseen - live) live (counted_draws goal parts (unseen - 1) left) (accepted_draws goal (unseen - 1) left (λ rest. counted_draws goal rest (unseen - 1) left) parts) (most_draws left) (omega (arith, few, accepted_few parts)) (counted_few goal left (unseen - 1) parts (omega arith))
    (gains_few goal (unseen - 1) left (most_draws left) (λ rest. counted_draws goal rest (unseen - 1) left) (all_few (unseen - 1) left (omega arith)) (λ rest. counted_few goal left (unseen - 1) rest (omega arith)) parts))
  where
    live : ℕ
    live = live_in (accepts parts)

    by_test : {a b : ℕ} (t : Bool) → a ≤ most_draws (suc left) → b ≤ most_draws (suc left) → cond t a b ≤ most_draws (suc left)
    by_test true here there = here
    by_test false here there = there

pub upper_few : (goal turns unseen : ℕ) (parts : ShapeParts) → unseen ≤ 136 → counted_most goal parts unseen turns ≤ most_draws turns
unfolding counted_most most_draws
upper_few goal zero unseen parts few = by_test (is_there goal parts) most_none
  where
    by_test : (t : Bool) → most_draws zero ≡ 1 → cond t 1 0 ≤ most_draws zero
    by_test true e = omega (arith, e)
    by_test false e = omega (arith, e)
upper_few goal (suc left) unseen parts few =
    by_test (is_there goal parts) (all_few unseen (suc left) few)
    (step_few (unseen - live) live (counted_most goal parts (unseen - 1) left) (accepted_most goal (unseen - 1) left (λ rest. counted_most goal rest (unseen - 1) left) parts) (most_draws left) (omega (arith, few, accepted_few parts)) (upper_few goal left (unseen - 1) parts (omega arith))
    (most_gains goal (unseen - 1) left (most_draws left) (λ rest. counted_most goal rest (unseen - 1) left) (all_few (unseen - 1) left (omega arith)) (λ rest. upper_few goal left (unseen - 1) rest (omega arith)) parts))
  where
    live : ℕ
    live = live_in (accepts parts)

    by_test : {a b : ℕ} (t : Bool) → a ≤ most_draws (suc left) → b ≤ most_draws (suc left) → cond t a b ≤ most_draws (suc left)
    by_test true here there = here
    by_test false here there = there

-- 18 turns fit
pub most_rises : (turns more : ℕ) → most_draws turns ≤ most_draws (more + turns)
unfolding most_draws
most_rises turns zero = omega (arith, ap most_draws (none turns))
  where
    none : (n : ℕ) → 0 + n ≡ n
    none n = omega arith
most_rises turns (suc more) = omega (arith, most_rises turns more, ap most_draws (one more turns))
  where
    one : (m n : ℕ) → suc m + n ≡ suc (m + n)
    one m n = omega arith

most_last : most_draws 18 < 2 ^ 128
unfolding most_draws
most_last = omega arith

pub most_fits : (turns : ℕ) → turns ≤ 18 → most_draws turns < 2 ^ 128
most_fits turns few = omega (arith, most_rises turns (18 - turns), ap most_draws (whole turns few), most_last)
  where
    whole : (n : ℕ) → n ≤ 18 → 18 - n + n ≡ 18
    whole n low = omega arith
