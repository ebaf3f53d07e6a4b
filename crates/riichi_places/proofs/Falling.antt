-- More points never have fewer final points.
use Rattle.std.proofs.Common.{ℕ, zero, suc, ◌+◌, ◌<◌, ◌≤◌, ℤ, pos, negsuc, ◌+ℤ◌, ◌-ℤ◌, ◌*ℤ◌, arith}
use Rattle.std.specs.Prelude.{◌<ℤ◌, ◌≤ℤ◌}
use Rattle.std.proofs.lemmas.Int.{ints}
use Rattle.riichi_table.specs.Players.{of_player}
use Rattle.riichi_table.specs.declared.player.Player.{Player}
use Rattle.riichi_table.specs.declared.player.ByPlayer.{ByPlayer}
use Rattle.riichi_table.specs.declared.rules.TableRules.{TableRules}
use Rattle.riichi_places.specs.Places.{ahead_of, sharers_of, earlier_of}
use Rattle.riichi_places.specs.Bonuses.{place_bonus, bonus_if_taken, bonuses, part_of, shared_bonus, bonus_of}
use Rattle.riichi_places.specs.Laws.{HasFallingBonuses, MorePointsAreNoLess}
use Rattle.riichi_places.proofs.Counts.{some_sharer}
use Rattle.riichi_places.proofs.Level.{sharers_are_ahead, at_most_four}

-- between two whole hundreds
abbrev IsBetween : ℤ → ℤ → ℤ → Type 0
IsBetween low high points = ((pos 100 *ℤ low) ≤ℤ points) × (points ≤ℤ (pos 100 *ℤ high))

-- each part of points lies where their mean does
one_between : (points low high : ℤ) (earlier : ℕ) → (pos 100 *ℤ low) ≤ℤ points → points ≤ℤ (pos 100 *ℤ high) → IsBetween low high (part_of points 1 earlier)
unfolding part_of
one_between (pos n) low high earlier h k = (omega (arith, ints), omega (arith, ints))
one_between (negsuc n) low high earlier h k = (omega (arith, ints), omega (arith, ints))

two_between : (points low high : ℤ) (earlier : ℕ) → (pos 200 *ℤ low) ≤ℤ points → points ≤ℤ (pos 200 *ℤ high) → IsBetween low high (part_of points 2 earlier)
unfolding part_of
two_between (pos n) low high earlier h k = (omega (arith, ints), omega (arith, ints))
two_between (negsuc n) low high earlier h k = (omega (arith, ints), omega (arith, ints))

three_between : (points low high : ℤ) (earlier : ℕ) → (pos 300 *ℤ low) ≤ℤ points → points ≤ℤ (pos 300 *ℤ high) → IsBetween low high (part_of points 3 earlier)
unfolding part_of
three_between (pos n) low high earlier h k = (omega (arith, ints), omega (arith, ints))
three_between (negsuc n) low high earlier h k = (omega (arith, ints), omega (arith, ints))

four_between : (points low high : ℤ) (earlier : ℕ) → (pos 400 *ℤ low) ≤ℤ points → points ≤ℤ (pos 400 *ℤ high) → IsBetween low high (part_of points 4 earlier)
unfolding part_of
four_between (pos n) low high earlier h k = (omega (arith, ints), omega (arith, ints))
four_between (negsuc n) low high earlier h k = (omega (arith, ints), omega (arith, ints))

-- a player's bonus lies between those of the last and the first of the places that are taken
abbrev IsAmong : TableRules → ℕ → ℕ → ℕ → Type 0
IsAmong rules ahead sharers earlier =
    (place_bonus rules (ahead + sharers) ≤ℤ shared_bonus rules (1 + ahead) sharers earlier)
    × (shared_bonus rules (1 + ahead) sharers earlier ≤ℤ place_bonus rules (1 + ahead))

among : (rules : TableRules) → HasFallingBonuses rules → (ahead sharers earlier : ℕ) → 0 < sharers → ahead + sharers ≤ 4 → IsAmong rules ahead sharers earlier
unfolding shared_bonus bonuses bonus_if_taken
among rules falls ahead zero e p q = absurd (omega arith)
among rules falls zero (suc zero) e p q =
    let low = falls.hundreds 1 in let high = falls.hundreds 1 in
    let h = one_between (bonuses rules 1 1) low.0 high.0 e (omega (arith, ints, low.1, high.1, falls.first, falls.second, falls.third)) (omega (arith, ints, low.1, high.1, falls.first, falls.second, falls.third)) in
    (omega (arith, ints, h.0, h.1, low.1, high.1), omega (arith, ints, h.0, h.1, low.1, high.1))
among rules falls zero (suc (suc zero)) e p q =
    let low = falls.hundreds 2 in let high = falls.hundreds 1 in
    let h = two_between (bonuses rules 1 2) low.0 high.0 e (omega (arith, ints, low.1, high.1, falls.first, falls.second, falls.third)) (omega (arith, ints, low.1, high.1, falls.first, falls.second, falls.third)) in
    (omega (arith, ints, h.0, h.1, low.1, high.1), omega (arith, ints, h.0, h.1, low.1, high.1))
among rules falls zero (suc (suc (suc zero))) e p q =
    let low = falls.hundreds 3 in let high = falls.hundreds 1 in
    let h = three_between (bonuses rules 1 3) low.0 high.0 e (omega (arith, ints, low.1, high.1, falls.first, falls.second, falls.third)) (omega (arith, ints, low.1, high.1, falls.first, falls.second, falls.third)) in
    (omega (arith, ints, h.0, h.1, low.1, high.1), omega (arith, ints, h.0, h.1, low.1, high.1))
among rules falls zero (suc (suc (suc (suc zero)))) e p q =
    let low = falls.hundreds 4 in let high = falls.hundreds 1 in
    let h = four_between (bonuses rules 1 4) low.0 high.0 e (omega (arith, ints, low.1, high.1, falls.first, falls.second, falls.third)) (omega (arith, ints, low.1, high.1, falls.first, falls.second, falls.third)) in
    (omega (arith, ints, h.0, h.1, low.1, high.1), omega (arith, ints, h.0, h.1, low.1, high.1))
among rules falls (suc zero) (suc zero) e p q =
    let low = falls.hundreds 2 in let high = falls.hundreds 2 in
    let h = one_between (bonuses rules 2 1) low.0 high.0 e (omega (arith, ints, low.1, high.1, falls.first, falls.second, falls.third)) (omega (arith, ints, low.1, high.1, falls.first, falls.second, falls.third)) in
    (omega (arith, ints, h.0, h.1, low.1, high.1), omega (arith, ints, h.0, h.1, low.1, high.1))
among rules falls (suc zero) (suc (suc zero)) e p q =
    let low = falls.hundreds 3 in let high = falls.hundreds 2 in
    let h = two_between (bonuses rules 2 2) low.0 high.0 e (omega (arith, ints, low.1, high.1, falls.first, falls.second, falls.third)) (omega (arith, ints, low.1, high.1, falls.first, falls.second, falls.third)) in
    (omega (arith, ints, h.0, h.1, low.1, high.1), omega (arith, ints, h.0, h.1, low.1, high.1))
among rules falls (suc zero) (suc (suc (suc zero))) e p q =
    let low = falls.hundreds 4 in let high = falls.hundreds 2 in
    let h = three_between (bonuses rules 2 3) low.0 high.0 e (omega (arith, ints, low.1, high.1, falls.first, falls.second, falls.third)) (omega (arith, ints, low.1, high.1, falls.first, falls.second, falls.third)) in
    (omega (arith, ints, h.0, h.1, low.1, high.1), omega (arith, ints, h.0, h.1, low.1, high.1))
among rules falls (suc (suc zero)) (suc zero) e p q =
    let low = falls.hundreds 3 in let high = falls.hundreds 3 in
    let h = one_between (bonuses rules 3 1) low.0 high.0 e (omega (arith, ints, low.1, high.1, falls.first, falls.second, falls.third)) (omega (arith, ints, low.1, high.1, falls.first, falls.second, falls.third)) in
    (omega (arith, ints, h.0, h.1, low.1, high.1), omega (arith, ints, h.0, h.1, low.1, high.1))
among rules falls (suc (suc zero)) (suc (suc zero)) e p q =
    let low = falls.hundreds 4 in let high = falls.hundreds 3 in
    let h = two_between (bonuses rules 3 2) low.0 high.0 e (omega (arith, ints, low.1, high.1, falls.first, falls.second, falls.third)) (omega (arith, ints, low.1, high.1, falls.first, falls.second, falls.third)) in
    (omega (arith, ints, h.0, h.1, low.1, high.1), omega (arith, ints, h.0, h.1, low.1, high.1))
among rules falls (suc (suc (suc zero))) (suc zero) e p q =
    let low = falls.hundreds 4 in let high = falls.hundreds 4 in
    let h = one_between (bonuses rules 4 1) low.0 high.0 e (omega (arith, ints, low.1, high.1, falls.first, falls.second, falls.third)) (omega (arith, ints, low.1, high.1, falls.first, falls.second, falls.third)) in
    (omega (arith, ints, h.0, h.1, low.1, high.1), omega (arith, ints, h.0, h.1, low.1, high.1))
among rules falls ahead sharers e p q = absurd (omega arith)

falling : (rules : TableRules) → HasFallingBonuses rules → (low high : ℕ) → 0 < high → high ≤ low → low ≤ 4 → place_bonus rules low ≤ℤ place_bonus rules high
falling rules falls (suc zero) (suc zero) p q r = omega (arith, ints, falls.first, falls.second, falls.third)
falling rules falls (suc (suc zero)) (suc zero) p q r = omega (arith, ints, falls.first, falls.second, falls.third)
falling rules falls (suc (suc (suc zero))) (suc zero) p q r = omega (arith, ints, falls.first, falls.second, falls.third)
falling rules falls (suc (suc (suc (suc zero)))) (suc zero) p q r = omega (arith, ints, falls.first, falls.second, falls.third)
falling rules falls (suc (suc zero)) (suc (suc zero)) p q r = omega (arith, ints, falls.first, falls.second, falls.third)
falling rules falls (suc (suc (suc zero))) (suc (suc zero)) p q r = omega (arith, ints, falls.first, falls.second, falls.third)
falling rules falls (suc (suc (suc (suc zero)))) (suc (suc zero)) p q r = omega (arith, ints, falls.first, falls.second, falls.third)
falling rules falls (suc (suc (suc zero))) (suc (suc (suc zero))) p q r = omega (arith, ints, falls.first, falls.second, falls.third)
falling rules falls (suc (suc (suc (suc zero)))) (suc (suc (suc zero))) p q r = omega (arith, ints, falls.first, falls.second, falls.third)
falling rules falls (suc (suc (suc (suc zero)))) (suc (suc (suc (suc zero)))) p q r = omega (arith, ints, falls.first, falls.second, falls.third)
falling rules falls low high p q r = absurd (omega arith)

bonus_is_no_less : (rules : TableRules) (points : ByPlayer ℤ) (one other : Player) → HasFallingBonuses rules →
    of_player points other <ℤ of_player points one → bonus_of rules points other ≤ℤ bonus_of rules points one
bonus_is_no_less rules points one other falls h =
    let a = ahead_of rules.ties points one in let s = sharers_of rules.ties points one in
    let b = ahead_of rules.ties points other in let t = sharers_of rules.ties points other in
    let apart = sharers_are_ahead rules.ties points one other h in
    let some = some_sharer rules.ties points one in let others = some_sharer rules.ties points other in
    let few = at_most_four rules.ties points one in let few_others = at_most_four rules.ties points other in
    let here = among rules falls a s (earlier_of rules.ties points one) some few in
    let there = among rules falls b t (earlier_of rules.ties points other) others few_others in
    let between = falling rules falls (1 + b) (a + s) (omega arith) (omega arith) (omega arith) in
    between_them _ _ _ _ there.1 between here.0
  where
    between_them : (x y z w : ℤ) → x ≤ℤ y → y ≤ℤ z → z ≤ℤ w → x ≤ℤ w
    between_them x y z w p q r = omega (arith, ints)

pub more_points_are_no_less : MorePointsAreNoLess
more_points_are_no_less rules points one other falls h =
    more (of_player points one) (of_player points other) _ _ rules.returns h (bonus_is_no_less rules points one other falls h)
  where
    more : (x y a b : ℤ) (returns : ℕ) → y <ℤ x → b ≤ℤ a → ((y -ℤ pos returns) +ℤ b) <ℤ ((x -ℤ pos returns) +ℤ a)
    more x y a b returns h k = omega (arith, ints)
