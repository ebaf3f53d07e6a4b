-- Rules that are not refused have bonuses that fall.
use Rattle.std.proofs.Common.{◌≡◌, ℕ, ◌*◌, ◌%◌, ◌/◌, ◌≤◌, ◌&&◌, ◌||◌, Bool, true, false, not, ◌==◌, ℤ, pos, negsuc, ◌+ℤ◌, ◌-ℤ◌, if◌then◌else◌, refl, arith}
use Rattle.std.specs.Prelude.{◌≤ℤ◌, Option, Some, None, unsigned_abs, int_lt, nat_le, nat_lt}
use Rattle.std.specs.Ordering.{int_eq}
use Rattle.std.proofs.lemmas.Int.{ints}
use Rattle.std.proofs.lemmas.Bool.{and_parts}
use Rattle.std.proofs.lemmas.Bool.Decides.{nat_tests}
use Rattle.riichi_table.specs.RulesFaults.{has_points, is_points, has_steps, is_step, rises, uma_fault, uma_sum, points_or_0, cost_points}
use Rattle.riichi_table.specs.declared.rules.ByPlace.{ByPlace}
use Rattle.riichi_table.specs.declared.rules.TableRules.{TableRules}
use Rattle.riichi_places.specs.Bonuses.{place_bonus}
use Rattle.riichi_places.specs.Laws.{IsHundreds, AcceptedBonusesFall}

-- no test found a fault
no_fault : {F : Type 0} (a b c : Bool) (x y z : F) (rest : Option F) → (if not a then Some x else if b then Some y else if c then Some z else rest) ≡ None
    → (a ≡ true) × (c ≡ false) × (rest ≡ None)
no_fault true true c x y z rest e = absurd (cc)
no_fault true false true x y z rest e = absurd (cc)
no_fault true false false x y z rest e = (refl, refl, e)
no_fault false b c x y z rest e = absurd (cc)

at_least : (a b : ℕ) → nat_lt b a ≡ false → a ≤ b
at_least a b e = grind (arith, nat_tests)

no_fault_but_one : {F : Type 0} (a b c : Bool) (x y z : F) → (if not a then Some x else if b then Some y else if c then Some z else None) ≡ None → (a ≡ true) × (b ≡ false)
no_fault_but_one true true c x y z e = absurd (cc)
no_fault_but_one true false c x y z e = (refl, refl)
no_fault_but_one false b c x y z e = absurd (cc)

none_of : (a b c : Bool) → (a || b || c) ≡ false → (a ≡ false) × (b ≡ false) × (c ≡ false)
none_of false false false e = (refl, refl, refl)
none_of a b c e = absurd (cc)

no_more : (x y : ℤ) → int_lt x y ≡ false → y ≤ℤ x
no_more x y e = omega (arith, ints)

uma_in_order : (uma : ByPlace ℤ) → rises uma ≡ false → (uma.second ≤ℤ uma.first) × (uma.third ≤ℤ uma.second) × (uma.fourth ≤ℤ uma.third)
unfolding rises
uma_in_order uma e =
    let each = none_of (int_lt uma.first uma.second) (int_lt uma.second uma.third) (int_lt uma.third uma.fourth) e in
    (no_more uma.first uma.second each.0, no_more uma.second uma.third each.1, no_more uma.third uma.fourth each.2)

is_hundreds : (z : ℤ) → is_step z ≡ true → IsHundreds z
unfolding is_step
is_hundreds (pos n) e = let h = and_parts (nat_le (unsigned_abs (pos n)) 1000000) (unsigned_abs (pos n) % 1000 == 0) e in (pos (n / 100), grind (arith, ints, nat_tests))
is_hundreds (negsuc n) e = let h = and_parts (nat_le (unsigned_abs (negsuc n)) 1000000) (unsigned_abs (negsuc n) % 1000 == 0) e in (negsuc (n / 100), grind (arith, ints, nat_tests))

whole : (n : ℕ) → is_points n ≡ true → 100 * (n / 100) ≡ n
unfolding is_points
whole n e = let h = and_parts (nat_le n 1000000) (n % 100 == 0) e in grind (arith, nat_tests)

steps : (uma : ByPlace ℤ) → has_steps uma ≡ true → IsHundreds uma.first × IsHundreds uma.second × IsHundreds uma.third × IsHundreds uma.fourth
unfolding has_steps
steps uma e =
    let abc = and_parts (is_step uma.first && is_step uma.second && is_step uma.third) (is_step uma.fourth) e in
    let ab = and_parts (is_step uma.first && is_step uma.second) (is_step uma.third) abc.0 in
    let a = and_parts (is_step uma.first) (is_step uma.second) ab.0 in
    (is_hundreds uma.first a.0, is_hundreds uma.second a.1, is_hundreds uma.third ab.1, is_hundreds uma.fourth abc.1)

whole_points : (rules : TableRules) → has_points rules ≡ true → (100 * (rules.start / 100) ≡ rules.start) × (100 * (rules.returns / 100) ≡ rules.returns)
unfolding has_points
whole_points rules e =
    let abc = and_parts (is_points rules.start && is_points rules.returns && is_points (points_or_0 rules.extra)) (is_points (cost_points rules.chombo)) e in
    let ab = and_parts (is_points rules.start && is_points rules.returns) (is_points (points_or_0 rules.extra)) abc.0 in
    let a = and_parts (is_points rules.start) (is_points rules.returns) ab.0 in
    (whole rules.start a.0, whole rules.returns a.1)

uma_parts : (uma : ByPlace ℤ) → uma_fault uma ≡ None → (has_steps uma ≡ true) × (rises uma ≡ false)
unfolding uma_fault
uma_parts uma e = no_fault_but_one (has_steps uma) (rises uma) (not (int_eq (uma_sum uma) (pos 0))) _ _ _ e

-- of four, that of a place
chosen : (P : ℤ → Type 0) (a b c : Bool) (w x y z : ℤ) → P w → P x → P y → P z → P (if a then w else if b then x else if c then y else z)
chosen P true b c w x y z p q r s = p
chosen P false true c w x y z p q r s = q
chosen P false false true w x y z p q r s = r
chosen P false false false w x y z p q r s = s

first_is_hundreds : (uma : ℤ) (start returns : ℕ) → IsHundreds uma → 100 * (start / 100) ≡ start → 100 * (returns / 100) ≡ returns
    → IsHundreds (uma +ℤ (pos (4 * returns) -ℤ pos (4 * start)))
first_is_hundreds uma start returns h s r = (h.0 +ℤ (pos (4 * (returns / 100)) -ℤ pos (4 * (start / 100))), omega (arith, ints, h.1))

pub accepted_bonuses_fall : AcceptedBonusesFall
unfolding place_bonus
accepted_bonuses_fall rules none =
    let uma = rules.uma in
    let parts = no_fault (has_points rules) (nat_lt rules.start 100) (nat_lt rules.returns rules.start) _ _ _ (uma_fault uma) none in
    let least = at_least rules.start rules.returns parts.1 in
    let in_uma = uma_parts uma parts.2 in
    let order = uma_in_order uma in_uma.1 in
    let whole = whole_points rules parts.0 in
    let each = steps uma in_uma.0 in
    let first = first_is_hundreds uma.first rules.start rules.returns each.0 whole.0 whole.1 in
    record {
      first = omega (arith, ints, order.0);
      second = order.1;
      third = order.2;
      hundreds = λ place. chosen IsHundreds (place == 1) (place == 2) (place == 3) _ _ _ _ first each.1 each.2 each.3;
    }
