-- The bits of the rules that are on.
use Rattle.std.proofs.Common.{◌≡◌, ◌≢◌, ◌∙◌, ℕ, ◌+◌, ◌*◌, ◌%◌, ◌^◌, ◌<◌, Bool, true, false, cond, get_or, map, nat_eq, refl, sym, ap, subst, arith}
use Rattle.std.proofs.lemmas.Bool.Decides.{nat_tests}
use Rattle.std.proofs.lemmas.Nat.{one_shl, xor_lt, pow_below}
use Rattle.std.proofs.lemmas.List.{get_or-map}
use Rattle.std.proofs.lemmas.List.FromFn.{get_or-range_with_len}
use Rattle.std.proofs.lemmas.Nat.Bits.{bit_at-lt, bit_at-pow_other, bit_at-pow_same, bit_at_xor}
use Rattle.std.specs.Bool.{beq}
use Rattle.std.specs.Int.{bit_at}
use Rattle.std.specs.Int.RustNames.{bit_xor}
use Rattle.std.specs.Prelude.{◌==◌, not}
use Rattle.std.specs.List.{range_with_len}
use Rattle.riichi_tiles.specs.HeldKinds.{is_held}
use Rattle.riichi_tiles.proofs.KindSets.{same_members}
use Rattle.riichi_hand.specs.declared.switch.Switch.{Switch}
use Rattle.riichi_hand.specs.declared.switch.Switch.TheVariants as switch
use Rattle.riichi_hand.specs.declared.switch.TheConstants.Switch.{COUNT}
use Rattle.riichi_hand.specs.Rules.{Rules, every_switch, switch_number, is_on, with_switch}

pub switch_below : (which : Switch) → switch_number which < COUNT
switch_below switch.RedFives = omega arith
switch_below _ = omega arith

at_number : (which : Switch) → get_or every_switch (switch_number which) switch.RedFives ≡ which
at_number switch.RedFives = refl
at_number _ = refl

pub same_switch : (which other : Switch) → switch_number which ≡ switch_number other → which ≡ other
same_switch which other same = sym (at_number which) ∙ ap (λ n. get_or every_switch n switch.RedFives) same ∙ at_number other

apart : (which other : Switch) → other ≢ which → switch_number other ≢ switch_number which
apart which other differ same = differ (same_switch other which same)

-- ---- a rule that is turned

turned_bit : (b : ℕ) → b < 2 → nat_eq ((b + 1) % 2) 1 ≡ not (nat_eq b 1)
turned_bit b low = grind (arith, nat_tests)

kept_bit : (b : ℕ) → b < 2 → nat_eq ((b + 0) % 2) 1 ≡ nat_eq b 1
kept_bit b low = grind (arith, nat_tests)

turned : (which : Switch) (rules : Rules) → is_on which (bit_xor rules (2 ^ switch_number which)) ≡ not (is_on which rules)
unfolding is_on
turned which rules =
    let n = switch_number which in
    ap (λ b. nat_eq b 1) (bit_at_xor rules (2 ^ n) n ∙ ap (λ b. (bit_at rules n + b) % 2) (bit_at-pow_same n))
    ∙ turned_bit (bit_at rules n) (bit_at-lt rules n)

kept : (which other : Switch) (rules : Rules) → other ≢ which → is_on other (bit_xor rules (2 ^ switch_number which)) ≡ is_on other rules
unfolding is_on
kept which other rules differ =
    let n = switch_number which in
    let m = switch_number other in
    ap (λ b. nat_eq b 1) (bit_at_xor rules (2 ^ n) m ∙ ap (λ b. (bit_at rules m + b) % 2) (bit_at-pow_other n m (apart which other differ)))
    ∙ kept_bit (bit_at rules m) (bit_at-lt rules m)

-- ---- the same rules with one of them on or off

if_this : (is on : Bool) (which : Switch) (rules other : Rules) → is_on which rules ≡ is → is_on which other ≡ not is → is_on which (cond (beq is on) rules other) ≡ on
if_this true true which rules other same turns = same
if_this true false which rules other same turns = turns
if_this false true which rules other same turns = turns
if_this false false which rules other same turns = same

pub with_this : (which : Switch) (on : Bool) (rules : Rules) → is_on which (with_switch which on rules) ≡ on
unfolding with_switch
with_this which on rules = if_this (is_on which rules) on which rules (bit_xor rules (2 ^ switch_number which)) refl (turned which rules)

if_other : (same : Bool) (which : Switch) (rules other : Rules) → is_on which other ≡ is_on which rules → is_on which (cond same rules other) ≡ is_on which rules
if_other true which rules other e = refl
if_other false which rules other e = e

pub with_other : (which other : Switch) (on : Bool) (rules : Rules) → other ≢ which → is_on other (with_switch which on rules) ≡ is_on other rules
unfolding with_switch
with_other which other on rules differ = if_other (beq (is_on which rules) on) other rules (bit_xor rules (2 ^ switch_number which)) (kept which other rules differ)

-- in the code: nothing to do, or the bit is turned
pub kept_is : (which : Switch) (on : Bool) (rules : Rules) → beq (is_on which rules) on ≡ true → rules ≡ with_switch which on rules
unfolding with_switch
kept_is which on rules is = sym (ap (λ b. cond b rules (bit_xor rules (2 ^ switch_number which))) is)

pub turned_is : (which : Switch) (on : Bool) (rules bits n : ℕ) → beq (is_on which rules) on ≡ false → bits ≡ rules → n ≡ switch_number which → bit_xor bits (1 * 2 ^ n % 2 ^ 16) ≡ with_switch which on rules
unfolding with_switch
turned_is which on rules bits n is same at =
    let low = switch_below which in
    ap (bit_xor bits) (one_shl n 16 (omega (arith, low, at))) ∙ ap (λ b. bit_xor b (2 ^ n)) same ∙ ap (λ m. bit_xor rules (2 ^ m)) at
    ∙ sym (ap (λ b. cond b rules (bit_xor rules (2 ^ switch_number which))) is)

pub with_switch_few : (which : Switch) (on : Bool) (rules : Rules) → rules < 2 ^ COUNT → with_switch which on rules < 2 ^ COUNT
unfolding with_switch
with_switch_few which on rules few = by (beq (is_on which rules) on)
  where
    by : (same : Bool) → cond same rules (bit_xor rules (2 ^ switch_number which)) < 2 ^ COUNT
    by true = few
    by false = xor_lt COUNT rules (2 ^ switch_number which) few (pow_below (switch_number which) COUNT (switch_below which))

-- ---- the same rules are those by which each is on or off alike

number_at : (place : ℕ) → place < COUNT → switch_number (get_or every_switch place switch.RedFives) ≡ place
number_at place within =
    let numbers : map (λ which. switch_number which) every_switch ≡ range_with_len 0 COUNT = refl in
    sym (get_or-map (λ which. switch_number which) every_switch place switch.RedFives 0 within) ∙ ap (λ x. get_or x place 0) numbers ∙ get_or-range_with_len 0 COUNT place 0 within ∙ omega arith

pub same_rules : (a b : Rules) → a < 2 ^ COUNT → b < 2 ^ COUNT → ((which : Switch) → is_on which a ≡ is_on which b) → a ≡ b
unfolding is_on is_held
same_rules a b few few_others each = same_members COUNT a b few few_others (λ n within.
    let which = get_or every_switch n switch.RedFives in
    subst (λ m. (bit_at a m == 1) ≡ (bit_at b m == 1)) (number_at n within) (each which))
