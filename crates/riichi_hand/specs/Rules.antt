-- The rules that a table may choose, one by one, and those of the two profiles that have a number.
use Rattle.std.specs.Prelude.{ℕ, ◌^◌, Bool, ◌==◌, List, [], ◌∷◌, codes, if◌then◌else◌}
use Rattle.std.specs.Bool.{beq}
use Rattle.std.specs.List.{sum_by}
use Rattle.std.specs.Int.{bit_at}
use Rattle.std.specs.Int.RustNames.{bit_xor}
use Rattle.riichi_hand.specs.declared.switch.Switch.{Switch}
use Rattle.riichi_hand.specs.declared.switch.Switch.TheVariants as switch

-- which of them are on: the number whose bit n says so of rule n of the table
abbrev pub Rules : Type 0
Rules = ℕ

-- ---- the rules by their places in the table and by their words

abbrev pub switch_number : Switch → ℕ
switch_number switch.RedFives = 0
switch_number switch.Raise = 1
switch_number switch.AddYakuman = 2
switch_number switch.DoubleYakuman = 3
switch_number switch.CountedYakuman = 4
switch_number switch.DoubleWindPair = 5
switch_number switch.KongDrawFu = 6
switch_number switch.OpenSimples = 7
switch_number switch.OpenPinfuFu = 8
switch_number switch.Ippatsu = 9
switch_number switch.Ura = 10
switch_number switch.BlessingOfMan = 11

abbrev pub switch_word : Switch → List ℕ
switch_word switch.RedFives = codes "red-fives"
switch_word switch.Raise = codes "raise"
switch_word switch.AddYakuman = codes "add-yakuman"
switch_word switch.DoubleYakuman = codes "double-yakuman"
switch_word switch.CountedYakuman = codes "counted-yakuman"
switch_word switch.DoubleWindPair = codes "double-wind-pair"
switch_word switch.KongDrawFu = codes "kong-draw-fu"
switch_word switch.OpenSimples = codes "open-simples"
switch_word switch.OpenPinfuFu = codes "open-pinfu-fu"
switch_word switch.Ippatsu = codes "ippatsu"
switch_word switch.Ura = codes "ura"
switch_word switch.BlessingOfMan = codes "blessing-of-man"

-- in the order of the table
abbrev pub every_switch : List Switch
every_switch =
    switch.RedFives ∷ switch.Raise ∷ switch.AddYakuman ∷ switch.DoubleYakuman ∷ switch.CountedYakuman ∷ switch.DoubleWindPair
    ∷ switch.KongDrawFu ∷ switch.OpenSimples ∷ switch.OpenPinfuFu ∷ switch.Ippatsu ∷ switch.Ura
    ∷ switch.BlessingOfMan ∷ []

-- ---- sets of them

unfoldable pub is_on : Switch → Rules → Bool
is_on which rules = bit_at rules (switch_number which) == 1

-- just these are on, each named once
abbrev pub rules_with : List Switch → Rules
rules_with switches = sum_by (λ which. 2 ^ switch_number which) switches

-- the same rules with one of them on or off: it is turned where it isn't so
unfoldable pub with_switch : Switch → Bool → Rules → Rules
with_switch which on rules = if beq (is_on which rules) on then rules else bit_xor rules (2 ^ switch_number which)

abbrev pub first_switches : List Switch
first_switches =
    switch.CountedYakuman ∷ switch.DoubleWindPair ∷ switch.KongDrawFu ∷ switch.OpenSimples ∷ switch.OpenPinfuFu
    ∷ switch.Ippatsu ∷ switch.Ura ∷ []

abbrev pub first_profile : Rules
first_profile = rules_with first_switches

-- the first with red fives and with raised hands
abbrev pub second_profile : Rules
second_profile = rules_with (switch.RedFives ∷ switch.Raise ∷ first_switches)
