-- Base points by han and fu.
use Rattle.std.specs.Prelude.{ℕ, ◌+◌, ◌*◌, ◌^◌, Bool, ◌&&◌, ◌||◌, ◌==◌, nat_le, min, if◌then◌else◌}
use Rattle.riichi_hand.specs.Rules.{Rules, is_on}
use Rattle.riichi_hand.specs.declared.switch.Switch.TheVariants.{CountedYakuman, Raise}

-- four han 30 fu and three han 60 fu are raised to 2000, where the rules say so
abbrev pub is_raised : Rules → ℕ → ℕ → Bool
is_raised rules han fu = is_on Raise rules && (((han == 4) && (fu == 30)) || ((han == 3) && (fu == 60)))

-- fu times two to the power of two more than the han
abbrev pub product_of : ℕ → ℕ → ℕ
product_of han fu = fu * 2 ^ (han + 2)

-- 1 to 4 han: the lesser of 2000 and the product
abbrev pub low_base : Rules → ℕ → ℕ → ℕ
low_base rules han fu = if is_raised rules han fu then 2000 else min 2000 (product_of han fu)

-- 13 han and more are worth a yakuman, or no more than 12
abbrev pub most_base : Rules → ℕ
most_base rules = if is_on CountedYakuman rules then 8000 else 6000

-- 5: 2000; 6, 7: 3000; 8 to 10: 4000; 11, 12: 6000
abbrev pub base_of : Rules → ℕ → ℕ → ℕ
base_of rules han fu =
    if nat_le han 4 then low_base rules han fu
    else (if nat_le han 5 then 2000
    else (if nat_le han 7 then 3000
    else (if nat_le han 10 then 4000
    else (if nat_le han 12 then 6000
    else most_base rules))))
