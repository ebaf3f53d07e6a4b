-- The numbers in a line of a game.
use Rattle.std.specs.Prelude.{ℕ, ◌+◌, ◌-◌, ◌*◌, ◌==◌, List, [], ◌∷◌, length, Bool, ◌&&◌, nat_le, ℤ, pos, neg_ℤ, Option, None, Some, option_map, if◌then◌else◌}
use Rattle.std.specs.List.{list_all}
use Rattle.riichi_tiles.specs.Notation.{is_digit}

-- what digits spell behind a number
abbrev pub number_spelled : ℕ → List ℕ → ℕ
number_spelled number [] = number
number_spelled number (digit ∷ digits) = number_spelled (number * 10 + (digit - 48)) digits

-- one to so many decimal digits
abbrev pub are_digits : ℕ → List ℕ → Bool
are_digits most word = nat_le 1 (length word) && nat_le (length word) most && list_all is_digit word

abbrev pub digits_of : ℕ → List ℕ → Option ℕ
digits_of most word = if are_digits most word then Some (number_spelled 0 word) else None

abbrev pub number_in : List ℕ → Option ℕ
number_in word = digits_of 7 word

abbrev pub at_least_one : Option ℕ → Option ℕ
at_least_one None = None
at_least_one (Some number) = if nat_le 1 number then Some number else None

-- so many thousands, a thousand of them at most
abbrev pub thousands_if_few : Option ℕ → Option ℕ
thousands_if_few None = None
thousands_if_few (Some number) = if nat_le number 1000 then Some (1000 * number) else None

-- a number below 0 has a `-` before its digits
abbrev pub thousands_of : List ℕ → Option ℤ
thousands_of [] = None
thousands_of (byte ∷ bytes) =
    if byte == 45 then option_map (λ points. neg_ℤ (pos points)) (thousands_if_few (number_in bytes))
    else option_map pos (thousands_if_few (number_in (byte ∷ bytes)))
