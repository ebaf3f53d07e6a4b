-- The number of a ticket, as a word.
use Rattle.std.specs.Prelude.{ℕ, ◌+◌, ◌-◌, ◌*◌, List, [], ◌∷◌, length, Bool, ◌&&◌, Option, None, Some, if◌then◌else◌}
use Rattle.std.specs.List.{list_all}
use Rattle.riichi_tiles.specs.Notation.{is_digit}
use Rattle.desk_script.specs.Words.{is_within}

-- one to seven decimal digits
abbrev pub is_seq : List ℕ → Bool
is_seq word = is_within 1 7 (length word) && list_all is_digit word

-- what the digits spell behind a number
abbrev pub value_of_digits : ℕ → List ℕ → ℕ
value_of_digits number [] = number
value_of_digits number (digit ∷ digits) = value_of_digits (number * 10 + (digit - 48)) digits

abbrev pub seq_of : List ℕ → Option ℕ
seq_of word = if is_seq word then Some (value_of_digits 0 word) else None
