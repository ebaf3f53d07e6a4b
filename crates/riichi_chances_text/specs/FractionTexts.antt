-- The text of a part of a whole.
use Rattle.std.specs.Prelude.{ℕ, ◌+◌, ◌/◌, ◌%◌, List, [], ◌∷◌, ◌++◌, codes, decimal}
use Rattle.riichi_chances.specs.Fractions.{in_lowest_terms, nearest}
use Rattle.riichi_chances.specs.declared.fraction.Fraction.{Fraction}

-- the last digit of a number
abbrev pub last_digit : ℕ → ℕ
last_digit number = 48 + number % 10

-- four digits behind a point
abbrev pub four_digits : ℕ → List ℕ
four_digits number = last_digit (number / 1000) ∷ last_digit (number / 100) ∷ last_digit (number / 10) ∷ last_digit number ∷ []

abbrev pub behind_point : ℕ → List ℕ
behind_point number = codes "." ++ four_digits number

-- so many ten thousandths
abbrev pub ten_thousandths_text : ℕ → List ℕ
ten_thousandths_text number = decimal (number / 10000) ++ behind_point number

-- to the nearest of these
abbrev pub decimal_text : Fraction → List ℕ
decimal_text given = ten_thousandths_text (nearest given)

abbrev pub divided_text : Fraction → List ℕ
divided_text given = decimal given.part ++ codes "/" ++ decimal given.whole

-- in lowest terms, and to four digits
abbrev pub fraction_text : Fraction → List ℕ
fraction_text given = divided_text (in_lowest_terms given) ++ codes " " ++ decimal_text given
