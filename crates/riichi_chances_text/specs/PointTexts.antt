-- The texts of so many whole points and a part of one more.
use Rattle.std.specs.Prelude.{ℕ, ◌+◌, ◌/◌, List, ◌++◌, codes, decimal}
use Rattle.riichi_chances.specs.Fractions.{in_lowest_terms, nearest}
use Rattle.riichi_chances.specs.declared.fraction.Fraction.{Fraction}
use Rattle.riichi_chances_text.specs.FractionTexts.{behind_point, divided_text}

-- to the nearest ten thousandth, which may be that of one whole point more
abbrev pub points_decimal : ℕ → Fraction → List ℕ
points_decimal points rest = decimal (points + nearest rest / 10000) ++ behind_point (nearest rest)

-- the part in lowest terms, and all of it to four digits: `520+40/123 520.3252`
abbrev pub points_text : ℕ → Fraction → List ℕ
points_text points rest = decimal points ++ codes "+" ++ divided_text (in_lowest_terms rest) ++ codes " " ++ points_decimal points rest

-- the same as members of an object: the part by two numbers that may be too great for programs
abbrev pub points_members : ℕ → Fraction → List ℕ
points_members points rest =
    codes "\"points\":" ++ decimal points ++ codes ",\"part\":\"" ++ decimal (in_lowest_terms rest).part ++ codes "\",\"whole\":\"" ++ decimal (in_lowest_terms rest).whole ++ codes "\",\"worth\":" ++ points_decimal points rest
