-- The texts of the chances of one number of turns.
use Rattle.std.specs.Prelude.{ℕ, zero, suc, Bool, List, [], ◌++◌, codes, decimal, if◌then◌else◌, nat_lt}
use Rattle.riichi_chances.specs.Fractions.{in_lowest_terms}
use Rattle.riichi_chances.specs.declared.fraction.Fraction.{Fraction}
use Rattle.riichi_chances.specs.declared.odds.Odds.{Odds}
use Rattle.riichi_chances_text.specs.FractionTexts.{decimal_text, fraction_text}

abbrev pub part_of : ℕ → Odds → Fraction
part_of part odds = record { part = part; whole = odds.all }

-- ---- behind a text

abbrev pub end_text : List ℕ → Fraction → List ℕ
end_text name given = codes " " ++ name ++ codes " " ++ fraction_text given

-- what is reached, and what can be reached at most
abbrev pub odds_text : Odds → List ℕ
odds_text odds =
    end_text (codes "ready") (part_of odds.ready odds) ++ end_text (codes "most") (part_of odds.ready_at_most odds)
    ++ end_text (codes "win") (part_of odds.win odds) ++ end_text (codes "most") (part_of odds.win_at_most odds)

-- ---- as members of an object

-- a part of a whole: two numbers that may be too great for programs, and what they come to
abbrev pub fraction_json : Fraction → List ℕ
fraction_json given =
    codes "{\"part\":\"" ++ decimal (in_lowest_terms given).part ++ codes "\",\"whole\":\"" ++ decimal (in_lowest_terms given).whole ++ codes "\",\"chance\":" ++ decimal_text given ++ codes "}"

unfoldable pub member_json : List ℕ → Fraction → List ℕ
member_json name given = name ++ fraction_json given

abbrev pub odds_members : Odds → List ℕ
odds_members odds =
    member_json (codes "\"ready\":") (part_of odds.ready odds) ++ member_json (codes ",\"ready_at_most\":") (part_of odds.ready_at_most odds)
    ++ member_json (codes ",\"win\":") (part_of odds.win odds) ++ member_json (codes ",\"win_at_most\":") (part_of odds.win_at_most odds)

-- ---- by each number of turns

-- the chances to be ready and to win, to four digits
abbrev pub turn_json : Odds → List ℕ
turn_json odds = codes "{\"ready\":" ++ decimal_text (part_of odds.ready odds) ++ codes ",\"win\":" ++ decimal_text (part_of odds.win odds) ++ codes "}"

abbrev pub comma_if : Bool → List ℕ
comma_if later = if later then codes "," else []

-- those by one turn, by two, and so on up to so many, with commas between them
abbrev pub each_turn : (ℕ → Odds) → ℕ → List ℕ
each_turn odds zero = []
each_turn odds (suc turns) = each_turn odds turns ++ (comma_if (nat_lt 0 turns) ++ turn_json (odds (suc turns)))

-- as one more member of an object
abbrev pub by_turn_member : (ℕ → Odds) → ℕ → List ℕ
by_turn_member odds turns = codes ",\"by_turn\":[" ++ each_turn odds turns ++ codes "]"

-- ---- in words

-- `ready in 0.1626 of all draws, 0.1626 at most; won in 0.0110 of all draws, 0.0110 at most`
abbrev pub decimal_words : Fraction → List ℕ → List ℕ
decimal_words given behind = decimal_text given ++ behind

abbrev pub both_words : List ℕ → Fraction → Fraction → List ℕ
both_words name given most = name ++ decimal_words given (codes " of all draws, ") ++ decimal_words most (codes " at most")

abbrev pub odds_words : Odds → List ℕ
odds_words odds =
    both_words (codes "ready in ") (part_of odds.ready odds) (part_of odds.ready_at_most odds) ++ both_words (codes "; won in ") (part_of odds.win odds) (part_of odds.win_at_most odds)
