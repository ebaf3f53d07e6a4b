-- What a hand is worth by so many draws.
use Rattle.std.specs.Prelude.{ℕ, ◌<◌, ◌≤◌, ◌==◌, ◌&&◌, ◌||◌, List, [], ◌++◌, Bool, codes, nat_lt, if◌then◌else◌}
use Rattle.std.specs.List.{flat_map, list_any}
use Rattle.riichi_hand.specs.Hand.{is_thirteen}
use Rattle.riichi_text.specs.Tiles.{kind_text}
use Rattle.riichi_chances.specs.declared.fraction.Fraction.{Fraction}
use Rattle.riichi_chances_text.specs.PointTexts.{points_decimal, points_text}
use Rattle.riichi_worth.specs.Worths.{best_worths, worth_of}
use Rattle.riichi_worth.specs.declared.discards.DiscardWorth.{DiscardWorth}
use Rattle.riichi_worth.specs.declared.worth.Worth.{Worth}
use Rattle.riichi_study.specs.ChanceTexts.{are_counted, chances_front, uncounted_reason}
use Rattle.riichi_study.specs.WorthParts.{WorthParts}

-- the draws that are left over are some of all draws
pub record IsRest (rest : Fraction) : Type 0 where
  pub part : rest.part ≤ rest.whole
  pub some : 0 < rest.whole

-- ---- as a line

abbrev pub worth_text : Worth → List ℕ
worth_text worth = codes " worth " ++ points_text worth.points worth.rest

abbrev pub worth_after_text : DiscardWorth → List ℕ
worth_after_text one = codes " discard " ++ kind_text one.kind ++ worth_text one.worth

abbrev pub counted_worth_text : WorthParts → ℕ → List ℕ
counted_worth_text parts turns =
    if is_thirteen parts.hand.tiles parts.hand.melds then worth_text (worth_of parts.stakes parts.hand turns) else flat_map worth_after_text (best_worths parts.stakes parts.hand turns)

-- counted where chances are
abbrev pub worth_answer : WorthParts → ℕ → List ℕ
worth_answer parts turns = chances_front parts.hand turns ++ (if are_counted parts.hand turns then counted_worth_text parts turns else codes " worth none")

-- ---- in words

abbrev pub worth_words : Worth → List ℕ
worth_words worth = codes "worth " ++ points_decimal worth.points worth.rest ++ codes " points by these draws, on the average"

abbrev pub hand_worth_reason : Worth → List ℕ
hand_worth_reason worth = codes "\n  " ++ worth_words worth

-- another discard is worth more: both are of as many draws
abbrev pub is_exceeded : Worth → DiscardWorth → Bool
is_exceeded worth other = nat_lt worth.points other.worth.points || ((worth.points == other.worth.points) && nat_lt worth.rest.part other.worth.rest.part)

-- no other is worth more
abbrev pub most_words : Worth → List DiscardWorth → List ℕ
most_words worth others = if list_any (is_exceeded worth) others then [] else codes ", the most"

unfoldable pub worth_reason : List DiscardWorth → DiscardWorth → List ℕ
worth_reason others one = codes "\n  after " ++ kind_text one.kind ++ codes ": " ++ worth_words one.worth ++ most_words one.worth others

abbrev pub counted_worth_reasons : WorthParts → ℕ → List ℕ
counted_worth_reasons parts turns =
    if is_thirteen parts.hand.tiles parts.hand.melds then hand_worth_reason (worth_of parts.stakes parts.hand turns)
    else flat_map (worth_reason (best_worths parts.stakes parts.hand turns)) (best_worths parts.stakes parts.hand turns)

abbrev pub worth_reasons : WorthParts → ℕ → List ℕ
worth_reasons parts turns = if are_counted parts.hand turns then counted_worth_reasons parts turns else uncounted_reason
