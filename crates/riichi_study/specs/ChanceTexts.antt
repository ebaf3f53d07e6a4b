-- How likely a hand is to be ready, and to win, by so many draws.
use Rattle.std.specs.Prelude.{ℕ, ℤ, List, [], ◌++◌, Bool, ◌&&◌, nat_le, codes, decimal, if◌then◌else◌}
use Rattle.std.specs.Fmt.{signed_decimal}
use Rattle.std.specs.List.{flat_map, list_any}
use Rattle.riichi_hand.specs.Hand.{is_thirteen}
use Rattle.riichi_hand.specs.HandParts.{ShapeParts}
use Rattle.riichi_text.specs.Tiles.{kind_text}
use Rattle.riichi_shape.specs.EveryWinning.{distance_of, shanten_of}
use Rattle.riichi_chances.specs.Draws.{unseen_of}
use Rattle.riichi_chances.specs.Odds.{best_odds, is_surely_over, odds_of}
use Rattle.riichi_chances.specs.declared.odds.DiscardOdds.{DiscardOdds}
use Rattle.riichi_chances.specs.declared.odds.Odds.{Odds}
use Rattle.riichi_chances_text.specs.OddsTexts.{odds_text, odds_words}

-- chances are counted to three-shanten, where there are as many tiles as draws
abbrev pub are_counted : ShapeParts → ℕ → Bool
are_counted parts turns = nat_le (distance_of parts.tiles parts.melds) 4 && nat_le turns (unseen_of parts)

-- ---- as a line

-- the shanten, the turns that are to come, and how many tiles are unseen
abbrev pub front_text : ℤ → ℕ → ℕ → List ℕ
front_text shanten turns unseen = codes "shanten " ++ signed_decimal shanten ++ codes " turns " ++ decimal turns ++ codes " unseen " ++ decimal unseen

abbrev pub chances_front : ShapeParts → ℕ → List ℕ
chances_front parts turns = front_text (shanten_of parts.tiles parts.melds) turns (unseen_of parts)

abbrev pub after_text : DiscardOdds → List ℕ
after_text one = codes " discard " ++ kind_text one.kind ++ odds_text one.odds

abbrev pub counted_text : ShapeParts → ℕ → List ℕ
counted_text parts turns = if is_thirteen parts.tiles parts.melds then odds_text (odds_of parts turns) else flat_map after_text (best_odds parts turns)

abbrev pub chances_text : ShapeParts → ℕ → List ℕ
chances_text parts turns = chances_front parts turns ++ (if are_counted parts turns then counted_text parts turns else codes " chances none")

-- ---- in words

abbrev pub hand_odds_reason : Odds → List ℕ
hand_odds_reason odds = codes "\n  " ++ odds_words odds

-- after which other discards no play wins as often
abbrev pub is_beaten : Odds → DiscardOdds → Bool
is_beaten odds other = is_surely_over odds other.odds

abbrev pub beaten_word : Odds → DiscardOdds → List ℕ
beaten_word odds other = if is_beaten odds other then codes " " ++ kind_text other.kind else []

abbrev pub beaten_words : Odds → List DiscardOdds → List ℕ
beaten_words odds others = if list_any (is_beaten odds) others then codes ", surely oftener than after" ++ flat_map (beaten_word odds) others else []

unfoldable pub after_reason : List DiscardOdds → DiscardOdds → List ℕ
after_reason others one = codes "\n  after " ++ kind_text one.kind ++ codes ": " ++ odds_words one.odds ++ beaten_words one.odds others

abbrev pub counted_reasons : ShapeParts → ℕ → List ℕ
counted_reasons parts turns =
    if is_thirteen parts.tiles parts.melds then hand_odds_reason (odds_of parts turns) else flat_map (after_reason (best_odds parts turns)) (best_odds parts turns)

abbrev pub uncounted_reason : List ℕ
uncounted_reason = codes "\n  chances are counted to three-shanten, and for no more draws than there are tiles"

abbrev pub chances_reasons : ShapeParts → ℕ → List ℕ
chances_reasons parts turns = if are_counted parts turns then counted_reasons parts turns else uncounted_reason
