-- Chances as the members of an object.
use Rattle.std.specs.Prelude.{ℕ, ℤ, List, ◌++◌, Option, None, Some, codes, decimal, if◌then◌else◌, map}
use Rattle.std.specs.Fmt.{signed_decimal}
use Rattle.std.specs.List.{filter_map}
use Rattle.riichi_hand.specs.Hand.{is_thirteen}
use Rattle.riichi_hand.specs.HandParts.{ShapeParts}
use Rattle.riichi_text.specs.Tiles.{kind_text}
use Rattle.riichi_shape.specs.Discards.{discards_of}
use Rattle.riichi_shape.specs.EveryWinning.{shanten_of}
use Rattle.riichi_chances.specs.Draws.{unseen_of}
use Rattle.riichi_chances.specs.Graph.{discard_kinds}
use Rattle.riichi_chances.specs.Odds.{best_odds, odds_after, odds_of}
use Rattle.riichi_chances.specs.declared.odds.DiscardOdds.{DiscardOdds}
use Rattle.riichi_chances.specs.declared.odds.Odds.{Odds}
use Rattle.riichi_chances_text.specs.OddsTexts.{odds_members, by_turn_member}
use Rattle.riichi_study.specs.ChanceTexts.{are_counted, is_beaten}
use Rattle.desk_json.specs.Parts.{listed, quoted_kind}

-- the shanten, the turns that are to come, and how many tiles are unseen
abbrev pub counted_front : ℤ → ℕ → ℕ → List ℕ
counted_front shanten turns unseen =
    codes "\"shanten\":" ++ signed_decimal shanten ++ codes ",\"turns\":" ++ decimal turns ++ codes ",\"unseen\":" ++ decimal unseen ++ codes ",\"counted\":"

-- the same behind the name of the answer
abbrev pub front_json : List ℕ → ℤ → ℕ → ℕ → List ℕ
front_json name shanten turns unseen = name ++ counted_front shanten turns unseen

abbrev pub chances_name : List ℕ
chances_name = codes "\"answer\":\"chances\","

-- a discard after which no play wins as often
abbrev pub beaten_kind : Odds → DiscardOdds → Option ℕ
beaten_kind odds other = if is_beaten odds other then Some other.kind else None

-- their kinds, with commas between them
abbrev pub beaten_json : Odds → List DiscardOdds → List ℕ
beaten_json odds others = listed (map quoted_kind (filter_map (λ kind. kind) (map (beaten_kind odds) others)))

-- the chances of a hand by so many turns, and by each number of turns up to that
abbrev pub hand_json : (ℕ → Odds) → ℕ → List ℕ
hand_json odds turns = odds_members (odds turns) ++ by_turn_member odds turns

-- a discard, and what stands before those that it beats
abbrev pub discard_json : ℕ → Odds → List ℕ
discard_json kind odds = codes "{\"discard\":\"" ++ kind_text kind ++ codes "\"," ++ odds_members odds ++ codes ",\"surely_over\":["

unfoldable pub after_json : List DiscardOdds → ℕ → (ℕ → Odds) → ℕ → List ℕ
after_json others kind odds turns = discard_json kind (odds turns) ++ beaten_json (odds turns) others ++ codes "]" ++ by_turn_member odds turns ++ codes "}"

-- each of the best discards
abbrev pub best_json : ShapeParts → ℕ → List ℕ → List ℕ
best_json parts turns kinds = listed (map (λ kind. after_json (best_odds parts turns) kind (λ count. odds_after parts count kind) turns) kinds)

abbrev pub counted_json : ShapeParts → ℕ → List ℕ
counted_json parts turns =
    if is_thirteen parts.tiles parts.melds then codes "true," ++ hand_json (odds_of parts) turns
    else codes "true,\"discards\":[" ++ best_json parts turns (discard_kinds (discards_of parts.tiles parts.melds parts.seen)) ++ codes "]"

abbrev pub chances_members : ShapeParts → ℕ → List ℕ
chances_members parts turns =
    front_json chances_name (shanten_of parts.tiles parts.melds) turns (unseen_of parts) ++ (if are_counted parts turns then counted_json parts turns else codes "false") ++ codes "}"
