-- What is found of a question of chances, and what is told of it.
use Rattle.std.specs.Prelude.{◌≡◌, ℕ, ◌≤◌, Bool, true, false, List, [], ◌++◌, All, codes, map}
use Rattle.std.specs.List.{flat_map}
use Rattle.riichi_hand.specs.Hand.{is_thirteen}
use Rattle.riichi_hand.specs.HandParts.{ShapeParts}
use Rattle.riichi_shape.specs.EveryWinning.{shanten_of}
use Rattle.riichi_chances.specs.Draws.{unseen_of}
use Rattle.riichi_chances.specs.Odds.{ArePartsOfAll, best_odds, each_odds_at, odds_at, odds_of}
use Rattle.riichi_chances.specs.declared.chances.Chances.{Chances}
use Rattle.riichi_chances.specs.declared.discards.DiscardChances.{DiscardChances}
use Rattle.riichi_chances.specs.declared.odds.DiscardOdds.{DiscardOdds}
use Rattle.riichi_chances.specs.declared.odds.Odds.{Odds}
use Rattle.riichi_chances_text.specs.OddsTexts.{odds_text}
use Rattle.riichi_study.specs.ChanceTexts.{after_reason, after_text, are_counted, front_text, hand_odds_reason, uncounted_reason}
use Rattle.desk_study.specs.ChanceObjects.{after_json, chances_name, front_json, hand_json}
use Rattle.desk_json.specs.Parts.{listed}
use Rattle.desk_study.specs.declared.form.StudiesForm.{StudiesForm}
use Rattle.desk_study.specs.declared.form.StudiesForm.TheVariants.{Answers, Explained, Objects}
use Rattle.desk_study.specs.declared.found.FoundByTurn.{FoundByTurn}
use Rattle.desk_study.specs.declared.found.FoundByTurn.TheVariants.{Uncounted, Hand, Discards}
use Rattle.desk_study.specs.declared.found.FoundChances.{FoundChances}

-- ---- it is what the question asks

-- after each discard
abbrev pub each_in : FoundByTurn → List DiscardChances
each_in Uncounted = []
each_in (Hand chances) = []
each_in (Discards each) = each.items

-- after each discard by so many turns
abbrev pub each_of : ℕ → FoundByTurn → List DiscardOdds
each_of turns found = each_odds_at (each_in found) turns

-- by each number of turns up to one they are parts of some draws
abbrev pub AreAllParts : ℕ → Chances → Type 0
AreAllParts turns chances = (count : ℕ) → count ≤ turns → ArePartsOfAll (odds_at chances count)

-- after each discard too
abbrev pub ArePartsOfEach : ℕ → List DiscardChances → Type 0
ArePartsOfEach turns each = All (λ one. AreAllParts turns one.chances) each

abbrev pub AreParts : ℕ → FoundByTurn → Type 0
AreParts turns Uncounted = Unit {0}
AreParts turns (Hand chances) = AreAllParts turns chances
AreParts turns (Discards each) = ArePartsOfEach turns each.items

pub record AreOfHand (parts : ShapeParts) (turns : ℕ) (chances : Chances) : Type 0 where
  pub counted : are_counted parts turns ≡ true
  pub thirteen : is_thirteen parts.tiles parts.melds ≡ true
  pub odds_are : (count : ℕ) → count ≤ turns → odds_at chances count ≡ odds_of parts count

pub record AreOfDiscards (parts : ShapeParts) (turns : ℕ) (each : List DiscardChances) : Type 0 where
  pub counted : are_counted parts turns ≡ true
  pub fourteen : is_thirteen parts.tiles parts.melds ≡ false
  pub odds_are : (count : ℕ) → count ≤ turns → each_odds_at each count ≡ best_odds parts count

abbrev pub AreFound : ShapeParts → ℕ → FoundByTurn → Type 0
AreFound parts turns Uncounted = are_counted parts turns ≡ false
AreFound parts turns (Hand chances) = AreOfHand parts turns chances
AreFound parts turns (Discards each) = AreOfDiscards parts turns each.items

pub record IsFound (parts : ShapeParts) (turns : ℕ) (found : FoundChances) : Type 0 where
  pub shanten_is : found.shanten ≡ shanten_of parts.tiles parts.melds
  pub turns_are : found.turns ≡ turns
  pub unseen_are : found.unseen ≡ unseen_of parts
  pub are_found : AreFound parts turns found.by_turn
  pub are_parts : AreParts turns found.by_turn

-- ---- what is told of it

-- what stands before the discards
abbrev pub first_told : (Odds → List ℕ) → List ℕ → ℕ → FoundByTurn → List ℕ
first_told hand none turns Uncounted = none
first_told hand none turns (Hand chances) = hand (odds_at chances turns)
first_told hand none turns (Discards each) = []

abbrev pub first_text : ℕ → FoundByTurn → List ℕ
first_text turns found = first_told odds_text (codes " chances none") turns found

abbrev pub first_reason : ℕ → FoundByTurn → List ℕ
first_reason turns found = first_told hand_odds_reason uncounted_reason turns found

abbrev pub first_json : ℕ → FoundByTurn → List ℕ
first_json turns Uncounted = codes "false"
first_json turns (Hand chances) = codes "true," ++ hand_json (odds_at chances) turns
first_json turns (Discards each) = codes "true,\"discards\":["

-- and behind them
abbrev pub end_json : FoundByTurn → List ℕ
end_json Uncounted = codes "}"
end_json (Hand chances) = codes "}"
end_json (Discards each) = codes "]}"

-- one of them, in a line or in words
abbrev pub one_told : Bool → List DiscardOdds → DiscardOdds → List ℕ
one_told false others one = after_text one
one_told true others one = after_reason others one

-- or as an object
abbrev pub one_json : List DiscardOdds → ℕ → DiscardChances → List ℕ
one_json others turns one = after_json others one.kind (odds_at one.chances) turns

abbrev pub each_json : ℕ → List DiscardChances → List ℕ
each_json turns each = listed (map (one_json (each_odds_at each turns) turns) each)

abbrev pub found_text : FoundChances → List ℕ
found_text found = (front_text found.shanten found.turns found.unseen ++ first_text found.turns found.by_turn) ++ flat_map after_text (each_of found.turns found.by_turn)

abbrev pub found_reasons : FoundChances → List ℕ
found_reasons found = first_reason found.turns found.by_turn ++ flat_map (after_reason (each_of found.turns found.by_turn)) (each_of found.turns found.by_turn)

abbrev pub found_members : FoundChances → List ℕ
found_members found = (front_json chances_name found.shanten found.turns found.unseen ++ first_json found.turns found.by_turn) ++ (each_json found.turns (each_in found.by_turn) ++ end_json found.by_turn)

abbrev pub found_told : StudiesForm → FoundChances → List ℕ
found_told Answers found = found_text found
found_told Explained found = found_text found ++ found_reasons found
found_told Objects found = found_members found
