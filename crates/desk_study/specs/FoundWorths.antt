-- What is found of a question of a worth, and what is told of it.
use Rattle.std.specs.Prelude.{◌≡◌, ℕ, ◌≤◌, Bool, true, false, List, [], ◌++◌, All, codes, length}
use Rattle.std.specs.List.{flat_map}
use Rattle.riichi_hand.specs.Hand.{is_thirteen}
use Rattle.riichi_hand.specs.HandParts.{ShapeParts}
use Rattle.riichi_shape.specs.EveryWinning.{shanten_of}
use Rattle.riichi_chances.specs.Draws.{unseen_of}
use Rattle.riichi_worth.specs.Worths.{best_worths, worth_of}
use Rattle.riichi_worth.specs.declared.discards.DiscardWorth.{DiscardWorth}
use Rattle.riichi_worth.specs.declared.stakes.Stakes.{Stakes}
use Rattle.riichi_worth.specs.declared.worth.Worth.{Worth}
use Rattle.riichi_study.specs.ChanceTexts.{are_counted, front_text, uncounted_reason}
use Rattle.riichi_study.specs.WorthTexts.{IsRest, hand_worth_reason, worth_after_text, worth_reason, worth_text}
use Rattle.desk_study.specs.ChanceObjects.{front_json}
use Rattle.desk_study.specs.WorthObjects.{each_worth_json, worth_members, worth_name}
use Rattle.desk_study.specs.declared.form.StudiesForm.{StudiesForm}
use Rattle.desk_study.specs.declared.form.StudiesForm.TheVariants.{Answers, Explained, Objects}
use Rattle.desk_study.specs.declared.found_worths.FoundWorth.{FoundWorth}
use Rattle.desk_study.specs.declared.found_worths.FoundWorth.TheVariants.{Uncounted, Hand, Discards}
use Rattle.desk_study.specs.declared.found_worths.FoundWorths.{FoundWorths}

-- ---- it is what the question asks

-- the discards
abbrev pub each_of : FoundWorth → List DiscardWorth
each_of Uncounted = []
each_of (Hand worth) = []
each_of (Discards each) = each.items

-- after each discard the draws that are left over are some of all draws
abbrev pub HaveRests : List DiscardWorth → Type 0
HaveRests each = All (λ one. IsRest one.worth.rest) each

abbrev pub HasRests : FoundWorth → Type 0
HasRests Uncounted = Unit {0}
HasRests (Hand worth) = IsRest worth.rest
HasRests (Discards each) = HaveRests each.items

pub record IsOfHand (parts : ShapeParts) (stakes : Stakes) (turns : ℕ) (worth : Worth) : Type 0 where
  pub counted : are_counted parts turns ≡ true
  pub thirteen : is_thirteen parts.tiles parts.melds ≡ true
  pub worth_is : worth ≡ worth_of stakes parts turns

pub record IsOfDiscards (parts : ShapeParts) (stakes : Stakes) (turns : ℕ) (each : List DiscardWorth) : Type 0 where
  pub counted : are_counted parts turns ≡ true
  pub fourteen : is_thirteen parts.tiles parts.melds ≡ false
  pub worths_are : each ≡ best_worths stakes parts turns

abbrev pub IsWorthFound : ShapeParts → Stakes → ℕ → FoundWorth → Type 0
IsWorthFound parts stakes turns Uncounted = are_counted parts turns ≡ false
IsWorthFound parts stakes turns (Hand worth) = IsOfHand parts stakes turns worth
IsWorthFound parts stakes turns (Discards each) = IsOfDiscards parts stakes turns each.items

pub record IsFound (parts : ShapeParts) (stakes : Stakes) (turns : ℕ) (found : FoundWorths) : Type 0 where
  pub shanten_is : found.shanten ≡ shanten_of parts.tiles parts.melds
  pub turns_are : found.turns ≡ turns
  pub unseen_are : found.unseen ≡ unseen_of parts
  pub is_found : IsWorthFound parts stakes turns found.worth
  pub rests : HasRests found.worth
  pub few : length (each_of found.worth) ≤ 14

-- ---- what is told of it

-- what stands before the discards
abbrev pub first_told : (Worth → List ℕ) → List ℕ → FoundWorth → List ℕ
first_told hand none Uncounted = none
first_told hand none (Hand worth) = hand worth
first_told hand none (Discards each) = []

abbrev pub first_text : FoundWorth → List ℕ
first_text worth = first_told worth_text (codes " worth none") worth

abbrev pub first_reason : FoundWorth → List ℕ
first_reason worth = first_told hand_worth_reason uncounted_reason worth

abbrev pub first_json : FoundWorth → List ℕ
first_json Uncounted = codes "false"
first_json (Hand worth) = codes "true," ++ worth_members worth
first_json (Discards each) = codes "true,\"discards\":["

-- and behind them
abbrev pub end_json : FoundWorth → List ℕ
end_json Uncounted = codes "}"
end_json (Hand worth) = codes "}"
end_json (Discards each) = codes "]}"

-- one of them, in a line or in words
abbrev pub one_told : Bool → List DiscardWorth → DiscardWorth → List ℕ
one_told false others one = worth_after_text one
one_told true others one = worth_reason others one

abbrev pub found_text : FoundWorths → List ℕ
found_text found = (front_text found.shanten found.turns found.unseen ++ first_text found.worth) ++ flat_map worth_after_text (each_of found.worth)

abbrev pub found_reasons : FoundWorths → List ℕ
found_reasons found = first_reason found.worth ++ flat_map (worth_reason (each_of found.worth)) (each_of found.worth)

abbrev pub found_members : FoundWorths → List ℕ
found_members found = (front_json worth_name found.shanten found.turns found.unseen ++ first_json found.worth) ++ (each_worth_json (each_of found.worth) ++ end_json found.worth)

abbrev pub found_told : StudiesForm → FoundWorths → List ℕ
found_told Answers found = found_text found
found_told Explained found = found_text found ++ found_reasons found
found_told Objects found = found_members found
