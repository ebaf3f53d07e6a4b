-- An answer in words: lines below it, each behind a line feed and two spaces.
use Rattle.std.specs.Prelude.{ℕ, ◌==◌, ◌+◌, List, [], ◌∷◌, ◌++◌, Option, None, Some, codes, decimal, if◌then◌else◌, Bool, true, false}
use Rattle.std.specs.List.{flat_map, list_any}
use Rattle.riichi_text.specs.Tiles.{kind_text, meld_text}
use Rattle.riichi_tiles.specs.declared.meld.Meld.TheVariants.{Kan}
use Rattle.riichi_shape.specs.Discards.{live_with}
use Rattle.riichi_shape.specs.LiveCopies.{live_in}
use Rattle.riichi_shape.specs.declared.discard.Discard.{Discard}
use Rattle.riichi_shape.specs.declared.shape_answer.ShapeAnswer.{ShapeAnswer}
use Rattle.riichi_deeper.specs.declared.gains.Call.{Call}
use Rattle.riichi_deeper.specs.declared.outlook.Outlook.{Outlook}
use Rattle.riichi_study.specs.declared.prospect.Prospect.{Prospect}
use Rattle.riichi_study.specs.declared.study.Study.{Study}
use Rattle.riichi_study.specs.Findings.{Finding, Hand, Discards, Calls, Safety, Chances, Worth, finding_of}
use Rattle.riichi_study.specs.ChanceTexts.{chances_reasons}
use Rattle.riichi_study.specs.SafeReasons.{safe_reasons}
use Rattle.riichi_study.specs.WorthTexts.{worth_reasons}
use Rattle.riichi_study.specs.Texts.{is_called}

-- ---- numbers in words

-- what fits one, or any other number
abbrev pub one_or_many : ℕ → List ℕ → List ℕ → List ℕ
one_or_many n one many = if n == 1 then one else many

abbrev pub number_words : ℕ → List ℕ → List ℕ → List ℕ
number_words n one many = decimal n ++ one_or_many n one many

-- ---- what stands beyond a step

-- the live copies of what is accepted
abbrev pub nearer_words : ℕ → List ℕ
nearer_words live = number_words live (codes " live tile brings the hand nearer; ") (codes " live tiles bring the hand nearer; ")

abbrev pub second_words : ℕ → List ℕ
second_words second =
    number_words second (codes " draw of two tiles, one after the other, brings it two nearer; ") (codes " draws of two tiles, one after the other, bring it two nearer; ")

abbrev pub good_words : ℕ → ℕ → List ℕ
good_words live good =
    decimal good ++ codes " of the " ++ decimal live ++ one_or_many good (codes " leaves five live tiles or more") (codes " leave five live tiles or more")

-- of a hand with so many live copies; a ready one is won by them
abbrev pub outlook_words : ℕ → Option Outlook → List ℕ
outlook_words live None = number_words live (codes " live tile wins") (codes " live tiles win")
outlook_words live (Some outlook) = nearer_words live ++ second_words outlook.second ++ good_words live outlook.good

abbrev pub hand_reason : ℕ → Option Outlook → List ℕ
hand_reason live outlook = codes "\n  " ++ outlook_words live outlook

abbrev pub prospect_reason : Prospect → List ℕ
prospect_reason prospect =
    codes "\n  after " ++ kind_text prospect.discard.kind ++ codes ": " ++ outlook_words (live_with prospect.discard) prospect.outlook

-- ---- calls

-- what is thrown, and the live copies that are then left
abbrev pub choice_text : Discard → List ℕ
choice_text discard = kind_text discard.kind ++ codes " (" ++ decimal (live_with discard) ++ codes " live)"

-- before a choice that is not the first stands a comma, or before the last of all `or`
abbrev pub before_choice : Bool → List Discard → List ℕ
before_choice false behind = []
before_choice true [] = codes " or "
before_choice true (next ∷ behind) = codes ", "

-- choices, of which others stand before the first or not
abbrev pub choices_from : Bool → List Discard → List ℕ
choices_from later [] = []
choices_from later (discard ∷ behind) = before_choice later behind ++ choice_text discard ++ choices_from true behind

-- the same by the place among so many
abbrev pub before_place : ℕ → ℕ → List ℕ
before_place place count = if place == 0 then [] else if place + 1 == count then codes " or " else codes ", "

abbrev pub call_reason : Option Call → List ℕ
call_reason None = []
call_reason (Some call) = codes "\n  " ++ meld_text call.meld ++ codes ": then throw " ++ choices_from false call.discards

abbrev pub kong_reason : ℕ → Option ShapeAnswer → List ℕ
kong_reason tile None = []
kong_reason tile (Some answer) = codes "\n  " ++ meld_text (Kan tile) ++ codes ": brings the hand no nearer"

abbrev pub none_reason : List (Option Call) → List ℕ
none_reason calls = if list_any is_called calls then [] else codes "\n  no call brings the hand nearer"

-- ---- an answer

abbrev pub finding_reasons : Finding → List ℕ
finding_reasons (Hand shanten accepted outlook) = hand_reason (live_in accepted) outlook
finding_reasons (Discards shanten order prospects) = flat_map prospect_reason prospects
finding_reasons (Calls shanten tile calls kong) = none_reason calls ++ flat_map call_reason calls ++ kong_reason tile kong
finding_reasons (Safety parts) = safe_reasons parts
finding_reasons (Chances parts turns) = chances_reasons parts turns
finding_reasons (Worth parts turns) = worth_reasons parts turns

abbrev pub study_reasons : Study → List ℕ
study_reasons study = finding_reasons (finding_of study)
