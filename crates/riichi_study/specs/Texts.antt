-- The text of an answer: one line, without its end.
use Rattle.std.specs.Prelude.{◌≡◌, ℕ, ℤ, pos, ◌-ℤ◌, List, [], ◌++◌, Option, None, Some, codes, decimal, if◌then◌else◌, is_some, Bool}
use Rattle.std.specs.Fmt.{signed_decimal}
use Rattle.std.specs.List.{flat_map, list_any}
use Rattle.riichi_text.specs.Tiles.{meld_text}
use Rattle.riichi_tiles.specs.declared.meld.Meld.TheVariants.{Kan}
use Rattle.riichi_shape.specs.Text.{discard_text, list_text, shape_text}
use Rattle.riichi_shape.specs.declared.accepts.Accepts.TheVariants.{Fourteen}
use Rattle.riichi_shape.specs.declared.shape_answer.ShapeAnswer.{ShapeAnswer}
use Rattle.riichi_deeper.specs.declared.gains.Call.{Call}
use Rattle.riichi_deeper.specs.declared.outlook.Outlook.{Outlook}
use Rattle.riichi_study.specs.declared.prospect.Prospect.{Prospect}
use Rattle.riichi_study.specs.declared.study.Study.{Study}
use Rattle.riichi_study.specs.ChanceTexts.{chances_text}
use Rattle.riichi_study.specs.Findings.{Finding, Hand, Discards, Calls, Safety, Chances, Worth, finding_of}
use Rattle.riichi_study.specs.SafeTexts.{safe_text}
use Rattle.riichi_study.specs.WorthTexts.{worth_answer}

-- ---- a shape

abbrev pub shanten_front : ℤ → List ℕ
shanten_front shanten = codes "shanten " ++ signed_decimal shanten

-- what stands beyond the next step; of a ready hand nothing
abbrev pub figures_text : Option Outlook → List ℕ
figures_text None = []
figures_text (Some outlook) = codes " second " ++ decimal outlook.second ++ codes " good " ++ decimal outlook.good

-- what thirteen tiles accept, and behind it the figures
abbrev pub thirteen_text : List (ℕ × ℕ) → Option Outlook → List ℕ
thirteen_text accepted outlook = list_text accepted ++ figures_text outlook

-- a discard with what the hand then accepts, and the figures of what is then left
abbrev pub prospect_text : Prospect → List ℕ
prospect_text prospect = discard_text prospect.discard ++ figures_text prospect.outlook

-- ---- calls

abbrev pub is_called : Option Call → Bool
is_called call = is_some call

-- that there is no call
abbrev pub none_text : List (Option Call) → List ℕ
none_text calls = if list_any is_called calls then [] else codes " none"

-- one less than what a hand lacks
abbrev pub IsShanten : ℤ → Type 0
IsShanten shanten = (lack : ℕ) × (shanten ≡ pos lack -ℤ pos 1)

-- Behind the meld stands the shape's answer after the call: it is one nearer, since no call lowers the distance by more.
abbrev pub call_text : ℤ → Option Call → List ℕ
call_text shanten None = []
call_text shanten (Some call) =
    codes " " ++ meld_text call.meld ++ codes " " ++ shape_text (record { shanten = shanten -ℤ pos 1; accepts = Fourteen call.discards })

-- behind the meld of a kong stands what the hand then accepts, before it draws
abbrev pub kong_text : ℕ → Option ShapeAnswer → List ℕ
kong_text tile None = []
kong_text tile (Some answer) = codes " " ++ meld_text (Kan tile) ++ codes " " ++ shape_text answer

-- ---- an answer

abbrev pub finding_text : Finding → List ℕ
finding_text (Hand shanten accepted outlook) = shanten_front shanten ++ thirteen_text accepted outlook
finding_text (Discards shanten order prospects) = shanten_front shanten ++ flat_map prospect_text prospects
finding_text (Calls shanten tile calls kong) = codes "calls" ++ none_text calls ++ flat_map (call_text shanten) calls ++ kong_text tile kong
finding_text (Safety parts) = safe_text parts
finding_text (Chances parts turns) = chances_text parts turns
finding_text (Worth parts turns) = worth_answer parts turns

abbrev pub study_text : Study → List ℕ
study_text study = finding_text (finding_of study)
