-- An answer as an object of JSON: what stands behind its first brace, and behind the number of its line where this is told.
use Rattle.std.specs.Prelude.{ℕ, List, [], ◌++◌, Option, None, Some, codes, decimal, map}
use Rattle.std.specs.Fmt.{signed_decimal}
use Rattle.std.specs.List.{filter_map}
use Rattle.riichi_text.specs.Tiles.{kind_text, meld_text}
use Rattle.riichi_tiles.specs.declared.meld.Meld.TheVariants.{Kan}
use Rattle.riichi_shape.specs.Discards.{live_with}
use Rattle.riichi_shape.specs.declared.accepts.Accepts.{Accepts}
use Rattle.riichi_shape.specs.declared.accepts.Accepts.TheVariants.{Thirteen, Fourteen}
use Rattle.riichi_shape.specs.declared.discard.Discard.{Discard}
use Rattle.riichi_shape.specs.declared.shape_answer.ShapeAnswer.{ShapeAnswer}
use Rattle.riichi_deeper.specs.declared.gains.Call.{Call}
use Rattle.riichi_deeper.specs.declared.outlook.Outlook.{Outlook}
use Rattle.riichi_study.specs.declared.order.Order.{Order}
use Rattle.riichi_study.specs.declared.prospect.Prospect.{Prospect}
use Rattle.riichi_study.specs.Findings.{Finding, Hand, Discards, Calls, Safety, Chances, Worth}
use Rattle.riichi_study.specs.Prospects.{order_word}
use Rattle.desk_json.specs.Parts.{accepted_json, listed}
use Rattle.desk_study.specs.SafeObjects.{safe_members}
use Rattle.desk_study.specs.ChanceObjects.{chances_members}
use Rattle.desk_study.specs.WorthObjects.{worth_answer_members}

-- ---- a shape

-- what stands beyond the next step; of a ready hand nothing
abbrev pub figures_json : Option Outlook → List ℕ
figures_json None = []
figures_json (Some outlook) = codes "\"second\":" ++ decimal outlook.second ++ codes ",\"good\":" ++ decimal outlook.good ++ codes ","

-- what thirteen tiles accept, behind the figures, with the brace that ends their object
abbrev pub hand_json : List (ℕ × ℕ) → Option Outlook → List ℕ
hand_json accepted outlook = figures_json outlook ++ accepted_json accepted

abbrev pub prospect_json : Prospect → List ℕ
prospect_json prospect = codes "{\"discard\":\"" ++ kind_text prospect.discard.kind ++ codes "\"," ++ hand_json prospect.discard.accepted prospect.outlook

-- the order by its word, and what stands before the discards
abbrev pub order_json : Order → List ℕ
order_json order = codes ",\"order\":\"" ++ order_word order ++ codes "\",\"discards\":["

-- ---- calls

-- a discard with the live copies that it leaves
abbrev pub choice_json : Discard → List ℕ
choice_json discard = codes "{\"discard\":\"" ++ kind_text discard.kind ++ codes "\",\"live\":" ++ decimal (live_with discard) ++ codes "}"

abbrev pub call_json : Call → List ℕ
call_json call = codes "{\"meld\":\"" ++ meld_text call.meld ++ codes "\",\"discards\":[" ++ listed (map choice_json call.discards) ++ codes "]}"

-- the calls that there are
abbrev pub calls_json : List (Option Call) → List ℕ
calls_json calls = listed (map call_json (filter_map (λ call. call) calls))

-- what thirteen tiles accept, with the brace that ends their object. A kong leaves thirteen tiles, and of others nothing is told.
abbrev pub accepted_json_if : Accepts → List ℕ
accepted_json_if (Thirteen accepted) = codes "," ++ accepted_json accepted
accepted_json_if (Fourteen discards) = codes "}"

abbrev pub kong_json : ℕ → Option ShapeAnswer → List ℕ
kong_json tile None = codes "null"
kong_json tile (Some answer) =
    codes "{\"meld\":\"" ++ meld_text (Kan tile) ++ codes "\",\"shanten\":" ++ signed_decimal answer.shanten ++ accepted_json_if answer.accepts

-- ---- an answer

abbrev pub finding_members : Finding → List ℕ
finding_members (Hand shanten accepted outlook) =
    codes "\"answer\":\"shape\",\"shanten\":" ++ signed_decimal shanten ++ codes "," ++ hand_json accepted outlook
finding_members (Discards shanten order prospects) =
    codes "\"answer\":\"shape\",\"shanten\":" ++ signed_decimal shanten ++ order_json order ++ listed (map prospect_json prospects) ++ codes "]}"
finding_members (Calls shanten tile calls kong) =
    codes "\"answer\":\"calls\",\"shanten\":" ++ signed_decimal shanten ++ codes ",\"calls\":[" ++ calls_json calls ++ codes "],\"kong\":" ++ kong_json tile kong ++ codes "}"
finding_members (Safety parts) = safe_members parts
finding_members (Chances parts turns) = chances_members parts turns
finding_members (Worth parts turns) = worth_answer_members parts turns
