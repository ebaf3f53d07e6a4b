-- The pieces that the texts of the answers are written from.
use Rattle.std.specs.Prelude.{ℕ, ◌==◌, Bool, List, [], ◌++◌, Option, None, Some, if◌then◌else◌, codes, decimal, map, nat_le}
use Rattle.std.specs.Fmt.{signed_decimal}
use Rattle.riichi_hand.specs.FaultTexts.{line_code_text, notation_code_text, name_text}
use Rattle.riichi_hand.specs.declared.fault.LineFault.{LineFault}
use Rattle.riichi_hand.specs.declared.fault.LineFault.TheVariants.{Line, Notation}
use Rattle.riichi_hand.specs.declared.line.record.Place.{Place}
use Rattle.riichi_hand.specs.Rules.{Rules}
use Rattle.riichi_hand.specs.RulesWords.{house_words}
use Rattle.riichi_refusals.specs.Meaning.{refusal_key, refusal_place, refusal_words}
use Rattle.riichi_names.specs.Names.{japanese}
use Rattle.riichi_yaku.specs.declared.table.Yaku.{Yaku}
use Rattle.riichi_yaku.specs.Table.{number, word}
use Rattle.riichi_yaku.specs.YakuSets.{is_yakuman, yaku_in}
use Rattle.riichi_score.specs.declared.payers.Payment.{Payment}
use Rattle.riichi_score.specs.declared.payers.Payment.TheVariants.{Ron, Tsumo, DealerTsumo}
use Rattle.riichi_score.specs.declared.score.Score.{Score}
use Rattle.riichi_score.specs.declared.answer.WinAnswer.{WinAnswer}
use Rattle.riichi_score.specs.declared.answer.WinAnswer.TheVariants.{Won, NoYaku, NoWin}
use Rattle.riichi_shape.specs.LiveCopies.{live_in}
use Rattle.riichi_text.specs.Lists.{joined}
use Rattle.riichi_text.specs.Tiles.{kind_text}
use Rattle.riichi_shape.specs.declared.accepts.Accepts.{Accepts}
use Rattle.riichi_shape.specs.declared.accepts.Accepts.TheVariants.{Thirteen, Fourteen}
use Rattle.riichi_shape.specs.declared.discard.Discard.{Discard}
use Rattle.riichi_shape.specs.declared.shape_answer.ShapeAnswer.{ShapeAnswer}
use Rattle.desk_json.specs.Trees.{kinds_held}

-- ---- lists

abbrev pub comma_if : Bool → List ℕ
comma_if later = if later then codes "," else []

-- texts with commas between them
abbrev pub listed : List (List ℕ) → List ℕ
listed texts = joined (codes ",") texts

-- ---- wins

-- the printed word and the Japanese name of a yaku, with the brace that ends its object
unfoldable pub names_json : Yaku → List ℕ
names_json yaku = codes ",\"word\":\"" ++ word yaku ++ codes "\",\"japanese\":\"" ++ japanese yaku ++ codes "\"}"

unfoldable pub yaku_json : Yaku → List ℕ
yaku_json yaku = codes "{\"number\":" ++ decimal (number yaku) ++ names_json yaku

abbrev pub yaku_list_json : ℕ → List ℕ
yaku_list_json set = listed (map yaku_json (yaku_in set))

abbrev pub limit_json : ℕ → List ℕ
limit_json base =
    if base == 2000 then codes "\"mangan\""
    else (if base == 3000 then codes "\"haneman\""
    else (if base == 4000 then codes "\"baiman\""
    else (if base == 6000 then codes "\"sanbaiman\""
    else (if nat_le 8000 base then codes "\"yakuman\""
    else codes "null"))))

abbrev pub truth_json : Bool → List ℕ
truth_json truth = if truth then codes "true" else codes "false"

abbrev pub payment_json : Payment → List ℕ
payment_json (Ron points) = codes "{\"discarder\":" ++ decimal points ++ codes "}"
payment_json (Tsumo other dealer) = codes "{\"dealer\":" ++ decimal dealer ++ codes ",\"each_other\":" ++ decimal other ++ codes "}"
payment_json (DealerTsumo each) = codes "{\"each\":" ++ decimal each ++ codes "}"

-- the han with the fu and the dora
unfoldable pub worth_json : Score → List ℕ
worth_json score =
    codes "{\"answer\":\"won\",\"yakuman\":" ++ truth_json (is_yakuman score.yaku)
    ++ codes ",\"han\":" ++ decimal score.han ++ codes ",\"fu\":" ++ decimal score.fu ++ codes ",\"dora\":" ++ decimal score.dora

unfoldable pub points_json : Score → List ℕ
points_json score =
    codes ",\"base\":" ++ decimal score.base ++ codes ",\"limit\":" ++ limit_json score.base
    ++ codes ",\"payment\":" ++ payment_json score.payment ++ codes ",\"gain\":" ++ decimal score.gain

-- without the brace at its end
unfoldable pub score_json : Score → List ℕ
score_json score = worth_json score ++ points_json score ++ codes ",\"yaku\":[" ++ yaku_list_json score.yaku ++ codes "]"

unfoldable pub worth_members_json : WinAnswer → List ℕ
worth_members_json (Won score) = score_json score
worth_members_json NoYaku = codes "{\"answer\":\"no yaku\""
worth_members_json NoWin = codes "{\"answer\":\"no win\""

-- the rules, where they are neither profile
abbrev pub rules_json : Rules → List ℕ
rules_json rules = house_words (codes ",\"rules\":\"") (codes "\"") rules

unfoldable pub open_win_json : Rules → WinAnswer → List ℕ
open_win_json rules win = worth_members_json win ++ rules_json rules

unfoldable pub win_json : Rules → WinAnswer → List ℕ
win_json rules win = open_win_json rules win ++ codes "}"

-- ---- waits

abbrev pub quoted_kind : ℕ → List ℕ
quoted_kind kind = codes "\"" ++ kind_text kind ++ codes "\""

abbrev pub kinds_json : ℕ → List ℕ
kinds_json marks = listed (map quoted_kind (kinds_held marks))

unfoldable pub waits_json : ℕ → List ℕ
waits_json marks = codes "{\"answer\":\"waits\",\"kinds\":[" ++ kinds_json marks ++ codes "]}"

-- ---- shapes

unfoldable pub live_json : ℕ × ℕ → List ℕ
live_json pair = codes "{\"kind\":\"" ++ kind_text pair.0 ++ codes "\",\"live\":" ++ decimal pair.1 ++ codes "}"

abbrev pub pairs_json : List (ℕ × ℕ) → List ℕ
pairs_json pairs = listed (map live_json pairs)

-- with the brace that ends its object
unfoldable pub accepted_json : List (ℕ × ℕ) → List ℕ
accepted_json pairs = codes "\"accepts\":[" ++ pairs_json pairs ++ codes "],\"live\":" ++ decimal (live_in pairs) ++ codes "}"

unfoldable pub discard_json : Discard → List ℕ
discard_json discard = codes "{\"discard\":\"" ++ kind_text discard.kind ++ codes "\"," ++ accepted_json discard.accepted

abbrev pub discards_json : List Discard → List ℕ
discards_json discards = listed (map discard_json discards)

unfoldable pub accepts_json : Accepts → List ℕ
accepts_json (Thirteen accepted) = accepted_json accepted
accepts_json (Fourteen discards) = codes "\"discards\":[" ++ discards_json discards ++ codes "]}"

unfoldable pub shape_json : ShapeAnswer → List ℕ
shape_json shape = codes "{\"answer\":\"shape\",\"shanten\":" ++ signed_decimal shape.shanten ++ codes "," ++ accepts_json shape.accepts

-- ---- refusals

unfoldable pub code_json : LineFault → List ℕ
code_json (Line code) = codes "{\"answer\":\"refused\",\"code\":\"" ++ line_code_text code ++ codes "\""
code_json (Notation name fault) =
    codes "{\"answer\":\"refused\",\"code\":\"" ++ notation_code_text fault.code ++ codes "\",\"text\":\"" ++ name_text name
    ++ codes "\",\"place\":" ++ decimal fault.place

unfoldable pub key_json : Option (List ℕ) → List ℕ
key_json None = []
key_json (Some key) = codes ",\"key\":\"" ++ key ++ codes "\""

unfoldable pub place_json : Option Place → List ℕ
place_json None = []
place_json (Some place) = codes ",\"at\":" ++ decimal place.at ++ codes ",\"length\":" ++ decimal place.length

-- with the brace that ends the object
unfoldable pub words_json : List ℕ → List ℕ
words_json words = codes ",\"words\":\"" ++ words ++ codes "\"}"

abbrev pub refused_json : LineFault → Option (List ℕ) → Option Place → List ℕ → List ℕ
refused_json fault key place words = code_json fault ++ key_json key ++ place_json place ++ words_json words

unfoldable pub refusal_parts : List ℕ → LineFault → List ℕ
refusal_parts line fault = refused_json fault (refusal_key line fault) (refusal_place line fault) (refusal_words line fault)
