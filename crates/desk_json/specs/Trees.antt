-- The answers as values of JSON.
use Rattle.std.specs.Prelude.{ℕ, List, [], ◌∷◌, ◌++◌, ◌==◌, Option, None, Some, if◌then◌else◌, codes, decimal, filter, nat_le}
use Rattle.std.specs.Fmt.{signed_decimal}
use Rattle.json.specs.Json.{Json, null, boolean, number, string, array, object, Items, no_items, item, Members, no_members, member}
use Rattle.riichi_tiles.specs.HeldKinds.{is_held}
use Rattle.riichi_tiles.specs.Melds.{every_kind}
use Rattle.riichi_hand.specs.FaultTexts.{line_code_text, notation_code_text, name_text}
use Rattle.riichi_hand.specs.declared.fault.LineFault.{LineFault}
use Rattle.riichi_hand.specs.declared.fault.LineFault.TheVariants.{Line, Notation}
use Rattle.riichi_hand.specs.declared.line.record.Place.{Place}
use Rattle.riichi_hand.specs.Rules.{Rules}
use Rattle.riichi_hand.specs.RulesWords.{rules_words, is_house}
use Rattle.riichi_refusals.specs.Meaning.{refusal_key, refusal_place, refusal_words}
use Rattle.riichi_names.specs.Names.{japanese}
use Rattle.riichi_yaku.specs.declared.table.Yaku.{Yaku}
use Rattle.riichi_yaku.specs.Table as table
use Rattle.riichi_yaku.specs.YakuSets.{is_yakuman, yaku_in}
use Rattle.riichi_score.specs.declared.payers.Payment.{Payment}
use Rattle.riichi_score.specs.declared.payers.Payment.TheVariants.{Ron, Tsumo, DealerTsumo}
use Rattle.riichi_score.specs.declared.score.Score.{Score}
use Rattle.riichi_score.specs.declared.answer.WinAnswer.{WinAnswer}
use Rattle.riichi_score.specs.declared.answer.WinAnswer.TheVariants.{Won, NoYaku, NoWin}
use Rattle.riichi_shape.specs.LiveCopies.{live_in}
use Rattle.riichi_text.specs.Tiles.{kind_text}
use Rattle.riichi_shape.specs.declared.accepts.Accepts.{Accepts}
use Rattle.riichi_shape.specs.declared.accepts.Accepts.TheVariants.{Thirteen, Fourteen}
use Rattle.riichi_shape.specs.declared.discard.Discard.{Discard}
use Rattle.riichi_shape.specs.declared.shape_answer.ShapeAnswer.{ShapeAnswer}
use Rattle.desk_core.specs.declared.answer.Answer.{Answer}
use Rattle.desk_core.specs.declared.answer.Answer.TheVariants as answer

-- ---- values

abbrev pub json_items : {X : Type 0} → (X → Json) → List X → Items
json_items tree [] = no_items
json_items tree (x ∷ xs) = item (tree x) (json_items tree xs)

-- a list, with a value for each
abbrev pub list_of : {X : Type 0} → (X → Json) → List X → Json
list_of tree xs = array (json_items tree xs)

-- a name with its value
abbrev pub Named : Type 0
Named = List ℕ × Json

abbrev pub members_of : List Named → Members
members_of [] = no_members
members_of (named ∷ more) = member named.0 named.1 (members_of more)

abbrev pub object_of : List Named → Json
object_of named = object (members_of named)

abbrev pub natural : ℕ → Json
natural n = number (decimal n)

-- an object that begins with what sort of answer it is
abbrev pub answer_of_sort : List ℕ → List Named → Json
answer_of_sort sort named = object_of ((codes "answer", string sort) ∷ named)

-- a kind as its digit and its letter, as in 5p
abbrev pub kind_tree : ℕ → Json
kind_tree kind = string (kind_text kind)

-- ---- wins

-- a yaku, by its number, its word and its Japanese name
unfoldable pub yaku_tree : Yaku → Json
yaku_tree yaku = object_of (
    (codes "number", natural (table.number yaku))
    ∷ (codes "word", string (table.word yaku))
    ∷ (codes "japanese", string (japanese yaku))
    ∷ [])

-- the name of a limit by its base points
unfoldable pub limit_tree : ℕ → Json
limit_tree base =
    if base == 2000 then string (codes "mangan")
    else (if base == 3000 then string (codes "haneman")
    else (if base == 4000 then string (codes "baiman")
    else (if base == 6000 then string (codes "sanbaiman")
    else (if nat_le 8000 base then string (codes "yakuman")
    else null))))

-- what each payer pays
unfoldable pub payment_tree : Payment → Json
payment_tree (Ron points) = object_of ((codes "discarder", natural points) ∷ [])
payment_tree (Tsumo other dealer) = object_of ((codes "dealer", natural dealer) ∷ (codes "each_other", natural other) ∷ [])
payment_tree (DealerTsumo each) = object_of ((codes "each", natural each) ∷ [])

-- the rules of a win, behind the other members, where they are neither profile
abbrev pub rules_members : Rules → List Named
rules_members rules = if is_house rules then (codes "rules", string (rules_words rules)) ∷ [] else []

unfoldable pub score_tree : Rules → Score → Json
score_tree rules score = answer_of_sort (codes "won") (
    (codes "yakuman", boolean (is_yakuman score.yaku))
    ∷ (codes "han", natural score.han)
    ∷ (codes "fu", natural score.fu)
    ∷ (codes "dora", natural score.dora)
    ∷ (codes "base", natural score.base)
    ∷ (codes "limit", limit_tree score.base)
    ∷ (codes "payment", payment_tree score.payment)
    ∷ (codes "gain", natural score.gain)
    ∷ (codes "yaku", list_of yaku_tree (yaku_in score.yaku))
    ∷ rules_members rules)

unfoldable pub win_tree : Rules → WinAnswer → Json
win_tree rules (Won score) = score_tree rules score
win_tree rules NoYaku = answer_of_sort (codes "no yaku") (rules_members rules)
win_tree rules NoWin = answer_of_sort (codes "no win") (rules_members rules)

-- ---- waits

-- the kinds of a set, ascending
unfoldable pub kinds_held : ℕ → List ℕ
kinds_held set = filter (is_held set) every_kind

unfoldable pub waits_tree : ℕ → Json
waits_tree marks = answer_of_sort (codes "waits") ((codes "kinds", list_of kind_tree (kinds_held marks)) ∷ [])

-- ---- shapes

-- a kind, and how many copies of it are live
unfoldable pub live_tree : ℕ × ℕ → Json
live_tree pair = object_of ((codes "kind", kind_tree pair.0) ∷ (codes "live", natural pair.1) ∷ [])

-- the accepted kinds, and the live copies of all of them
abbrev pub accepted_members : List (ℕ × ℕ) → List Named
accepted_members pairs = (codes "accepts", list_of live_tree pairs) ∷ (codes "live", natural (live_in pairs)) ∷ []

unfoldable pub discard_tree : Discard → Json
discard_tree discard = object_of ((codes "discard", kind_tree discard.kind) ∷ accepted_members discard.accepted)

abbrev pub accepts_members : Accepts → List Named
accepts_members (Thirteen accepted) = accepted_members accepted
accepts_members (Fourteen discards) = (codes "discards", list_of discard_tree discards) ∷ []

unfoldable pub shape_tree : ShapeAnswer → Json
shape_tree shape = answer_of_sort (codes "shape") ((codes "shanten", number (signed_decimal shape.shanten)) ∷ accepts_members shape.accepts)

-- ---- answers

-- the answer under these rules, which wins alone ask for
unfoldable pub answer_tree : Rules → Answer → Json
answer_tree rules (answer.Win win) = win_tree rules win
answer_tree rules (answer.Waits kinds) = waits_tree kinds
answer_tree rules (answer.Shape shape) = shape_tree shape

-- ---- refusals

-- the code, and for a notation text its name and the place in it
abbrev pub code_members : LineFault → List Named
code_members (Line code) = (codes "code", string (line_code_text code)) ∷ []
code_members (Notation name fault) =
    (codes "code", string (notation_code_text fault.code))
    ∷ (codes "text", string (name_text name))
    ∷ (codes "place", natural fault.place)
    ∷ []

abbrev pub key_members : Option (List ℕ) → List Named
key_members None = []
key_members (Some key) = (codes "key", string key) ∷ []

abbrev pub place_members : Option Place → List Named
place_members None = []
place_members (Some place) = (codes "at", natural place.at) ∷ (codes "length", natural place.length) ∷ []

-- a fault with the key and the place of the line that are at fault, and what may stand there
abbrev pub refused_tree : LineFault → Option (List ℕ) → Option Place → List ℕ → Json
refused_tree fault key place words =
    answer_of_sort (codes "refused") (code_members fault ++ key_members key ++ place_members place ++ (codes "words", string words) ∷ [])

unfoldable pub refusal_tree : List ℕ → LineFault → Json
refusal_tree line fault = refused_tree fault (refusal_key line fault) (refusal_place line fault) (refusal_words line fault)
