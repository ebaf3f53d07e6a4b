-- Why a win is answered as it is, as values of JSON.
use Rattle.std.specs.Prelude.{ℕ, List, [], ◌∷◌, Option, Some, None, not, filter, codes}
use Rattle.json.specs.Json.{Json, null, boolean, number, string, array, object, Members, no_members, member}
use Rattle.riichi_tiles.specs.declared.block.Block.{Block}
use Rattle.riichi_text.specs.Tiles.{block_text, two_text}
use Rattle.riichi_split.specs.declared.reading.Reading.{Reading}
use Rattle.riichi_split.specs.declared.reading.Reading.TheVariants.{Standard, SevenPairs, Orphans}
use Rattle.riichi_split.specs.contracts.reading.ReadingPartialEq.TheImpl.{ghosts as reading}
use Rattle.riichi_score.specs.declared.score.Score.{Score}
use Rattle.riichi_shape.specs.declared.forms.FormDistances.{FormDistances}
use Rattle.riichi_explain.specs.declared.waits.KindWait.{KindWait}
use Rattle.riichi_explain.specs.declared.dora.DoraRow.{DoraRow}
use Rattle.riichi_explain.specs.declared.fu.FuRow.{FuRow}
use Rattle.riichi_explain.specs.declared.han.HanPart.{HanPart}
use Rattle.riichi_explain.specs.declared.han.HanPart.TheVariants.{Yaku, Yakuman, Dora}
use Rattle.riichi_explain.specs.declared.han.HanRow.{HanRow}
use Rattle.riichi_explain.specs.declared.missed.MissedWin.{MissedWin}
use Rattle.riichi_explain.specs.declared.payers.PayRow.{PayRow}
use Rattle.riichi_explain.specs.declared.ranked.RankedReading.{RankedReading}
use Rattle.riichi_explain.specs.declared.win.WinExplanation.{WinExplanation}
use Rattle.riichi_explain.specs.declared.win.WinExplanation.TheVariants.{Won, NoYaku, NoWin}
use Rattle.riichi_explain.specs.declared.win.WonHand.{WonHand}
use Rattle.riichi_explain.specs.Forms.{shanten_text}
use Rattle.riichi_explain.specs.Words.{dora_words, dora_japanese, fu_words, fu_japanese, payer_words}
use Rattle.desk_json.specs.Trees.{list_of, Named, object_of, natural, kind_tree}
use Rattle.desk_reasons.specs.Rows.{han_part_words, han_japanese, fu_kind}

-- ---- rows

-- a Japanese name, where there is one, before other members
abbrev pub japanese_before : List ℕ → List Named → List Named
japanese_before [] more = more
japanese_before (byte ∷ bytes) more = (codes "japanese", string (byte ∷ bytes)) ∷ more

-- what earns something, in words and by its Japanese name, and more of it
abbrev pub part_tree : List ℕ → List ℕ → List Named → Json
part_tree words japanese more = object_of ((codes "part", string words) ∷ japanese_before japanese more)

-- a yakuman has no number of han
abbrev pub han_members : HanPart → ℕ → List Named
han_members (Yaku yaku) han = (codes "han", natural han) ∷ []
han_members (Yakuman yaku) han = []
han_members Dora han = (codes "han", natural han) ∷ []

unfoldable pub han_tree : HanRow → Json
han_tree row = part_tree (han_part_words row.part) (han_japanese row.part) (han_members row.part row.han)

unfoldable pub dora_tree : DoraRow → Json
dora_tree row = part_tree (dora_words row.part) (dora_japanese row.part) ((codes "han", natural row.han) ∷ [])

-- a kind, where there is one, before other members
abbrev pub kind_before : Option ℕ → List Named → List Named
kind_before None more = more
kind_before (Some kind) more = (codes "kind", kind_tree kind) ∷ more

unfoldable pub fu_tree : FuRow → Json
fu_tree row = part_tree (fu_words row.part) (fu_japanese row.part) (kind_before (fu_kind row.part) ((codes "fu", natural row.fu) ∷ []))

-- what each of these payers pays
unfoldable pub pay_tree : PayRow → Json
pay_tree row = object_of (
    (codes "payer", string (payer_words row.payer))
    ∷ (codes "points", natural row.points)
    ∷ (codes "counters", natural row.counters)
    ∷ [])

-- ---- readings

unfoldable pub block_tree : Block → Json
block_tree block = string (block_text block)

-- the sets in hand, the pair, and the block that the winning tile completes; or one of the other forms
unfoldable pub reading_tree : Reading → Json
reading_tree (Standard sets pair done) = object_of (
    (codes "form", string (codes "standard"))
    ∷ (codes "sets", list_of block_tree sets)
    ∷ (codes "pair", string (two_text pair))
    ∷ (codes "completed", block_tree done)
    ∷ [])
reading_tree SevenPairs = object_of ((codes "form", string (codes "seven pairs")) ∷ [])
reading_tree Orphans = object_of ((codes "form", string (codes "thirteen orphans")) ∷ [])

-- what a reading is worth that has a yaku
abbrev pub worth_members : Option Score → List Named
worth_members None = []
worth_members (Some score) = (codes "han", natural score.han) ∷ (codes "fu", natural score.fu) ∷ (codes "gain", natural score.gain) ∷ []

unfoldable pub other_tree : RankedReading → Json
other_tree one = object_of ((codes "reading", reading_tree one.reading) ∷ worth_members one.score)

-- the readings but the one that is shown
abbrev pub others_of : Reading → List RankedReading → List RankedReading
others_of shown ranked = filter (λ one. not (reading.eq one.reading shown)) ranked

-- ---- hands

-- a hand that scores: its reading, the rows that add up to its score, and the other readings
unfoldable pub won_tree : WonHand → List RankedReading → Json
won_tree hand others = object_of (
    (codes "reading", reading_tree hand.reading)
    ∷ (codes "han", list_of han_tree hand.han.items)
    ∷ (codes "dora", list_of dora_tree hand.dora.items)
    ∷ (codes "fu", list_of fu_tree hand.fu.items)
    ∷ (codes "payments", list_of pay_tree hand.payers.items)
    ∷ (codes "others", list_of other_tree others)
    ∷ [])

-- a hand without yaku: its readings
unfoldable pub readings_tree : List RankedReading → Json
readings_tree readings = object_of ((codes "others", list_of other_tree readings) ∷ [])

-- one less than the tiles that are lacking
abbrev pub shanten_tree : ℕ → Json
shanten_tree lack = number (shanten_text lack)

-- a form that stands beside no meld, before other members
abbrev pub form_before : List ℕ → Option ℕ → List Named → List Named
form_before name None more = more
form_before name (Some lack) more = (name, shanten_tree lack) ∷ more

-- the shanten by each form
unfoldable pub forms_tree : FormDistances → Json
forms_tree forms = object_of (
    (codes "standard", shanten_tree forms.sets_and_pair)
    ∷ form_before (codes "seven_pairs") forms.seven_pairs
    (form_before (codes "thirteen_orphans") forms.thirteen_orphans []))

unfoldable pub wait_tree : KindWait → Json
wait_tree wait = kind_tree wait.kind

-- a hand that is no win: what it waits for before the winning tile, and how far it is from each form with that
unfoldable pub missed_tree : MissedWin → Json
missed_tree missed = object_of ((codes "waits", list_of wait_tree missed.waits.items) ∷ (codes "shanten", forms_tree missed.forms) ∷ [])

-- why a win is answered so, with the readings of the hand, the best first
unfoldable pub why_tree : WinExplanation → List RankedReading → Json
why_tree (Won hand) ranked = won_tree hand (others_of hand.reading ranked)
why_tree (NoYaku readings) ranked = readings_tree ranked
why_tree (NoWin missed) ranked = missed_tree missed

-- ---- one member more

-- a member behind all others
abbrev pub with_last : Members → Named → Members
with_last no_members named = member named.0 named.1 no_members
with_last (member name value members) named = member name value (with_last members named)

-- of an object; no other value has members
unfoldable pub with_member : Json → Named → Json
with_member (object members) named = object (with_last members named)
with_member null named = null
with_member (boolean truth) named = boolean truth
with_member (number text) named = number text
with_member (string text) named = string text
with_member (array items) named = array items
