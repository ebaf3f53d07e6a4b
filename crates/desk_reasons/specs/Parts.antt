-- The same texts, made of the pieces that are written one after another.
use Rattle.std.specs.Prelude.{ℕ, List, [], ◌∷◌, ◌++◌, map, Option, Some, None, codes, decimal}
use Rattle.riichi_tiles.specs.declared.block.Block.{Block}
use Rattle.riichi_text.specs.Lists.{joined}
use Rattle.riichi_text.specs.Tiles.{kind_text, block_text, two_text}
use Rattle.riichi_split.specs.declared.reading.Reading.{Reading}
use Rattle.riichi_split.specs.declared.reading.Reading.TheVariants.{Standard, SevenPairs, Orphans}
use Rattle.riichi_score.specs.declared.score.Score.{Score}
use Rattle.riichi_shape.specs.declared.forms.FormDistances.{FormDistances}
use Rattle.riichi_explain.specs.declared.waits.KindWait.{KindWait}
use Rattle.riichi_explain.specs.declared.dora.DoraRow.{DoraRow}
use Rattle.riichi_explain.specs.declared.fu.FuRow.{FuRow}
use Rattle.riichi_explain.specs.declared.han.HanPart.{HanPart}
use Rattle.riichi_explain.specs.declared.han.HanPart.TheVariants.{Yaku, Yakuman, Dora}
use Rattle.riichi_explain.specs.declared.han.HanRow.{HanRow}
use Rattle.riichi_explain.specs.declared.missed.MissedWin.{MissedWin}
use Rattle.riichi_explain.specs.declared.payers.Payer.{Payer}
use Rattle.riichi_explain.specs.declared.payers.PayRow.{PayRow}
use Rattle.riichi_explain.specs.declared.ranked.RankedReading.{RankedReading}
use Rattle.riichi_explain.specs.declared.win.WonHand.{WonHand}
use Rattle.riichi_explain.specs.Forms.{shanten_text}
use Rattle.riichi_explain.specs.Words.{dora_words, dora_japanese, fu_words, fu_japanese, payer_words}
use Rattle.desk_reasons.specs.Rows.{han_part_words, han_japanese, fu_kind}

-- a number behind a name
unfoldable pub count_json : List ℕ → ℕ → List ℕ
count_json before count = before ++ decimal count

-- the values of a list behind a name, with commas between them
unfoldable pub rows_json : List ℕ → List (List ℕ) → List ℕ
rows_json before texts = before ++ joined (codes ",") texts

-- ---- rows

unfoldable pub japanese_json : List ℕ → List ℕ
japanese_json [] = []
japanese_json (byte ∷ bytes) = codes ",\"japanese\":\"" ++ (byte ∷ bytes) ++ codes "\""

-- without the brace at its end
unfoldable pub part_json : List ℕ → List ℕ → List ℕ
part_json words japanese = codes "{\"part\":\"" ++ words ++ codes "\"" ++ japanese_json japanese

unfoldable pub han_number_json : HanPart → ℕ → List ℕ
han_number_json (Yaku yaku) han = count_json (codes ",\"han\":") han
han_number_json (Yakuman yaku) han = []
han_number_json Dora han = count_json (codes ",\"han\":") han

unfoldable pub han_row_json : HanRow → List ℕ
han_row_json row = part_json (han_part_words row.part) (han_japanese row.part) ++ han_number_json row.part row.han ++ codes "}"

unfoldable pub dora_row_json : DoraRow → List ℕ
dora_row_json row = part_json (dora_words row.part) (dora_japanese row.part) ++ count_json (codes ",\"han\":") row.han ++ codes "}"

unfoldable pub kind_if : Option ℕ → List ℕ
kind_if None = []
kind_if (Some kind) = codes ",\"kind\":\"" ++ kind_text kind ++ codes "\""

unfoldable pub fu_row_json : FuRow → List ℕ
fu_row_json row =
    part_json (fu_words row.part) (fu_japanese row.part) ++ kind_if (fu_kind row.part) ++ count_json (codes ",\"fu\":") row.fu ++ codes "}"

unfoldable pub payer_json : Payer → List ℕ
payer_json payer = codes "{\"payer\":\"" ++ payer_words payer ++ codes "\""

unfoldable pub pay_row_json : PayRow → List ℕ
pay_row_json row = payer_json row.payer ++ count_json (codes ",\"points\":") row.points ++ count_json (codes ",\"counters\":") row.counters ++ codes "}"

-- ---- readings

unfoldable pub quoted_block : Block → List ℕ
quoted_block block = codes "\"" ++ block_text block ++ codes "\""

unfoldable pub pair_json : ℕ → List ℕ
pair_json pair = codes "],\"pair\":\"" ++ two_text pair ++ codes "\",\"completed\":"

unfoldable pub standard_json : List Block → ℕ → Block → List ℕ
standard_json sets pair done =
    rows_json (codes "{\"form\":\"standard\",\"sets\":[") (map quoted_block sets) ++ pair_json pair ++ quoted_block done ++ codes "}"

unfoldable pub reading_json : Reading → List ℕ
reading_json (Standard sets pair done) = standard_json sets pair done
reading_json SevenPairs = codes "{\"form\":\"seven pairs\"}"
reading_json Orphans = codes "{\"form\":\"thirteen orphans\"}"

unfoldable pub worth_if_json : Option Score → List ℕ
worth_if_json None = []
worth_if_json (Some score) = count_json (codes ",\"han\":") score.han ++ count_json (codes ",\"fu\":") score.fu ++ count_json (codes ",\"gain\":") score.gain

unfoldable pub other_reading_json : RankedReading → List ℕ
other_reading_json one = codes "{\"reading\":" ++ reading_json one.reading ++ worth_if_json one.score ++ codes "}"

-- ---- hands

unfoldable pub earned_json : WonHand → List ℕ
earned_json hand =
    codes "{\"reading\":" ++ reading_json hand.reading ++ rows_json (codes ",\"han\":[") (map han_row_json hand.han.items)
    ++ rows_json (codes "],\"dora\":[") (map dora_row_json hand.dora.items)

unfoldable pub paid_json : WonHand → List RankedReading → List ℕ
paid_json hand others =
    rows_json (codes "],\"fu\":[") (map fu_row_json hand.fu.items) ++ rows_json (codes "],\"payments\":[") (map pay_row_json hand.payers.items)
    ++ rows_json (codes "],\"others\":[") (map other_reading_json others) ++ codes "]}"

unfoldable pub won_json : WonHand → List RankedReading → List ℕ
won_json hand others = earned_json hand ++ paid_json hand others

unfoldable pub readings_json : List RankedReading → List ℕ
readings_json readings = rows_json (codes "{\"others\":[") (map other_reading_json readings) ++ codes "]}"

unfoldable pub shanten_json : List ℕ → ℕ → List ℕ
shanten_json before lack = before ++ shanten_text lack

unfoldable pub shanten_if : List ℕ → Option ℕ → List ℕ
shanten_if before None = []
shanten_if before (Some lack) = shanten_json before lack

unfoldable pub forms_json : FormDistances → List ℕ
forms_json forms =
    shanten_json (codes "{\"standard\":") forms.sets_and_pair ++ shanten_if (codes ",\"seven_pairs\":") forms.seven_pairs
    ++ shanten_if (codes ",\"thirteen_orphans\":") forms.thirteen_orphans ++ codes "}"

unfoldable pub wait_json : KindWait → List ℕ
wait_json wait = codes "\"" ++ kind_text wait.kind ++ codes "\""

unfoldable pub missed_json : MissedWin → List ℕ
missed_json missed =
    rows_json (codes "{\"waits\":[") (map wait_json missed.waits.items) ++ codes "],\"shanten\":" ++ forms_json missed.forms ++ codes "}"
