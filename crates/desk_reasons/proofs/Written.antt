-- The text of each tree is made of the pieces that are written.
use Rattle.std.proofs.Common.{◌≡◌, ℕ, ◌+◌, ◌<◌, ◌≤◌, true, false, List, [], ◌∷◌, ◌++◌, map, Option, Some, None, refl, sym, ap, ◌∙◌, append_assoc, decimal, arith}
use Rattle.std.specs.Prelude.{codes}
use Rattle.desk_json.proofs.Pieces.{list_ends}
use Rattle.json.specs.Print.{escape, escape_byte}
use Rattle.json.proofs.Printed.Strings.{escape_byte_plain}
use Rattle.riichi_tiles.specs.declared.block.Block.{Block}
use Rattle.riichi_tiles.specs.declared.block.Block.TheVariants.{Run, Triplet, Pair}
use Rattle.riichi_text.specs.Tiles.{kind_text, block_text, two_text, three_text, run_text, digit_of, letter_of}
use Rattle.riichi_text.proofs.Letters.{letter_high}
use Rattle.riichi_split.specs.declared.reading.Reading.{Reading}
use Rattle.riichi_split.specs.declared.reading.Reading.TheVariants.{Standard, SevenPairs, Orphans}
use Rattle.riichi_score.specs.declared.score.Score.{Score}
use Rattle.riichi_shape.specs.declared.forms.FormDistances.{FormDistances}
use Rattle.riichi_explain.specs.declared.waits.KindWait.{KindWait}
use Rattle.riichi_explain.specs.declared.dora.DoraPart.{DoraPart}
use Rattle.riichi_explain.specs.declared.dora.DoraPart.TheVariants as dora
use Rattle.riichi_explain.specs.declared.dora.DoraRow.{DoraRow}
use Rattle.riichi_explain.specs.declared.fu.FuPart.{FuPart}
use Rattle.riichi_explain.specs.declared.fu.FuPart.TheVariants as fu
use Rattle.riichi_explain.specs.declared.fu.FuRow.{FuRow}
use Rattle.riichi_explain.specs.declared.han.HanPart.{HanPart}
use Rattle.riichi_explain.specs.declared.han.HanPart.TheVariants.{Yaku, Yakuman, Dora}
use Rattle.riichi_explain.specs.declared.han.HanRow.{HanRow}
use Rattle.riichi_explain.specs.declared.missed.MissedWin.{MissedWin}
use Rattle.riichi_explain.specs.declared.payers.Payer.{Payer}
use Rattle.riichi_explain.specs.declared.payers.Payer.TheVariants as payer
use Rattle.riichi_explain.specs.declared.payers.PayRow.{PayRow}
use Rattle.riichi_explain.specs.declared.ranked.RankedReading.{RankedReading}
use Rattle.riichi_explain.specs.declared.win.WonHand.{WonHand}
use Rattle.riichi_explain.specs.Forms.{shanten_text}
use Rattle.riichi_explain.specs.Words.{dora_words, dora_japanese, fu_words, fu_japanese, payer_words}
use Rattle.desk_json.specs.Parts.{listed}
use Rattle.desk_json.specs.Text.{json_text}
use Rattle.desk_json.specs.Trees.{members_of, Named, natural}
use Rattle.desk_json.proofs.Lists.{items_joined}
use Rattle.desk_json.proofs.WordLemmas.{escape_kind, escape_name, escape_word}
use Rattle.desk_json.proofs.Written.{written, members_written, text_written, item_ends}
use Rattle.desk_reasons.specs.Parts as parts
use Rattle.desk_reasons.specs.Parts.{count_json, rows_json, japanese_json, part_json}
use Rattle.desk_reasons.specs.Rows.{han_part_words, han_japanese, fu_kind}
use Rattle.desk_reasons.specs.Trees.{japanese_before, part_tree, han_members, han_tree, dora_tree, kind_before, fu_tree, pay_tree, block_tree, reading_tree, worth_members, other_tree, won_tree, readings_tree, form_before, forms_tree, wait_tree, missed_tree}

-- ---- texts without escapes

escape_han : (part : HanPart) → escape (han_part_words part) ≡ han_part_words part
unfolding han_part_words escape_byte
escape_han (Yaku yaku) = escape_word yaku
escape_han (Yakuman yaku) = escape_word yaku
escape_han Dora = refl

escape_han_name : (part : HanPart) → escape (han_japanese part) ≡ han_japanese part
unfolding han_japanese
escape_han_name (Yaku yaku) = escape_name yaku
escape_han_name (Yakuman yaku) = escape_name yaku
escape_han_name Dora = refl

escape_dora : (part : DoraPart) → escape (dora_words part) ≡ dora_words part
unfolding dora_words escape_byte
escape_dora dora.Indicated = refl
escape_dora dora.Below = refl
escape_dora dora.RedFives = refl

escape_dora_name : (part : DoraPart) → escape (dora_japanese part) ≡ dora_japanese part
unfolding dora_japanese escape_byte
escape_dora_name dora.Indicated = refl
escape_dora_name dora.Below = refl
escape_dora_name dora.RedFives = refl

escape_fu : (part : FuPart) → escape (fu_words part) ≡ fu_words part
unfolding fu_words escape_byte
escape_fu (fu.Triplet kind true) = refl
escape_fu (fu.Triplet kind false) = refl
escape_fu (fu.Kong kind true) = refl
escape_fu (fu.Kong kind false) = refl
escape_fu fu.Base = refl
escape_fu fu.ConcealedRon = refl
escape_fu fu.SelfDraw = refl
escape_fu (fu.DragonPair kind) = refl
escape_fu (fu.SeatWindPair kind) = refl
escape_fu (fu.PrevalentWindPair kind) = refl
escape_fu fu.ClosedWait = refl
escape_fu fu.EdgeWait = refl
escape_fu fu.PairWait = refl
escape_fu fu.OpenRon = refl
escape_fu fu.SevenPairs = refl

escape_fu_name : (part : FuPart) → escape (fu_japanese part) ≡ fu_japanese part
unfolding fu_japanese escape_byte
escape_fu_name (fu.Triplet kind true) = refl
escape_fu_name (fu.Triplet kind false) = refl
escape_fu_name (fu.Kong kind true) = refl
escape_fu_name (fu.Kong kind false) = refl
escape_fu_name fu.Base = refl
escape_fu_name fu.ConcealedRon = refl
escape_fu_name fu.SelfDraw = refl
escape_fu_name (fu.DragonPair kind) = refl
escape_fu_name (fu.SeatWindPair kind) = refl
escape_fu_name (fu.PrevalentWindPair kind) = refl
escape_fu_name fu.ClosedWait = refl
escape_fu_name fu.EdgeWait = refl
escape_fu_name fu.PairWait = refl
escape_fu_name fu.OpenRon = refl
escape_fu_name fu.SevenPairs = refl

escape_payer : (who : Payer) → escape (payer_words who) ≡ payer_words who
unfolding payer_words escape_byte
escape_payer payer.Discarder = refl
escape_payer payer.Dealer = refl
escape_payer payer.TwoOthers = refl
escape_payer payer.ThreeOthers = refl

-- a byte that is a digit or a letter, before others
escape_more : (byte : ℕ) (bytes : List ℕ) → 92 < byte → escape bytes ≡ bytes → escape (byte ∷ bytes) ≡ byte ∷ bytes
escape_more byte bytes high same =
    ap (λ t. t ++ escape bytes) (escape_byte_plain byte (λ e. omega arith) (λ e. omega arith) (omega arith)) ∙ ap (λ t. byte ∷ t) same

escape_digit : (digit : ℕ) (bytes : List ℕ) → 49 ≤ digit → digit < 92 → escape bytes ≡ bytes → escape (digit ∷ bytes) ≡ digit ∷ bytes
escape_digit digit bytes low high same =
    ap (λ t. t ++ escape bytes) (escape_byte_plain digit (λ e. omega arith) (λ e. omega arith) (omega arith)) ∙ ap (λ t. digit ∷ t) same

escape_two : (kind : ℕ) → escape (two_text kind) ≡ two_text kind
unfolding two_text
escape_two kind = escape_digit (digit_of kind) (kind_text kind) (omega arith) (omega arith) (escape_kind kind)

escape_three : (kind : ℕ) → escape (three_text kind) ≡ three_text kind
unfolding three_text
escape_three kind = escape_digit (digit_of kind) (two_text kind) (omega arith) (omega arith) (escape_two kind)

escape_run : (low : ℕ) → escape (run_text low) ≡ run_text low
unfolding run_text
escape_run low =
    escape_digit (digit_of low) _ (omega arith) (omega arith)
    (escape_digit (digit_of low + 1) _ (omega arith) (omega arith)
    (escape_digit (digit_of low + 2) _ (omega arith) (omega arith)
    (escape_more (letter_of low) [] (omega (arith, letter_high low)) refl)))

escape_block : (block : Block) → escape (block_text block) ≡ block_text block
unfolding block_text
escape_block (Run low) = escape_run low
escape_block (Triplet kind) = escape_three kind
escape_block (Pair kind) = escape_two kind

-- ---- rows

-- a Japanese name and what stands behind it
name_written : (name : List ℕ) (more : List Named) → escape name ≡ name
    → members_written true (members_of (japanese_before name more)) ≡ japanese_json name ++ members_written true (members_of more)
unfolding written escape_byte japanese_json
name_written [] more same = refl
name_written (byte ∷ bytes) more same =
    ap (λ t. codes ",\"japanese\":" ++ ((34 ∷ (t ++ 34 ∷ [])) ++ members_written true (members_of more))) same
    ∙ grouped (byte ∷ bytes) (members_written true (members_of more))
  where
    grouped : (name rest : List ℕ) → codes ",\"japanese\":" ++ ((34 ∷ (name ++ 34 ∷ [])) ++ rest) ≡ ((codes ",\"japanese\":\"" ++ name) ++ codes "\"") ++ rest
    grouped name rest = simp append_assoc

part_ends : (words name rest : List ℕ) → codes "{\"part\":" ++ ((34 ∷ (words ++ 34 ∷ [])) ++ (name ++ rest)) ≡ (((codes "{\"part\":\"" ++ words) ++ codes "\"") ++ name) ++ rest
part_ends words name rest = simp append_assoc

part_written : (words name : List ℕ) (more : List Named) → escape words ≡ words → escape name ≡ name
    → written (part_tree words name more) ≡ part_json words name ++ members_written true (members_of more)
unfolding written escape_byte part_json
part_written words name more same same_name =
    ap (λ t. codes "{\"part\":" ++ ((34 ∷ (t ++ 34 ∷ [])) ++ members_written true (members_of (japanese_before name more)))) same
    ∙ ap (λ t. codes "{\"part\":" ++ ((34 ∷ (words ++ 34 ∷ [])) ++ t)) (name_written name more same_name)
    ∙ part_ends words (japanese_json name) (members_written true (members_of more))

count_ends : (part name count : List ℕ) → part ++ (name ++ (count ++ codes "}")) ≡ (part ++ (name ++ count)) ++ codes "}"
count_ends part name count = simp append_assoc

han_ends : (part : HanPart) (han : ℕ) (before : List ℕ) → before ++ members_written true (members_of (han_members part han)) ≡ (before ++ parts.han_number_json part han) ++ codes "}"
unfolding written escape_byte parts.han_number_json count_json
han_ends (Yaku yaku) han before = count_ends before (codes ",\"han\":") (decimal han)
han_ends (Yakuman yaku) han before = sym (append_assoc before [] (codes "}"))
han_ends Dora han before = count_ends before (codes ",\"han\":") (decimal han)

han_written : (row : HanRow) → written (han_tree row) ≡ parts.han_row_json row
unfolding han_tree parts.han_row_json
han_written row =
    part_written (han_part_words row.part) (han_japanese row.part) (han_members row.part row.han) (escape_han row.part) (escape_han_name row.part)
    ∙ han_ends row.part row.han (part_json (han_part_words row.part) (han_japanese row.part))

dora_written : (row : DoraRow) → written (dora_tree row) ≡ parts.dora_row_json row
unfolding dora_tree parts.dora_row_json count_json written escape_byte
dora_written row =
    part_written (dora_words row.part) (dora_japanese row.part) ((codes "han", natural row.han) ∷ []) (escape_dora row.part) (escape_dora_name row.part)
    ∙ count_ends (part_json (dora_words row.part) (dora_japanese row.part)) (codes ",\"han\":") (decimal row.han)

kind_ends : (before kind rest : List ℕ) → before ++ (codes ",\"kind\":" ++ ((34 ∷ (kind ++ 34 ∷ [])) ++ rest)) ≡ (before ++ ((codes ",\"kind\":\"" ++ kind) ++ codes "\"")) ++ rest
kind_ends before kind rest = simp append_assoc

kind_written : (kind : Option ℕ) (before : List ℕ) (more : List Named)
    → before ++ members_written true (members_of (kind_before kind more)) ≡ (before ++ parts.kind_if kind) ++ members_written true (members_of more)
unfolding written escape_byte parts.kind_if
kind_written None before more = sym (append_assoc before [] (members_written true (members_of more)))
kind_written (Some kind) before more =
    ap (λ t. before ++ (codes ",\"kind\":" ++ ((34 ∷ (t ++ 34 ∷ [])) ++ members_written true (members_of more)))) (escape_kind kind)
    ∙ kind_ends before (kind_text kind) (members_written true (members_of more))

fu_written : (row : FuRow) → written (fu_tree row) ≡ parts.fu_row_json row
unfolding fu_tree parts.fu_row_json count_json written escape_byte
fu_written row =
    let before = part_json (fu_words row.part) (fu_japanese row.part) in
    let more : List Named = (codes "fu", natural row.fu) ∷ [] in
    part_written (fu_words row.part) (fu_japanese row.part) (kind_before (fu_kind row.part) more) (escape_fu row.part) (escape_fu_name row.part)
    ∙ kind_written (fu_kind row.part) before more
    ∙ count_ends (before ++ parts.kind_if (fu_kind row.part)) (codes ",\"fu\":") (decimal row.fu)

-- a text in quotes
quoted_with : (before text rest : List ℕ) → before ++ ((34 ∷ (text ++ 34 ∷ [])) ++ rest) ≡ ((before ++ 34 ∷ []) ++ text) ++ (34 ∷ rest)
quoted_with before text rest = simp append_assoc

pay_ends : (w a p b c z : List ℕ) → w ++ (a ++ (p ++ (b ++ (c ++ z)))) ≡ ((w ++ (a ++ p)) ++ (b ++ c)) ++ z
pay_ends w a p b c z = simp append_assoc

pay_written : (row : PayRow) → written (pay_tree row) ≡ parts.pay_row_json row
unfolding pay_tree parts.pay_row_json parts.payer_json count_json written escape_byte
pay_written row =
    ap (λ t. codes "{\"payer\":" ++ ((34 ∷ (t ++ 34 ∷ [])) ++ (codes ",\"points\":" ++ (decimal row.points ++ (codes ",\"counters\":" ++ (decimal row.counters ++ codes "}")))))) (escape_payer row.payer)
    ∙ quoted_with (codes "{\"payer\":") (payer_words row.payer) (codes ",\"points\":" ++ (decimal row.points ++ (codes ",\"counters\":" ++ (decimal row.counters ++ codes "}"))))
    ∙ sym (append_assoc (codes "{\"payer\":\"" ++ payer_words row.payer) (codes "\"") (codes ",\"points\":" ++ (decimal row.points ++ (codes ",\"counters\":" ++ (decimal row.counters ++ codes "}")))))
    ∙ pay_ends ((codes "{\"payer\":\"" ++ payer_words row.payer) ++ codes "\"") (codes ",\"points\":") (decimal row.points) (codes ",\"counters\":") (decimal row.counters) (codes "}")

-- ---- readings

block_written : (block : Block) → written (block_tree block) ≡ parts.quoted_block block
unfolding written block_tree parts.quoted_block
block_written block = ap (λ t. 34 ∷ (t ++ 34 ∷ [])) (escape_block block)

standard_with : List ℕ → List ℕ → List ℕ → List ℕ
standard_with sets pair done =
    codes "{\"form\":\"standard\",\"sets\":[" ++ (sets ++ (codes ",\"pair\":" ++ ((34 ∷ (pair ++ 34 ∷ [])) ++ (codes ",\"completed\":" ++ (done ++ codes "}")))))

same_standard : (s s' p p' d d' : List ℕ) → s ≡ s' → p ≡ p' → d ≡ d' → standard_with s p d ≡ standard_with s' p' d'
same_standard s s' p p' d d' e f g = cc

standard_ends : (a s x b p c d z : List ℕ) → a ++ ((s ++ x) ++ ((b ++ p) ++ (c ++ (d ++ z)))) ≡ (((a ++ s) ++ (((x ++ b) ++ p) ++ c)) ++ d) ++ z
standard_ends a s x b p c d z = simp append_assoc

reading_written : (reading : Reading) → written (reading_tree reading) ≡ parts.reading_json reading
unfolding reading_tree parts.reading_json parts.standard_json parts.pair_json rows_json written escape_byte standard_with
reading_written (Standard sets pair done) =
    same_standard _ (listed (map parts.quoted_block sets) ++ codes "]") _ (two_text pair) _ (parts.quoted_block done)
    (items_joined block_tree parts.quoted_block block_written sets) (escape_two pair) (block_written done)
    ∙ ap (λ t. codes "{\"form\":\"standard\",\"sets\":[" ++ ((listed (map parts.quoted_block sets) ++ codes "]") ++ t)) (quoted_with (codes ",\"pair\":") (two_text pair) (codes ",\"completed\":" ++ (parts.quoted_block done ++ codes "}")))
    ∙ standard_ends (codes "{\"form\":\"standard\",\"sets\":[") (listed (map parts.quoted_block sets)) (codes "]") (codes ",\"pair\":\"") (two_text pair) (codes "\",\"completed\":") (parts.quoted_block done) (codes "}")
reading_written SevenPairs = refl
reading_written Orphans = refl

worth_ends : (w a h b f c g z : List ℕ) → w ++ (a ++ (h ++ (b ++ (f ++ (c ++ (g ++ z)))))) ≡ (w ++ (((a ++ h) ++ (b ++ f)) ++ (c ++ g))) ++ z
worth_ends w a h b f c g z = simp append_assoc

worth_written : (score : Option Score) (before : List ℕ) → before ++ members_written true (members_of (worth_members score)) ≡ (before ++ parts.worth_if_json score) ++ codes "}"
unfolding written escape_byte parts.worth_if_json count_json
worth_written None before = sym (append_assoc before [] (codes "}"))
worth_written (Some score) before = worth_ends before (codes ",\"han\":") (decimal score.han) (codes ",\"fu\":") (decimal score.fu) (codes ",\"gain\":") (decimal score.gain) (codes "}")

other_written : (one : RankedReading) → written (other_tree one) ≡ parts.other_reading_json one
unfolding other_tree parts.other_reading_json written escape_byte
other_written one =
    ap (λ t. codes "{\"reading\":" ++ (t ++ members_written true (members_of (worth_members one.score)))) (reading_written one.reading)
    ∙ sym (append_assoc (codes "{\"reading\":") (parts.reading_json one.reading) (members_written true (members_of (worth_members one.score))))
    ∙ worth_written one.score (codes "{\"reading\":" ++ parts.reading_json one.reading)

-- ---- hands

won_with : List ℕ → List ℕ → List ℕ → List ℕ → List ℕ → List ℕ → List ℕ
won_with reading han dora fu pays others =
    codes "{\"reading\":" ++ (reading ++ (codes ",\"han\":[" ++ (han ++ (codes ",\"dora\":[" ++ (dora ++ (codes ",\"fu\":[" ++ (fu
    ++ (codes ",\"payments\":[" ++ (pays ++ (codes ",\"others\":[" ++ (others ++ codes "}")))))))))))

same_won : (r r' h h' d d' f f' p p' o o' : List ℕ) → r ≡ r' → h ≡ h' → d ≡ d' → f ≡ f' → p ≡ p' → o ≡ o' → won_with r h d f p o ≡ won_with r' h' d' f' p' o'
same_won r r' h h' d d' f f' p p' o o' e1 e2 e3 e4 e5 e6 = cc

won_ends : (a r b h x c d e f g p i o z : List ℕ)
    → a ++ (r ++ (b ++ ((h ++ x) ++ (c ++ ((d ++ x) ++ (e ++ ((f ++ x) ++ (g ++ ((p ++ x) ++ (i ++ ((o ++ x) ++ z)))))))))))
    ≡ (((a ++ r) ++ (b ++ h)) ++ ((x ++ c) ++ d)) ++ (((((x ++ e) ++ f) ++ ((x ++ g) ++ p)) ++ ((x ++ i) ++ o)) ++ (x ++ z))
won_ends a r b h x c d e f g p i o z = simp append_assoc

pub won_written : (hand : WonHand) (others : List RankedReading) → json_text (won_tree hand others) ≡ parts.won_json hand others
unfolding won_tree parts.won_json parts.earned_json parts.paid_json rows_json written escape_byte won_with
won_written hand others =
    text_written (won_tree hand others)
    ∙ same_won _ (parts.reading_json hand.reading) _ (listed (map parts.han_row_json hand.han.items) ++ codes "]") _ (listed (map parts.dora_row_json hand.dora.items) ++ codes "]")
    _ (listed (map parts.fu_row_json hand.fu.items) ++ codes "]") _ (listed (map parts.pay_row_json hand.payers.items) ++ codes "]") _ (listed (map parts.other_reading_json others) ++ codes "]")
    (reading_written hand.reading) (items_joined han_tree parts.han_row_json han_written hand.han.items) (items_joined dora_tree parts.dora_row_json dora_written hand.dora.items)
    (items_joined fu_tree parts.fu_row_json fu_written hand.fu.items) (items_joined pay_tree parts.pay_row_json pay_written hand.payers.items)
    (items_joined other_tree parts.other_reading_json other_written others)
    ∙ won_ends (codes "{\"reading\":") (parts.reading_json hand.reading) (codes ",\"han\":[") (listed (map parts.han_row_json hand.han.items)) (codes "]")
    (codes ",\"dora\":[") (listed (map parts.dora_row_json hand.dora.items)) (codes ",\"fu\":[") (listed (map parts.fu_row_json hand.fu.items))
    (codes ",\"payments\":[") (listed (map parts.pay_row_json hand.payers.items)) (codes ",\"others\":[") (listed (map parts.other_reading_json others)) (codes "}")

pub readings_written : (readings : List RankedReading) → json_text (readings_tree readings) ≡ parts.readings_json readings
unfolding readings_tree parts.readings_json rows_json written escape_byte
readings_written readings =
    text_written (readings_tree readings)
    ∙ ap (λ t. codes "{\"others\":[" ++ (t ++ codes "}")) (items_joined other_tree parts.other_reading_json other_written readings)
    ∙ list_ends (codes "{\"others\":[") (listed (map parts.other_reading_json readings)) (codes "]") (codes "}")

pairs_written : (lack : Option ℕ) (before : List ℕ) (more : List Named)
    → before ++ members_written true (members_of (form_before (codes "seven_pairs") lack more)) ≡ (before ++ parts.shanten_if (codes ",\"seven_pairs\":") lack) ++ members_written true (members_of more)
unfolding written escape_byte parts.shanten_if parts.shanten_json
pairs_written None before more = sym (append_assoc before [] (members_written true (members_of more)))
pairs_written (Some lack) before more = item_ends before (codes ",\"seven_pairs\":") (shanten_text lack) (members_written true (members_of more))

orphans_written : (lack : Option ℕ) (before : List ℕ) (more : List Named)
    → before ++ members_written true (members_of (form_before (codes "thirteen_orphans") lack more)) ≡ (before ++ parts.shanten_if (codes ",\"thirteen_orphans\":") lack) ++ members_written true (members_of more)
unfolding written escape_byte parts.shanten_if parts.shanten_json
orphans_written None before more = sym (append_assoc before [] (members_written true (members_of more)))
orphans_written (Some lack) before more = item_ends before (codes ",\"thirteen_orphans\":") (shanten_text lack) (members_written true (members_of more))

forms_written : (forms : FormDistances) → written (forms_tree forms) ≡ parts.forms_json forms
unfolding forms_tree parts.forms_json parts.shanten_json written escape_byte
forms_written forms =
    let orphans : List Named = form_before (codes "thirteen_orphans") forms.thirteen_orphans [] in
    let standard = codes "{\"standard\":" ++ shanten_text forms.sets_and_pair in
    sym (append_assoc (codes "{\"standard\":") (shanten_text forms.sets_and_pair) (members_written true (members_of (form_before (codes "seven_pairs") forms.seven_pairs orphans))))
    ∙ pairs_written forms.seven_pairs standard orphans
    ∙ orphans_written forms.thirteen_orphans (standard ++ parts.shanten_if (codes ",\"seven_pairs\":") forms.seven_pairs) []

wait_written : (wait : KindWait) → written (wait_tree wait) ≡ parts.wait_json wait
unfolding written wait_tree parts.wait_json
wait_written wait = ap (λ t. 34 ∷ (t ++ 34 ∷ [])) (escape_kind wait.kind)

missed_ends : (waits forms : List ℕ) → codes "{\"waits\":[" ++ ((waits ++ codes "]") ++ (codes ",\"shanten\":" ++ (forms ++ codes "}")))
    ≡ (((codes "{\"waits\":[" ++ waits) ++ codes "],\"shanten\":") ++ forms) ++ codes "}"
missed_ends waits forms = simp append_assoc

pub missed_written : (missed : MissedWin) → json_text (missed_tree missed) ≡ parts.missed_json missed
unfolding missed_tree parts.missed_json rows_json written escape_byte
missed_written missed =
    text_written (missed_tree missed)
    ∙ ap (λ t. codes "{\"waits\":[" ++ (t ++ (codes ",\"shanten\":" ++ (written (forms_tree missed.forms) ++ codes "}")))) (items_joined wait_tree parts.wait_json wait_written missed.waits.items)
    ∙ ap (λ t. codes "{\"waits\":[" ++ ((listed (map parts.wait_json missed.waits.items) ++ codes "]") ++ (codes ",\"shanten\":" ++ (t ++ codes "}")))) (forms_written missed.forms)
    ∙ missed_ends (listed (map parts.wait_json missed.waits.items)) (parts.forms_json missed.forms)

pub ruleset push_why_facts = (won_written, readings_written, missed_written)
