-- The lines of an explanation begin with two spaces, and each ends with its line feed.
use Rattle.std.proofs.Common.{◌≡◌, ℕ, ◌+◌, ◌-◌, ◌*◌, List, [], ◌∷◌, ◌++◌, Bool, true, false, cond, nat_eq, nat_lt, nat_le, length, map, take, Option, Some, None, Result, Ok, Err, refl, ap, ◌∙◌, arith}
use Rattle.std.specs.Prelude.{◌==◌, codes, decimal, slice_index}
use Rattle.std.specs.List.{flat_map}
use Rattle.riichi_tiles.specs.declared.block.Block.{Block}
use Rattle.riichi_tiles.specs.declared.block.Block.TheVariants as block
use Rattle.riichi_tiles.specs.declared.meld.Meld.{Meld}
use Rattle.riichi_tiles.specs.declared.meld.Meld.TheVariants.{Chi, Pon, Kan, Ankan}
use Rattle.riichi_hand.specs.Rules.{Rules}
use Rattle.riichi_hand.specs.declared.fault.LineFault.{LineFault}
use Rattle.riichi_hand.specs.declared.job.Job.{Job}
use Rattle.riichi_hand.specs.declared.job.Job.TheVariants as job
use Rattle.riichi_hand.specs.declared.win.WinParts.{WinParts}
use Rattle.riichi_split.specs.declared.reading.Reading.{Reading}
use Rattle.riichi_split.specs.declared.reading.Reading.TheVariants as reading
use Rattle.riichi_split.specs.contracts.reading.ReadingPartialEq.TheImpl.{ghosts as readings}
use Rattle.riichi_shape.specs.declared.forms.FormDistances.{FormDistances}
use Rattle.riichi_yaku.specs.YakuSets.{is_yakuman}
use Rattle.riichi_score.specs.Scores.{completed_hand}
use Rattle.riichi_score.specs.declared.score.Score.{Score}
use Rattle.riichi_explain.specs.declared.base.BaseRule.{BaseRule}
use Rattle.riichi_explain.specs.declared.base.BaseRule.TheVariants.{Product, Capped, Raised, Limited, OfYakuman}
use Rattle.riichi_explain.specs.declared.base.Limit.{Limit}
use Rattle.riichi_explain.specs.declared.base.Limit.TheVariants as limit
use Rattle.riichi_explain.specs.declared.dora.DoraPart.{DoraPart}
use Rattle.riichi_explain.specs.declared.dora.DoraPart.TheVariants as dora
use Rattle.riichi_explain.specs.declared.dora.DoraRow.{DoraRow}
use Rattle.riichi_explain.specs.declared.fu.FuPart.{FuPart}
use Rattle.riichi_explain.specs.declared.fu.FuPart.TheVariants as fu
use Rattle.riichi_explain.specs.declared.fu.FuRow.{FuRow}
use Rattle.riichi_explain.specs.declared.han.HanPart.{HanPart}
use Rattle.riichi_explain.specs.declared.han.HanPart.TheVariants as han
use Rattle.riichi_explain.specs.declared.han.HanRow.{HanRow}
use Rattle.riichi_explain.specs.declared.payers.Payer.{Payer}
use Rattle.riichi_explain.specs.declared.payers.Payer.TheVariants as payer
use Rattle.riichi_explain.specs.declared.payers.PayRow.{PayRow}
use Rattle.riichi_explain.specs.declared.win.WonHand.{WonHand}
use Rattle.riichi_explain.specs.declared.win.WinExplanation.{WinExplanation}
use Rattle.riichi_explain.specs.declared.win.WinExplanation.TheVariants.{Won, NoYaku, NoWin}
use Rattle.riichi_explain.specs.declared.missed.MissedWin.{MissedWin}
use Rattle.riichi_explain.specs.Dora.{dora_total}
use Rattle.riichi_explain.specs.Fu.{fu_total}
use Rattle.riichi_explain.specs.Missed.{missed_waits, missed_lines}
use Rattle.riichi_explain.specs.declared.explaining.Shown.{Shown}
use Rattle.riichi_explain.specs.declared.explaining.Shown.TheVariants.{BestReading, EveryReading}
use Rattle.riichi_explain.specs.declared.ranked.RankedReading.{RankedReading}
use Rattle.riichi_explain.specs.Explanation.{rules_line, reason_lines, win_lines, AreOthers, IsBestText, IsWinText, IsJobText, IsOutcomeText}
use Rattle.riichi_explain.specs.Han.{han_rows}
use Rattle.riichi_explain.specs.Notes.{lacks_indicator, is_robbed_twice, are_dragons_called, are_winds_called, no_indicator, robbed, dragons_called, winds_called, note_if, other_note, note_lines}
use Rattle.riichi_explain.specs.Others.{scored_text, ranked_text, other_reading_text}
use Rattle.riichi_explain.specs.Win.{counted_fu, explained_reading}
use Rattle.riichi_explain.specs.Forms.{shanten_text, form_text, special_form_text as other_form, shanten_line}
use Rattle.riichi_explain.specs.Text as text
use Rattle.riichi_explain.specs.Words.{dora_words, dora_japanese, fu_words, fu_japanese, payer_words}
use Rattle.riichi_explain.specs.Waits as waits
use Rattle.riichi_explain.specs.Waits.{kind_waits}
use Rattle.riichi_explain.specs.declared.waits.KindWait.{KindWait}
use Rattle.riichi_explain.specs.declared.waits.WaitSorts.{WaitSorts}
use Rattle.riichi_text.specs.Lists.{joined}
use Rattle.riichi_text.specs.Tiles.{kind_text, letter_of, digit_of, run_text, two_text, three_text, four_text, block_text, meld_text}
use Rattle.riichi_explain.proofs.RefusalLines.{refusal_text-lines}
use Rattle.riichi_explain.proofs.RulesLines.{rules_line-lines}
use Rattle.riichi_text.proofs.Letters.{letter_high}
use Rattle.riichi_explain.proofs.PlainTexts.{plain, after, after3, after4, after5, byte-plain, flat_map-plain, joined-plain, decimal-plain, kind_text-plain, tiles_text-plain, named-plain, are_indented, either-plain, pass, lines-append, flat_map-lines}

-- ---- tiles

two_text-plain : (kind : ℕ) → plain (two_text kind) ≡ true
unfolding two_text
two_text-plain kind = byte-plain (digit_of kind) (kind_text kind) (omega arith) (kind_text-plain kind)

three_text-plain : (kind : ℕ) → plain (three_text kind) ≡ true
unfolding three_text
three_text-plain kind = byte-plain (digit_of kind) (two_text kind) (omega arith) (two_text-plain kind)

four_text-plain : (kind : ℕ) → plain (four_text kind) ≡ true
unfolding four_text
four_text-plain kind = byte-plain (digit_of kind) (three_text kind) (omega arith) (three_text-plain kind)

run_text-plain : (low : ℕ) → plain (run_text low) ≡ true
unfolding run_text
run_text-plain low =
    byte-plain (digit_of low) ((digit_of low + 1) ∷ (digit_of low + 2) ∷ letter_of low ∷ []) (omega arith) (byte-plain (digit_of low + 1) ((digit_of low + 2) ∷ letter_of low ∷ []) (omega arith)
    (byte-plain (digit_of low + 2) (letter_of low ∷ []) (omega arith) (byte-plain (letter_of low) [] (omega (arith, letter_high low)) refl)))

block_text-plain : (set : Block) → plain (block_text set) ≡ true
unfolding block_text
block_text-plain (block.Run low) = run_text-plain low
block_text-plain (block.Triplet kind) = three_text-plain kind
block_text-plain (block.Pair kind) = two_text-plain kind

meld_text-plain : (meld : Meld) → plain (meld_text meld) ≡ true
unfolding meld_text
meld_text-plain (Chi low) = run_text-plain low
meld_text-plain (Pon kind) = three_text-plain kind
meld_text-plain (Kan kind) = four_text-plain kind
meld_text-plain (Ankan kind) = four_text-plain kind

-- ---- the reading

set_text-plain : (set : Block) → plain (text.set_text set) ≡ true
unfolding text.set_text
set_text-plain set = after (block_text set) (codes " ") (block_text-plain set) refl

spaced_meld-plain : (meld : Meld) → plain (text.spaced_meld meld) ≡ true
unfolding text.spaced_meld
spaced_meld-plain meld = meld_text-plain meld

completes_text-plain : (winning : ℕ) (done : Block) → plain (text.completes_text winning done) ≡ true
unfolding text.completes_text
completes_text-plain winning done = after4 (codes ", ") (kind_text winning) (codes " completes ") (block_text done) refl (kind_text-plain winning) refl (block_text-plain done)

hand_text-plain : (win : WinParts) → plain (text.hand_text win) ≡ true
unfolding text.hand_text
hand_text-plain win = tiles_text-plain (slice_index (completed_hand win))

reading_text-plain : (read : Reading) (win : WinParts) → plain (text.reading_text read win) ≡ true
unfolding text.reading_text
reading_text-plain (reading.Standard sets pair done) win =
    let melds = flat_map text.spaced_meld win.melds in
    let completes = text.completes_text win.winning done in
    after4 (flat_map text.set_text sets) (two_text pair) melds completes (flat_map-plain text.set_text sets set_text-plain) (two_text-plain pair)
    (flat_map-plain text.spaced_meld win.melds spaced_meld-plain) (completes_text-plain win.winning done)
reading_text-plain reading.SevenPairs win =
    after3 (codes "seven pairs ") (text.hand_text win) (text.completes_text win.winning (block.Pair win.winning)) refl (hand_text-plain win) (completes_text-plain win.winning (block.Pair win.winning))
reading_text-plain reading.Orphans win = after4 (codes "thirteen orphans ") (text.hand_text win) (codes ", won by ") (kind_text win.winning) refl (hand_text-plain win) refl (kind_text-plain win.winning)

reading_line-lines : (read : Reading) (win : WinParts) → are_indented (text.reading_line read win) ≡ true
unfolding text.labelled_line
reading_line-lines read win = pass (text.reading_text read win ++ []) text.line_feed (after (text.reading_text read win) [] (reading_text-plain read win) refl)

no_yaku_line-lines : (read : Reading) (win : WinParts) → are_indented (text.no_yaku_line read win) ≡ true
unfolding text.labelled_line
no_yaku_line-lines read win = pass (text.reading_text read win ++ codes ": no yaku") text.line_feed (after (text.reading_text read win) (codes ": no yaku") (reading_text-plain read win) refl)

other_line-lines : (said : List ℕ) (read : Reading) (win : WinParts) → plain said ≡ true → are_indented (text.other_line said read win) ≡ true
unfolding text.labelled_line
other_line-lines said read win p = pass (text.reading_text read win ++ said) text.line_feed (after (text.reading_text read win) said (reading_text-plain read win) p)

-- ---- rows

sum_text-plain : (rows sum : ℕ) → plain (text.sum_text rows sum) ≡ true
unfolding text.sum_text
sum_text-plain rows sum = elim (nat_lt 1 rows) as (λ test. plain (cond test (codes ": " ++ decimal sum) []) ≡ true) [ true ↦ decimal-plain sum | false ↦ refl ]

han_part_text-plain : (part : HanPart) → plain (text.han_part_text part) ≡ true
unfolding text.han_part_text
han_part_text-plain (han.Yaku yaku) = named-plain yaku
han_part_text-plain (han.Yakuman yaku) = named-plain yaku
han_part_text-plain han.Dora = refl

han_number-plain : (part : HanPart) (number : ℕ) → plain (text.han_number part number) ≡ true
unfolding text.han_number
han_number-plain (han.Yaku yaku) number = decimal-plain number
han_number-plain (han.Yakuman yaku) number = refl
han_number-plain han.Dora number = decimal-plain number

han_text-plain : (row : HanRow) → plain (text.han_row_text row) ≡ true
unfolding text.han_row_text
han_text-plain row = after (text.han_part_text row.part) (text.han_number row.part row.han) (han_part_text-plain row.part) (han_number-plain row.part row.han)

han_sum-plain : (yakuman : Bool) (rows sum : ℕ) → plain (text.han_sum yakuman rows sum) ≡ true
unfolding text.han_sum
han_sum-plain true rows sum = refl
han_sum-plain false rows sum = sum_text-plain rows sum

han_line-lines : (yakuman : Bool) (number : ℕ) (rows : List HanRow) → are_indented (text.han_line yakuman number rows) ≡ true
unfolding text.han_line text.han_label
han_line-lines true number rows =
    let sum = text.han_sum true (length rows) number in
    pass (joined (codes ", ") (map text.han_row_text rows) ++ sum) text.line_feed (after (joined (codes ", ") (map text.han_row_text rows)) sum (joined-plain (codes ", ") text.han_row_text rows refl han_text-plain) (han_sum-plain true (length rows) number))
han_line-lines false number rows =
    let sum = text.han_sum false (length rows) number in
    pass (joined (codes ", ") (map text.han_row_text rows) ++ sum) text.line_feed (after (joined (codes ", ") (map text.han_row_text rows)) sum (joined-plain (codes ", ") text.han_row_text rows refl han_text-plain) (han_sum-plain false (length rows) number))

dora_part_text-plain : (part : DoraPart) (number : ℕ) → plain (text.dora_part_text part number) ≡ true
unfolding text.dora_part_text text.dora_part_words text.beside dora_words dora_japanese
dora_part_text-plain dora.Indicated number = refl
dora_part_text-plain dora.Below number = refl
dora_part_text-plain dora.RedFives number = elim (nat_eq number 1) as (λ test. plain (cond test (codes " red five") (text.dora_part_words dora.RedFives)) ≡ true) [ true ↦ refl | false ↦ refl ]

dora_text-plain : (row : DoraRow) → plain (text.dora_row_text row) ≡ true
unfolding text.dora_row_text
dora_text-plain row = after (decimal row.han) (text.dora_part_text row.part row.han) (decimal-plain row.han) (dora_part_text-plain row.part row.han)

dora_line-lines : (rows : List DoraRow) → are_indented (text.dora_line rows) ≡ true
unfolding text.dora_line
dora_line-lines rows =
    let parts = joined (codes ", ") (map text.dora_row_text rows) in
    pass (decimal (dora_total rows) ++ codes ": " ++ parts) text.line_feed (after3 (decimal (dora_total rows)) (codes ": ") parts (decimal-plain (dora_total rows)) refl (joined-plain (codes ", ") text.dora_row_text rows refl dora_text-plain))

dora_line_if-lines : (rows : List DoraRow) → are_indented (text.dora_line_if rows) ≡ true
unfolding text.dora_line_if
dora_line_if-lines [] = refl
dora_line_if-lines (row ∷ rows) = dora_line-lines (row ∷ rows)

fu_part_text-plain : (part : FuPart) → plain (text.fu_part_text part) ≡ true
unfolding text.fu_part_text text.fu_tiles text.beside fu_words fu_japanese
fu_part_text-plain fu.Base = refl
fu_part_text-plain fu.ConcealedRon = refl
fu_part_text-plain fu.SelfDraw = refl
fu_part_text-plain (fu.Triplet kind true) = after (three_text kind) (codes " (ankou)") (three_text-plain kind) refl
fu_part_text-plain (fu.Triplet kind false) = after (three_text kind) (codes " (minkou)") (three_text-plain kind) refl
fu_part_text-plain (fu.Kong kind true) = after (four_text kind) (codes " (ankan)") (four_text-plain kind) refl
fu_part_text-plain (fu.Kong kind false) = after (four_text kind) (codes " (minkan)") (four_text-plain kind) refl
fu_part_text-plain (fu.DragonPair kind) = after (two_text kind) [] (two_text-plain kind) refl
fu_part_text-plain (fu.SeatWindPair kind) = after (two_text kind) [] (two_text-plain kind) refl
fu_part_text-plain (fu.PrevalentWindPair kind) = after (two_text kind) [] (two_text-plain kind) refl
fu_part_text-plain fu.ClosedWait = refl
fu_part_text-plain fu.EdgeWait = refl
fu_part_text-plain fu.PairWait = refl
fu_part_text-plain fu.OpenRon = refl
fu_part_text-plain fu.SevenPairs = refl

fu_text-plain : (row : FuRow) → plain (text.fu_row_text row) ≡ true
unfolding text.fu_row_text
fu_text-plain row = after3 (decimal row.fu) (codes " ") (text.fu_part_text row.part) (decimal-plain row.fu) refl (fu_part_text-plain row.part)

rounded_text-plain : (sum fu : ℕ) → plain (text.rounded_text sum fu) ≡ true
unfolding text.rounded_text text.rounded_to
rounded_text-plain sum fu = elim (nat_eq sum fu) as (λ test. plain (cond test [] (codes ", rounded to " ++ decimal fu)) ≡ true) [ true ↦ refl | false ↦ decimal-plain fu ]

fu_line-lines : (rows : List FuRow) (number : ℕ) → are_indented (text.fu_line rows number) ≡ true
unfolding text.fu_line
fu_line-lines rows number =
    let sum = text.sum_text (length rows) (fu_total rows) in
    let rounded = text.rounded_text (fu_total rows) number in
    let parts = joined (codes ", ") (map text.fu_row_text rows) in
    pass (parts ++ sum ++ rounded) text.line_feed (after3 parts sum rounded (joined-plain (codes ", ") text.fu_row_text rows refl fu_text-plain) (sum_text-plain (length rows) (fu_total rows)) (rounded_text-plain (fu_total rows) number))

fu_line_if-lines : (yakuman : Bool) (rows : List FuRow) (number : ℕ) → are_indented (text.fu_line_if yakuman rows number) ≡ true
unfolding text.fu_line_if
fu_line_if-lines true rows number = refl
fu_line_if-lines false rows number = fu_line-lines rows number

-- ---- base points and payments

product_text-plain : (han fu product : ℕ) → plain (text.product_text han fu product) ≡ true
unfolding text.product_text
product_text-plain han fu product =
    after5 (decimal fu) (codes " x 2^") (decimal (han + 2)) (codes " = ") (decimal product) (decimal-plain fu) refl (decimal-plain (han + 2)) refl (decimal-plain product)

limit_text-plain : (which : Limit) → plain (text.limit_text which) ≡ true
unfolding text.limit_text text.limit_name
limit_text-plain limit.Mangan = decimal-plain 2000
limit_text-plain limit.Haneman = decimal-plain 3000
limit_text-plain limit.Baiman = decimal-plain 4000
limit_text-plain limit.Sanbaiman = decimal-plain 6000
limit_text-plain limit.Yakuman = decimal-plain 8000

han_words-plain : (han : ℕ) → plain (text.han_count_text han) ≡ true
unfolding text.han_count_text
han_words-plain han = elim (nat_eq han 0) as (λ test. plain (cond test [] (decimal han ++ codes " han, ")) ≡ true) [ true ↦ refl | false ↦ after (decimal han) (codes " han, ") (decimal-plain han) refl ]

limits_text-plain : (limits : ℕ) → plain (text.limits_text limits) ≡ true
unfolding text.limits_text
limits_text-plain limits =
    let often = after (decimal limits) (codes " x ") (decimal-plain limits) refl in
    after3 (cond (limits == 1) [] (decimal limits ++ codes " x ")) (codes "yakuman ") (decimal (8000 * limits))
    (either-plain (limits == 1) [] (decimal limits ++ codes " x ") refl often) refl (decimal-plain (8000 * limits))

base_text-plain : (rule : BaseRule) (han fu : ℕ) → plain (text.base_text rule han fu) ≡ true
unfolding text.base_text
base_text-plain (Product product) han fu = product_text-plain han fu product
base_text-plain (Capped product) han fu = after (text.product_text han fu product) (codes ", mangan 2000") (product_text-plain han fu product) refl
base_text-plain (Raised product) han fu = after (text.product_text han fu product) (codes ", raised to mangan 2000 (kiriage)") (product_text-plain han fu product) refl
base_text-plain (Limited which) han fu = after (text.han_count_text han) (text.limit_text which) (han_words-plain han) (limit_text-plain which)
base_text-plain (OfYakuman limits) han fu = limits_text-plain limits

base_line-lines : (rule : BaseRule) (han fu : ℕ) → are_indented (text.base_line rule han fu) ≡ true
unfolding text.base_line
base_line-lines rule han fu = pass (text.base_text rule han fu) text.line_feed (base_text-plain rule han fu)

added_text-plain : (what : List ℕ) (points more : ℕ) → plain what ≡ true → plain (text.added_text what points more) ≡ true
unfolding text.added_text text.sum_of_two
added_text-plain what points more p =
    elim (nat_eq more 0) as (λ test. plain (cond test (decimal points) (decimal points ++ codes " + " ++ decimal more ++ what ++ decimal (points + more))) ≡ true) [
      | true ↦ decimal-plain points
      | false ↦ after5 (decimal points) (codes " + ") (decimal more) what (decimal (points + more)) (decimal-plain points) refl (decimal-plain more) p (decimal-plain (points + more))
    ]

payer_name-plain : (who : Payer) → plain (text.payer_name who) ≡ true
unfolding text.payer_name payer_words
payer_name-plain payer.Discarder = refl
payer_name-plain payer.Dealer = refl
payer_name-plain payer.TwoOthers = refl
payer_name-plain payer.ThreeOthers = refl

each_text-plain : (who : Payer) → plain (text.each_text who) ≡ true
unfolding text.each_text
each_text-plain payer.Discarder = refl
each_text-plain payer.Dealer = refl
each_text-plain payer.TwoOthers = refl
each_text-plain payer.ThreeOthers = refl

pay_text-plain : (row : PayRow) → plain (text.pay_row_text row) ≡ true
unfolding text.pay_row_text
pay_text-plain row =
    let added = text.added_text (codes " for counters = ") row.points row.counters in
    after3 (text.payer_name row.payer) added (text.each_text row.payer) (payer_name-plain row.payer) (added_text-plain (codes " for counters = ") row.points row.counters refl) (each_text-plain row.payer)

pay_line-lines : (rows : List PayRow) → are_indented (text.pay_line rows) ≡ true
unfolding text.pay_line
pay_line-lines rows = pass (joined (codes ", ") (map text.pay_row_text rows)) text.line_feed (joined-plain (codes ", ") text.pay_row_text rows refl pay_text-plain)

gain_line-lines : (gain sticks : ℕ) → are_indented (text.gain_line gain sticks) ≡ true
unfolding text.gain_line
gain_line-lines gain sticks =
    pass (text.added_text (codes " for sticks = ") (gain - 1000 * sticks) (1000 * sticks)) text.line_feed (added_text-plain (codes " for sticks = ") (gain - 1000 * sticks) (1000 * sticks) refl)

-- ---- the whole

won_hand_text-lines : (hand : WonHand) → are_indented (text.won_hand_text hand) ≡ true
unfolding text.won_hand_text
won_hand_text-lines hand =
    let yakuman = is_yakuman hand.score.yaku in
    let reading = text.reading_line hand.reading hand.win in
    let han = text.han_line yakuman hand.score.han hand.han.items in
    let dora = text.dora_line_if hand.dora.items in
    let fu = text.fu_line_if yakuman hand.fu.items hand.score.fu in
    let base = text.base_line hand.base hand.score.han hand.score.fu in
    let pay = text.pay_line hand.payers.items in
    lines-append (reading ++ han ++ dora ++ fu ++ base ++ pay) (text.gain_line hand.score.gain hand.win.sticks)
    (lines-append (reading ++ han ++ dora ++ fu ++ base) pay
    (lines-append (reading ++ han ++ dora ++ fu) base
    (lines-append (reading ++ han ++ dora) fu
    (lines-append (reading ++ han) dora (lines-append reading han (reading_line-lines hand.reading hand.win) (han_line-lines yakuman hand.score.han hand.han.items))
    (dora_line_if-lines hand.dora.items))
    (fu_line_if-lines yakuman hand.fu.items hand.score.fu))
    (base_line-lines hand.base hand.score.han hand.score.fu))
    (pay_line-lines hand.payers.items))
    (gain_line-lines hand.score.gain hand.win.sticks)

-- ---- how far from each form

shanten_text-plain : (lack : ℕ) → plain (shanten_text lack) ≡ true
unfolding shanten_text
shanten_text-plain lack = elim (nat_eq lack 0) as (λ test. plain (cond test (codes "-1") (decimal (lack - 1))) ≡ true) [ true ↦ refl | false ↦ decimal-plain (lack - 1) ]

form_text-plain : (name : List ℕ) (lack : ℕ) → plain name ≡ true → plain (form_text name lack) ≡ true
unfolding form_text
form_text-plain name lack p = after name (shanten_text lack) p (shanten_text-plain lack)

other_form-plain : (name : List ℕ) (lack : Option ℕ) → plain name ≡ true → plain (other_form name lack) ≡ true
unfolding other_form
other_form-plain name None p = refl
other_form-plain name (Some lack) p = form_text-plain name lack p

shanten_line-lines : (forms : FormDistances) → are_indented (shanten_line forms) ≡ true
unfolding shanten_line
shanten_line-lines forms =
    let pairs = other_form (codes ", seven pairs ") forms.seven_pairs in
    let orphans = other_form (codes ", thirteen orphans ") forms.thirteen_orphans in
    let standard = form_text (codes "sets and a pair ") forms.sets_and_pair in
    pass (standard ++ pairs ++ orphans) (10 ∷ []) (after3 standard pairs orphans (form_text-plain (codes "sets and a pair ") forms.sets_and_pair refl)
    (other_form-plain (codes ", seven pairs ") forms.seven_pairs refl) (other_form-plain (codes ", thirteen orphans ") forms.thirteen_orphans refl))

-- ---- waits

word_if-plain : (there : Bool) (word : List ℕ) → plain word ≡ true → plain (waits.word_if there word) ≡ true
unfolding waits.word_if
word_if-plain true word p = p
word_if-plain false word p = refl

run_words-plain : (sorts : WaitSorts) → plain (waits.run_words sorts) ≡ true
unfolding waits.run_words
run_words-plain sorts =
    let two_sided = waits.word_if sorts.two_sided (codes ", two-sided (ryanmen)") in
    let closed = waits.word_if sorts.closed (codes ", closed (kanchan)") in
    let edge = waits.word_if sorts.edge (codes ", edge (penchan)") in
    after3 two_sided closed edge (word_if-plain sorts.two_sided (codes ", two-sided (ryanmen)") refl) (word_if-plain sorts.closed (codes ", closed (kanchan)") refl) (word_if-plain sorts.edge (codes ", edge (penchan)") refl)

other_words-plain : (sorts : WaitSorts) → plain (waits.other_words sorts) ≡ true
unfolding waits.other_words
other_words-plain sorts =
    let pair = waits.word_if sorts.pair (codes ", pair (tanki)") in
    let two_pairs = waits.word_if sorts.two_pairs (codes ", two pairs (shanpon)") in
    let orphans = waits.word_if sorts.orphans (codes ", thirteen orphans") in
    after3 pair two_pairs orphans (word_if-plain sorts.pair (codes ", pair (tanki)") refl) (word_if-plain sorts.two_pairs (codes ", two pairs (shanpon)") refl) (word_if-plain sorts.orphans (codes ", thirteen orphans") refl)

left_text-plain : (kind left : ℕ) → plain (waits.kind_left_text kind left) ≡ true
unfolding waits.kind_left_text
left_text-plain kind left = after4 (kind_text kind) (codes " ") (decimal left) (codes " left") (kind_text-plain kind) refl (decimal-plain left) refl

wait_text-plain : (row : KindWait) → plain (waits.wait_text row) ≡ true
unfolding waits.wait_text
wait_text-plain row =
    after3 (waits.kind_left_text row.kind row.left) (waits.run_words row.sorts) (waits.other_words row.sorts) (left_text-plain row.kind row.left) (run_words-plain row.sorts) (other_words-plain row.sorts)

waits_line-lines : (rows : List KindWait) → are_indented (waits.waits_line rows) ≡ true
unfolding waits.waits_line
waits_line-lines [] = refl
waits_line-lines (row ∷ rows) =
    pass (joined (codes "; ") (map waits.wait_text (row ∷ rows))) (10 ∷ []) (joined-plain (codes "; ") waits.wait_text (row ∷ rows) refl wait_text-plain)

missed_waits-lines : (rows : List KindWait) → are_indented (missed_waits rows) ≡ true
unfolding missed_waits
missed_waits-lines [] = refl
missed_waits-lines (row ∷ rows) =
    pass (codes "waits   " ++ joined (codes "; ") (map waits.wait_text (row ∷ rows))) (10 ∷ []) (joined-plain (codes "; ") waits.wait_text (row ∷ rows) refl wait_text-plain)

missed_lines-lines : (missed : MissedWin) → are_indented (missed_lines missed) ≡ true
unfolding missed_lines
missed_lines-lines missed = lines-append (shanten_line missed.forms) (missed_waits missed.waits.items) (shanten_line-lines missed.forms) (missed_waits-lines missed.waits.items)

-- ---- the other readings

scored_text-lines : (read : Reading) (score : Score) (win : WinParts) → are_indented (scored_text read score win) ≡ true
unfolding scored_text
scored_text-lines read score win =
    let yakuman = is_yakuman score.yaku in
    let line = text.other_line [] read win in
    let han = text.han_line yakuman score.han (han_rows score.yaku win) in
    let fu = text.fu_line_if yakuman (counted_fu yakuman read win) score.fu in
    lines-append (line ++ han ++ fu) (text.gain_line score.gain win.sticks)
    (lines-append (line ++ han) fu (lines-append line han (other_line-lines [] read win refl) (han_line-lines yakuman score.han (han_rows score.yaku win)))
    (fu_line_if-lines yakuman (counted_fu yakuman read win) score.fu))
    (gain_line-lines score.gain win.sticks)

ranked_text-lines : (win : WinParts) (read : Reading) (score : Option Score) → are_indented (ranked_text win read score) ≡ true
unfolding ranked_text
ranked_text-lines win read None = other_line-lines (codes ": no yaku") read win refl
ranked_text-lines win read (Some score) = scored_text-lines read score win

unless-lines : (is_shown : Bool) (lines : List ℕ) → are_indented lines ≡ true → are_indented (cond is_shown [] lines) ≡ true
unless-lines true lines p = refl
unless-lines false lines p = p

others-lines : (best : Option Reading) (win : WinParts) (said : List ℕ) → AreOthers best win said → are_indented said ≡ true
others-lines None win said are = ap are_indented are
others-lines (Some best) win said are =
    ap are_indented are.text_is ∙ flat_map-lines (other_reading_text best win) are.ranked
    (λ one. unless-lines (readings.eq one.reading best) (ranked_text win one.reading one.score) (ranked_text-lines win one.reading one.score))

-- ---- notes

note_if-lines : (is_told : Bool) (words : List ℕ) → are_indented words ≡ true → are_indented (note_if is_told words) ≡ true
note_if-lines true words p = p
note_if-lines false words p = refl

either-lines : (test : Bool) (one other : List ℕ) → are_indented one ≡ true → are_indented other ≡ true → are_indented (cond test one other) ≡ true
either-lines true one other p q = p
either-lines false one other p q = q

other_note-lines : (win : WinParts) → are_indented (other_note win) ≡ true
other_note-lines win =
    either-lines (lacks_indicator win) no_indicator _ refl
    (either-lines (are_dragons_called win.melds) dragons_called _ refl (either-lines (are_winds_called win.melds) winds_called [] refl refl))

note_lines-lines : (win : WinParts) → are_indented (note_lines win) ≡ true
unfolding note_lines
note_lines-lines win =
    lines-append (note_if (is_robbed_twice win) robbed) (other_note win) (note_if-lines (is_robbed_twice win) robbed refl) (other_note-lines win)

-- ---- every explanation

reason_lines-lines : (explanation : WinExplanation) (win : WinParts) → are_indented (reason_lines explanation win) ≡ true
reason_lines-lines (Won hand) win = won_hand_text-lines hand
reason_lines-lines (NoYaku ranked) win = flat_map-lines (λ (one : RankedReading). text.no_yaku_line one.reading win) ranked.items (λ one. no_yaku_line-lines one.reading win)
reason_lines-lines (NoWin missed) win = missed_lines-lines missed

win_lines-lines : (explanation : WinExplanation) (win : WinParts) → are_indented (win_lines explanation win) ≡ true
win_lines-lines explanation win =
    lines-append (rules_line win.rules) (note_lines win ++ reason_lines explanation win) (rules_line-lines win.rules)
    (lines-append (note_lines win) (reason_lines explanation win) (note_lines-lines win) (reason_lines-lines explanation win))

best_text-lines : (win : WinParts) (said : List ℕ) → IsBestText win said → are_indented said ≡ true
best_text-lines win said is = ap are_indented is.text_is ∙ win_lines-lines is.explanation win

win_text-lines : (shown : Shown) (win : WinParts) (said : List ℕ) → IsWinText shown win said → are_indented said ≡ true
win_text-lines BestReading win said is = best_text-lines win said is
win_text-lines EveryReading win said is =
    ap are_indented is.text_is ∙ lines-append is.best is.others (best_text-lines win is.best is.is_best) (others-lines (explained_reading is.is_best.explanation) win is.others is.are_others)

pub job_text-lines : (shown : Shown) (job : Job) (said : List ℕ) → IsJobText shown job said → are_indented said ≡ true
job_text-lines shown (job.Win win) said is = win_text-lines shown win said is
job_text-lines shown (job.Waits hand) said is = ap are_indented is ∙ waits_line-lines (kind_waits hand)
job_text-lines shown (job.Shape shape) said is = ap are_indented is.text_is ∙ shanten_line-lines is.forms

-- ---- any outcome

pub outcome_text-lines : (shown : Shown) (rules : Rules) (line : List ℕ) (outcome : Result (Option Job) LineFault) (said : List ℕ) → IsOutcomeText shown rules line outcome said → are_indented said ≡ true
outcome_text-lines shown rules line (Ok None) said is = ap are_indented is
outcome_text-lines shown rules line (Ok (Some job)) said is = job_text-lines shown job said is
outcome_text-lines shown rules line (Err fault) said is = refusal_text-lines rules line fault said is
