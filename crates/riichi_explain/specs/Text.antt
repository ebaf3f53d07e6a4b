-- The text of a win's explanation: lines that begin with two spaces.
use Rattle.std.specs.Prelude.{ℕ, ◌+◌, ◌-◌, ◌*◌, ◌==◌, nat_lt, Bool, List, [], ◌∷◌, ◌++◌, length, map, slice_index, codes, decimal, if◌then◌else◌}
use Rattle.std.specs.List.{flat_map}
use Rattle.riichi_tiles.specs.Printing.{tiles_text}
use Rattle.riichi_tiles.specs.declared.block.Block.{Block}
use Rattle.riichi_tiles.specs.declared.block.Block.TheVariants as block
use Rattle.riichi_tiles.specs.declared.meld.Meld.{Meld}
use Rattle.riichi_hand.specs.declared.win.WinParts.{WinParts}
use Rattle.riichi_split.specs.declared.reading.Reading.{Reading}
use Rattle.riichi_split.specs.declared.reading.Reading.TheVariants as reading
use Rattle.riichi_names.specs.Names.{named}
use Rattle.riichi_yaku.specs.YakuSets.{is_yakuman}
use Rattle.riichi_score.specs.Scores.{completed_hand}
use Rattle.riichi_explain.specs.declared.base.BaseRule.{BaseRule}
use Rattle.riichi_explain.specs.declared.base.BaseRule.TheVariants.{Product, Capped, Raised, Limited, OfYakuman}
use Rattle.riichi_explain.specs.declared.base.Limit.{Limit}
use Rattle.riichi_explain.specs.declared.base.Limit.TheVariants as limit
use Rattle.riichi_explain.specs.declared.dora.DoraPart.{DoraPart}
use Rattle.riichi_explain.specs.declared.dora.DoraPart.TheVariants as dora
use Rattle.riichi_explain.specs.declared.dora.DoraRow.{DoraRow}
use Rattle.riichi_explain.specs.declared.fu.FuPart.{FuPart}
use Rattle.riichi_explain.specs.declared.fu.FuPart.TheVariants as fu
use Rattle.riichi_explain.specs.declared.fu.FuRow.{FuRow}
use Rattle.riichi_explain.specs.declared.han.HanPart.{HanPart}
use Rattle.riichi_explain.specs.declared.han.HanPart.TheVariants as han
use Rattle.riichi_explain.specs.declared.han.HanRow.{HanRow}
use Rattle.riichi_explain.specs.declared.payers.Payer.{Payer}
use Rattle.riichi_explain.specs.declared.payers.Payer.TheVariants as payer
use Rattle.riichi_explain.specs.declared.payers.PayRow.{PayRow}
use Rattle.riichi_explain.specs.declared.win.WonHand.{WonHand}
use Rattle.riichi_explain.specs.Base.{limit_points}
use Rattle.riichi_explain.specs.Dora.{dora_total}
use Rattle.riichi_explain.specs.Fu.{fu_total}
use Rattle.riichi_explain.specs.Words.{dora_words, dora_japanese, fu_words, fu_japanese, payer_words}
use Rattle.riichi_text.specs.Lists.{joined}
use Rattle.riichi_text.specs.Tiles.{kind_text, block_text, meld_text, two_text, three_text, four_text}

-- a line ends with a line feed
abbrev pub line_feed : List ℕ
line_feed = 10 ∷ []

-- ---- the reading

unfoldable pub set_text : Block → List ℕ
set_text set = block_text set ++ codes " "

unfoldable pub spaced_meld : Meld → List ℕ
spaced_meld meld = codes " " ++ meld_text meld

-- the winning tile, and the block that it completes
unfoldable pub completes_text : ℕ → Block → List ℕ
completes_text winning done = codes ", " ++ kind_text winning ++ codes " completes " ++ block_text done

-- the concealed tiles with the winning tile
unfoldable pub hand_text : WinParts → List ℕ
hand_text win = tiles_text (slice_index (completed_hand win))

-- the sets in hand, the pair and the melds; or seven pairs, or thirteen orphans
unfoldable pub reading_text : Reading → WinParts → List ℕ
reading_text (reading.Standard sets pair done) win =
    flat_map set_text sets ++ two_text pair ++ flat_map spaced_meld win.melds ++ completes_text win.winning done
reading_text reading.SevenPairs win = codes "seven pairs " ++ hand_text win ++ completes_text win.winning (block.Pair win.winning)
reading_text reading.Orphans win = codes "thirteen orphans " ++ hand_text win ++ codes ", won by " ++ kind_text win.winning

-- a reading behind its label, and what is said of it
unfoldable pub labelled_line : List ℕ → List ℕ → Reading → WinParts → List ℕ
labelled_line label said read win = label ++ reading_text read win ++ said ++ line_feed

abbrev pub reading_line : Reading → WinParts → List ℕ
reading_line read win = labelled_line (codes "  reading ") [] read win

-- the line of a reading that has no yaku
abbrev pub no_yaku_line : Reading → WinParts → List ℕ
no_yaku_line read win = labelled_line (codes "  reading ") (codes ": no yaku") read win

-- the line of a reading that isn't the one that is shown
abbrev pub other_line : List ℕ → Reading → WinParts → List ℕ
other_line said read win = labelled_line (codes "  other   ") said read win

-- ---- rows

-- two or more rows are followed by their sum
unfoldable pub sum_text : ℕ → ℕ → List ℕ
sum_text rows sum = if nat_lt 1 rows then codes ": " ++ decimal sum else []

unfoldable pub han_part_text : HanPart → List ℕ
han_part_text (han.Yaku yaku) = named yaku
han_part_text (han.Yakuman yaku) = named yaku
han_part_text han.Dora = codes "dora"

-- a yakuman has no number of han
unfoldable pub han_number : HanPart → ℕ → List ℕ
han_number (han.Yaku yaku) han = codes " " ++ decimal han
han_number (han.Yakuman yaku) han = []
han_number han.Dora han = codes " " ++ decimal han

unfoldable pub han_row_text : HanRow → List ℕ
han_row_text row = han_part_text row.part ++ han_number row.part row.han

unfoldable pub han_label : Bool → List ℕ
han_label yakuman = if yakuman then codes "  yakuman " else codes "  han     "

unfoldable pub han_sum : Bool → ℕ → ℕ → List ℕ
han_sum yakuman rows han = if yakuman then [] else sum_text rows han

unfoldable pub han_line : Bool → ℕ → List HanRow → List ℕ
han_line yakuman han rows =
    han_label yakuman ++ joined (codes ", ") (map han_row_text rows) ++ han_sum yakuman (length rows) han ++ line_feed

-- a Japanese name in brackets, where there is one
unfoldable pub beside : List ℕ → List ℕ
beside [] = []
beside (byte ∷ bytes) = codes " (" ++ (byte ∷ bytes) ++ codes ")"

unfoldable pub dora_part_words : DoraPart → List ℕ
dora_part_words part = codes " " ++ dora_words part ++ beside (dora_japanese part)

unfoldable pub dora_part_text : DoraPart → ℕ → List ℕ
dora_part_text dora.Indicated han = dora_part_words dora.Indicated
dora_part_text dora.Below han = dora_part_words dora.Below
dora_part_text dora.RedFives han = if han == 1 then codes " red five" else dora_part_words dora.RedFives

unfoldable pub dora_row_text : DoraRow → List ℕ
dora_row_text row = decimal row.han ++ dora_part_text row.part row.han

-- how many dora there are, and where they come from
unfoldable pub dora_line : List DoraRow → List ℕ
dora_line rows = codes "  dora    " ++ decimal (dora_total rows) ++ codes ": " ++ joined (codes ", ") (map dora_row_text rows) ++ line_feed

-- where there are none, there is no line
unfoldable pub dora_line_if : List DoraRow → List ℕ
dora_line_if [] = []
dora_line_if (row ∷ rows) = dora_line (row ∷ rows)

-- the tiles of what earns fu, where these are of one kind
unfoldable pub fu_tiles : FuPart → List ℕ
fu_tiles fu.Base = []
fu_tiles fu.ConcealedRon = []
fu_tiles fu.SelfDraw = []
fu_tiles (fu.Triplet kind concealed) = codes " " ++ three_text kind
fu_tiles (fu.Kong kind concealed) = codes " " ++ four_text kind
fu_tiles (fu.DragonPair kind) = codes " " ++ two_text kind
fu_tiles (fu.SeatWindPair kind) = codes " " ++ two_text kind
fu_tiles (fu.PrevalentWindPair kind) = codes " " ++ two_text kind
fu_tiles fu.ClosedWait = []
fu_tiles fu.EdgeWait = []
fu_tiles fu.PairWait = []
fu_tiles fu.OpenRon = []
fu_tiles fu.SevenPairs = []

unfoldable pub fu_part_text : FuPart → List ℕ
fu_part_text part = fu_words part ++ fu_tiles part ++ beside (fu_japanese part)

unfoldable pub fu_row_text : FuRow → List ℕ
fu_row_text row = decimal row.fu ++ codes " " ++ fu_part_text row.part

unfoldable pub rounded_to : ℕ → List ℕ
rounded_to fu = codes ", rounded to " ++ decimal fu

unfoldable pub rounded_text : ℕ → ℕ → List ℕ
rounded_text sum fu = if sum == fu then [] else rounded_to fu

unfoldable pub fu_line : List FuRow → ℕ → List ℕ
fu_line rows fu =
    codes "  fu      " ++ joined (codes ", ") (map fu_row_text rows) ++ sum_text (length rows) (fu_total rows) ++ rounded_text (fu_total rows) fu ++ line_feed

-- ---- base points

unfoldable pub product_text : ℕ → ℕ → ℕ → List ℕ
product_text han fu product = decimal fu ++ codes " x 2^" ++ decimal (han + 2) ++ codes " = " ++ decimal product

unfoldable pub limit_name : Limit → List ℕ
limit_name limit.Mangan = codes "mangan"
limit_name limit.Haneman = codes "haneman"
limit_name limit.Baiman = codes "baiman"
limit_name limit.Sanbaiman = codes "sanbaiman"
limit_name limit.Yakuman = codes "yakuman"

unfoldable pub limit_text : Limit → List ℕ
limit_text which = limit_name which ++ codes " " ++ decimal (limit_points which)

-- how often the limit of a yakuman is paid, where that is more than once
unfoldable pub limits_text : ℕ → List ℕ
limits_text limits = (if limits == 1 then [] else decimal limits ++ codes " x ") ++ codes "yakuman " ++ decimal (8000 * limits)

-- a yakuman has no number of han
unfoldable pub han_count_text : ℕ → List ℕ
han_count_text han = if han == 0 then [] else decimal han ++ codes " han, "

unfoldable pub base_text : BaseRule → ℕ → ℕ → List ℕ
base_text (Product product) han fu = product_text han fu product
base_text (Capped product) han fu = product_text han fu product ++ codes ", mangan 2000"
base_text (Raised product) han fu = product_text han fu product ++ codes ", raised to mangan 2000 (kiriage)"
base_text (Limited which) han fu = han_count_text han ++ limit_text which
base_text (OfYakuman limits) han fu = limits_text limits

unfoldable pub base_line : BaseRule → ℕ → ℕ → List ℕ
base_line rule han fu = codes "  base    " ++ base_text rule han fu ++ line_feed

-- ---- payments

unfoldable pub payer_name : Payer → List ℕ
payer_name payer = payer_words payer ++ codes " "

unfoldable pub each_text : Payer → List ℕ
each_text payer.Discarder = []
each_text payer.Dealer = []
each_text payer.TwoOthers = codes " each"
each_text payer.ThreeOthers = codes " each"

-- an amount, and what is added to it for counters or sticks
unfoldable pub sum_of_two : List ℕ → ℕ → ℕ → List ℕ
sum_of_two what points more = decimal points ++ codes " + " ++ decimal more ++ what ++ decimal (points + more)

unfoldable pub added_text : List ℕ → ℕ → ℕ → List ℕ
added_text what points more = if more == 0 then decimal points else sum_of_two what points more

unfoldable pub pay_row_text : PayRow → List ℕ
pay_row_text row = payer_name row.payer ++ added_text (codes " for counters = ") row.points row.counters ++ each_text row.payer

unfoldable pub pay_line : List PayRow → List ℕ
pay_line rows = codes "  pays    " ++ joined (codes ", ") (map pay_row_text rows) ++ line_feed

-- what is paid, and the riichi sticks
unfoldable pub gain_line : ℕ → ℕ → List ℕ
gain_line gain sticks = codes "  gain    " ++ added_text (codes " for sticks = ") (gain - 1000 * sticks) (1000 * sticks) ++ line_feed

-- ---- the whole

-- a yakuman counts no fu
unfoldable pub fu_line_if : Bool → List FuRow → ℕ → List ℕ
fu_line_if yakuman rows fu = if yakuman then [] else fu_line rows fu

unfoldable pub won_hand_text : WonHand → List ℕ
won_hand_text hand =
    let yakuman = is_yakuman hand.score.yaku in
    reading_line hand.reading hand.win
    ++ han_line yakuman hand.score.han hand.han.items
    ++ dora_line_if hand.dora.items
    ++ fu_line_if yakuman hand.fu.items hand.score.fu
    ++ base_line hand.base hand.score.han hand.score.fu
    ++ pay_line hand.payers.items
    ++ gain_line hand.score.gain hand.win.sticks
