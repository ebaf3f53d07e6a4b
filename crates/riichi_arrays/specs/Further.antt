-- What is told of the further steps of the hands of some rows, and of the calls of thrown tiles.
use Rattle.std.specs.Prelude.{ℕ, ◌+◌, ◌==◌, if◌then◌else◌, nat_lt, pos, List, [], map, replicate, slice_index_or, Option, Some, None}
use Rattle.riichi_arrays.specs.Columns.{discards_row, shape_at}
use Rattle.riichi_arrays.specs.Hands.{no_tiles}
use Rattle.riichi_arrays.specs.declared.call_columns.CallRow.{CallRow}
use Rattle.riichi_arrays.specs.declared.hands.Hands.{Hands}
use Rattle.riichi_deeper.specs.Calls.{calls_of}
use Rattle.riichi_deeper.specs.Deeper.{deeper_of}
use Rattle.riichi_deeper.specs.declared.gains.Call.{Call}
use Rattle.riichi_deeper.specs.declared.outlook.Outlook.{Outlook}
use Rattle.riichi_deeper.specs.declared.thrown.Thrower.{Thrower}
use Rattle.riichi_deeper.specs.declared.thrown.Thrower.TheVariants.{Left, Across, Right}
use Rattle.riichi_deeper.specs.declared.thrown.Thrown.{Thrown}
use Rattle.riichi_hand.specs.Hand.{copies_with, is_thirteen}
use Rattle.riichi_hand.specs.HandParts.{ShapeParts}
use Rattle.riichi_tiles.specs.declared.meld.Meld.{Meld}
use Rattle.riichi_tiles.specs.declared.meld.Meld.TheVariants.{Chi, Pon, Kan, Ankan}

-- the hand, where it has thirteen tiles
abbrev pub if_thirteen : Option ShapeParts → Option ShapeParts
if_thirteen None = None
if_thirteen (Some parts) = if is_thirteen parts.tiles parts.melds then Some parts else None

-- the hand of thirteen tiles that stands in a row
abbrev pub thirteen_at : List (List ℕ) → List (List ℕ) → List (List ℕ) → ℕ → Option ShapeParts
thirteen_at counts melds seen row = if_thirteen (shape_at counts melds seen row)

abbrev pub thirteen_of_row : Hands → ℕ → Option ShapeParts
thirteen_of_row hands row = thirteen_at hands.counts.now hands.melds.now hands.seen.now row

-- ---- second and good

abbrev pub second_in : Option Outlook → ℕ
second_in None = 0
second_in (Some outlook) = outlook.second

abbrev pub good_in : Option Outlook → ℕ
good_in None = 0
good_in (Some outlook) = outlook.good

abbrev pub outlook_by : Option ShapeParts → Option Outlook
outlook_by None = None
outlook_by (Some parts) = deeper_of parts

-- ---- calls

abbrev pub thrower_in : ℕ → Option Thrower
thrower_in byte = if byte == 0 then Some Left else if byte == 1 then Some Across else if byte == 2 then Some Right else None

abbrev pub thrown_by : ℕ → Option Thrower → Option Thrown
thrown_by kind None = None
thrown_by kind (Some by) = if nat_lt kind 34 then Some (record { tile = kind; by = by }) else None

-- a kind, and who threw it
abbrev pub thrown_in : List ℕ → Option Thrown
thrown_in row = thrown_by (slice_index_or row 0 0) (thrower_in (slice_index_or row 1 0))

abbrev pub no_calls : List (Option Call)
no_calls = replicate 4 None

-- the calls of a tile, of which a copy is left to be thrown
abbrev pub calls_by : Option ShapeParts → Option Thrown → List (Option Call)
calls_by None thrown = no_calls
calls_by (Some parts) None = no_calls
calls_by (Some parts) (Some thrown) = if nat_lt (copies_with parts thrown.tile) 4 then calls_of parts thrown else no_calls

-- a meld as a byte, as the rows of melds have it
abbrev pub meld_byte : Meld → ℕ
meld_byte (Chi low) = low + 1
meld_byte (Pon held) = 64 + (held + 1)
meld_byte (Kan held) = 128 + (held + 1)
meld_byte (Ankan held) = 192 + (held + 1)

-- the meld and the discards of a call
abbrev pub call_row : Option Call → CallRow
call_row None = record { meld = 0; kinds = 0; live = no_tiles }
call_row (Some call) = let discards = discards_row (pos 0) call.discards in record { meld = meld_byte call.meld; kinds = discards.kinds; live = discards.live }

-- the calls of a row, and what is told of them, one for each claim
abbrev pub calls_at : List (List ℕ) → List (List ℕ) → List (List ℕ) → List (List ℕ) → ℕ → List (Option Call)
calls_at counts melds seen thrown row = calls_by (thirteen_at counts melds seen row) (thrown_in (slice_index_or thrown row []))

abbrev pub calls_of_row : Hands → List (List ℕ) → ℕ → List (Option Call)
calls_of_row hands thrown row = calls_at hands.counts.now hands.melds.now hands.seen.now thrown row

abbrev pub melds_told : List (Option Call) → List ℕ
melds_told calls = map (λ call. (call_row call).meld) calls

abbrev pub kinds_told : List (Option Call) → List ℕ
kinds_told calls = map (λ call. (call_row call).kinds) calls

abbrev pub live_told : List (Option Call) → List (List ℕ)
live_told calls = map (λ call. (call_row call).live) calls
