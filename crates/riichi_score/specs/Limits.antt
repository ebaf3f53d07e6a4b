-- How many limits a yakuman pays: a limit is 8000 base points.
use Rattle.std.specs.Prelude.{ℕ, Bool, true, false, ◌&&◌, ◌==◌, count_by, if◌then◌else◌}
use Rattle.std.specs.List.{list_any, sum_by}
use Rattle.riichi_tiles.specs.HeldKinds.{is_held}
use Rattle.riichi_tiles.specs.Melds.{every_kind}
use Rattle.riichi_tiles.specs.Blocks.{is_pair}
use Rattle.riichi_hand.specs.HandParts.{HandParts}
use Rattle.riichi_hand.specs.declared.win.WinParts.{WinParts}
use Rattle.riichi_split.specs.Waits.{waits_of}
use Rattle.riichi_split.specs.declared.reading.Reading.{Reading}
use Rattle.riichi_split.specs.declared.reading.Reading.TheVariants.{Standard, SevenPairs, Orphans}
use Rattle.riichi_yaku.specs.declared.table.Yaku.{Yaku}
use Rattle.riichi_yaku.specs.declared.table.Yaku.TheVariants as yaku
use Rattle.riichi_yaku.specs.YakuSets.{yaku_in}
use Rattle.riichi_hand.specs.Rules.{is_on}
use Rattle.riichi_hand.specs.declared.switch.Switch.TheVariants.{AddYakuman, DoubleYakuman}

-- the hand before the winning tile
abbrev pub waiting_hand : WinParts → HandParts
waiting_hand win = record { concealed = win.concealed; melds = win.melds }

-- before the winning tile the hand waits for so many kinds
abbrev pub waits_on : ℕ → WinParts → Bool
waits_on kinds win = count_by (is_held (waits_of (waiting_hand win))) every_kind == kinds

-- the winning tile completes the pair
abbrev pub is_completed_in_pair : Reading → Bool
is_completed_in_pair (Standard sets pair done) = is_pair done
is_completed_in_pair SevenPairs = false
is_completed_in_pair Orphans = false

-- big four winds, and three yakuman in a rarer form
abbrev pub is_rare : Reading → WinParts → Yaku → Bool
is_rare reading win yaku.BigFourWinds = true
is_rare reading win yaku.FourConcealedPungs = is_completed_in_pair reading
is_rare reading win yaku.ThirteenOrphans = waits_on 13 win
is_rare reading win yaku.NineGates = waits_on 9 win
is_rare reading win other = false

-- these count as two, where the rules say so
abbrev pub is_double : Reading → WinParts → Yaku → Bool
is_double reading win yaku = is_on DoubleYakuman win.rules && is_rare reading win yaku

abbrev pub limits_in : Reading → WinParts → Yaku → ℕ
limits_in reading win yaku = if is_double reading win yaku then 2 else 1

-- the limits of a set of yakuman: the sum of all, where the rules add them; else those of the greatest
unfoldable pub limits_of : Reading → WinParts → ℕ → ℕ
limits_of reading win set =
    if is_on AddYakuman win.rules then sum_by (limits_in reading win) (yaku_in set)
    else (if list_any (is_double reading win) (yaku_in set) then 2 else 1)
