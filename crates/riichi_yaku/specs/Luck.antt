-- The yaku of how the hand was won. The number before each is its number in the table of yaku (`Table.antt`).
use Rattle.std.specs.Prelude.{Bool, not, ◌&&◌, ◌==◌}
use Rattle.riichi_tiles.specs.Melds.{are_concealed}
use Rattle.riichi_hand.specs.declared.win.WinParts.{WinParts}
use Rattle.riichi_hand.specs.Win.{is_ron}
use Rattle.riichi_hand.specs.Rules.{is_on}
use Rattle.riichi_hand.specs.declared.switch.Switch.TheVariants.{Ippatsu}

-- 0: the record says `riichi=1`; an open hand with riichi is refused
abbrev pub is_riichi : WinParts → Bool
is_riichi parts = parts.riichi == 1

-- 1: the record says `riichi=2`, riichi with the first discard
abbrev pub is_double_riichi : WinParts → Bool
is_double_riichi parts = parts.riichi == 2

-- 2: the flag `ippatsu`, a win within a round of the riichi, where the rules count it
abbrev pub is_ippatsu : WinParts → Bool
is_ippatsu parts = parts.flags.ippatsu && is_on Ippatsu parts.rules

-- 3: a self-draw with a concealed hand
abbrev pub is_fully_concealed : WinParts → Bool
is_fully_concealed parts = are_concealed parts.melds && not (is_ron parts.by)

-- 12: the flag `rinshan`, a win on the tile drawn after a kong
abbrev pub is_after_a_kong : WinParts → Bool
is_after_a_kong parts = parts.flags.rinshan

-- 13: the flag `chankan`, a win on the tile that another player adds to a triplet
abbrev pub is_robbing_the_kong : WinParts → Bool
is_robbing_the_kong parts = parts.flags.chankan

-- 14: the flag `last`, a win on the last tile or the last discard
abbrev pub is_last_tile : WinParts → Bool
is_last_tile parts = parts.flags.last
