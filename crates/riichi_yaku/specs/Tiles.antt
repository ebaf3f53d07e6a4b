-- The yaku of every tile of the hand, by the count of each kind. They hold of a standard reading and of seven pairs. 18, seven pairs, is the reading itself. The number before each is its number in the table of yaku (`Table.antt`).
use Rattle.std.specs.Prelude.{ℕ, Bool, not, ◌&&◌, ◌||◌, List}
use Rattle.std.specs.List.{list_any}
use Rattle.riichi_tiles.specs.Melds.{are_concealed}
use Rattle.riichi_tiles.specs.declared.suit.Suit.{Suit}
use Rattle.riichi_hand.specs.declared.win.WinParts.{WinParts}
use Rattle.riichi_split.specs.declared.reading.Reading.{Reading}
use Rattle.riichi_blocks.specs.HandBlocks.{is_thirteen_orphans}
use Rattle.riichi_blocks.specs.Held.{every, some}
use Rattle.riichi_blocks.specs.Kinds.{is_honour, is_orphan, is_simple, is_of_suit, number_suits}
use Rattle.riichi_hand.specs.Rules.{is_on}
use Rattle.riichi_hand.specs.declared.switch.Switch.TheVariants.{OpenSimples}

-- an open hand may have all simples, where the rules say so
abbrev pub may_be_all_simples : WinParts → Bool
may_be_all_simples parts = are_concealed parts.melds || is_on OpenSimples parts.rules

-- 6: every tile is a simple
abbrev pub is_all_simples : Reading → List ℕ → WinParts → Bool
is_all_simples reading tiles parts = not (is_thirteen_orphans reading) && every is_simple tiles && may_be_all_simples parts

-- 24: every tile is a terminal or honour
abbrev pub is_all_terminals_and_honours : Reading → List ℕ → Bool
is_all_terminals_and_honours reading tiles = not (is_thirteen_orphans reading) && every is_orphan tiles

-- suit tiles of this suit alone, at least one
abbrev pub has_suit_alone : List ℕ → Suit → Bool
has_suit_alone tiles suit = every (λ kind. is_of_suit suit kind || is_honour kind) tiles && some (is_of_suit suit) tiles

-- suit tiles of one suit, at least one
abbrev pub has_one_suit : List ℕ → Bool
has_one_suit tiles = list_any (has_suit_alone tiles) number_suits

-- 25: suit tiles of one suit, at least one; at least one honour
abbrev pub is_half_flush : Reading → List ℕ → Bool
is_half_flush reading tiles = not (is_thirteen_orphans reading) && has_one_suit tiles && some is_honour tiles

-- every tile is of one suit
abbrev pub are_of_one_suit : List ℕ → Bool
are_of_one_suit tiles = list_any (λ suit. every (is_of_suit suit) tiles) number_suits

-- 28: every tile of one suit
abbrev pub is_full_flush : Reading → List ℕ → Bool
is_full_flush reading tiles = not (is_thirteen_orphans reading) && are_of_one_suit tiles
