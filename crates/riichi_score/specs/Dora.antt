-- The dora of a hand.
use Rattle.std.specs.Prelude.{ℕ, ◌+◌, ◌*◌, List, replicate, slice_index, if◌then◌else◌}
use Rattle.std.specs.List.{sum, sum_by}
use Rattle.riichi_tiles.specs.Dora.{indicated}
use Rattle.riichi_tiles.specs.Melds.{every_kind}
use Rattle.riichi_hand.specs.Rules.{Rules, is_on}
use Rattle.riichi_hand.specs.declared.win.WinParts.{WinParts}
use Rattle.riichi_hand.specs.Win.{copies_won}
use Rattle.riichi_hand.specs.declared.switch.Switch.TheVariants.{RedFives, Ura}

-- the indicators below, where the rules count them
abbrev pub counted_ura : WinParts → List ℕ
counted_ura win = if is_on Ura win.rules then win.ura else replicate 34 0

-- how many indicators there are of a kind
abbrev pub indicators : WinParts → ℕ → ℕ
indicators win kind = slice_index win.dora kind + slice_index (counted_ura win) kind

-- each indicator of this kind earns one han for each copy of the kind that it indicates, among every tile
abbrev pub kind_dora : WinParts → ℕ → ℕ
kind_dora win kind = indicators win kind * copies_won win (indicated kind)

-- each red five earns one han, where the rules have them; else it is a plain five
abbrev pub red_dora : Rules → List ℕ → ℕ
red_dora rules reds = if is_on RedFives rules then sum reds else 0

-- those of every indicator, and of the red fives
unfoldable pub dora_of : WinParts → ℕ
dora_of win = sum_by (kind_dora win) every_kind + red_dora win.rules win.reds
