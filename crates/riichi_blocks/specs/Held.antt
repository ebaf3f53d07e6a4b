-- Every tile of a win: the concealed tiles, the winning tile and the tiles of the melds, by the count of each kind.
use Rattle.std.specs.Prelude.{ℕ, Bool, ◌&&◌, ◌||◌, ◌==◌, nat_lt, List, map, slice_index}
use Rattle.std.specs.List.{list_any, list_all}
use Rattle.riichi_tiles.specs.Melds.{every_kind}
use Rattle.riichi_hand.specs.declared.win.WinParts.{WinParts}
use Rattle.riichi_hand.specs.Win.{copies_won}

abbrev pub all_tiles : WinParts → List ℕ
all_tiles parts = map (copies_won parts) every_kind

-- every tile is of a kind that is so
abbrev pub every : (ℕ → Bool) → List ℕ → Bool
every is_so tiles = list_all (λ kind. is_so kind || (slice_index tiles kind == 0)) every_kind

-- at least one tile is of a kind that is so
abbrev pub some : (ℕ → Bool) → List ℕ → Bool
some is_so tiles = list_any (λ kind. is_so kind && nat_lt 0 (slice_index tiles kind)) every_kind
