-- Words on kinds. 0 to 8 are 1m to 9m, 9 to 17 are 1p to 9p, 18 to 26 are 1s to 9s, 27 to 33 are 1z to 7z.
use Rattle.std.specs.Prelude.{ℕ, Bool, not, ◌&&◌, ◌||◌, ◌==◌, nat_le, nat_lt, List}
use Rattle.std.specs.List.{range_with_len}
pub use Rattle.riichi_tiles.specs.Kinds.{is_honour, is_terminal, is_orphan, is_of_suit, number_suits}
pub use Rattle.riichi_tiles.specs.Tiles.{white, red}

abbrev pub green : ℕ
green = 32

abbrev pub is_wind : ℕ → Bool
is_wind kind = nat_le 27 kind && nat_lt kind white

abbrev pub is_dragon : ℕ → Bool
is_dragon kind = nat_le white kind

-- East, South, West, North
abbrev pub winds : List ℕ
winds = range_with_len 27 4

-- White, Green, Red
abbrev pub dragons : List ℕ
dragons = range_with_len 31 3

-- a 2 to 8 of a suit
abbrev pub is_simple : ℕ → Bool
is_simple kind = not (is_orphan kind)

-- the ranks 0 to 8 are the numbers 1 to 9
abbrev pub every_rank : List ℕ
every_rank = range_with_len 0 9

-- one of 2s 3s 4s 6s 8s 6z
abbrev pub is_green_tile : ℕ → Bool
is_green_tile kind = kind == 19 || kind == 20 || kind == 21 || kind == 23 || kind == 25 || kind == green
