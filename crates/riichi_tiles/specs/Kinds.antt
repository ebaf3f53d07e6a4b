-- The words of a kind: its suit, its rank, and what it may be.
-- A kind is a number below 34: 0 to 8 are 1m to 9m (characters), 9 to 17 are 1p to 9p (circles), 18 to 26 are 1s to 9s
-- (bamboos), 27 to 33 are 1z to 7z (honours): East, South, West, North, White, Green, Red.
use Rattle.std.specs.Prelude.{◌==◌, ◌&&◌, ◌||◌, ℕ, ◌+◌, ◌-◌, ◌<◌, ◌≤◌, ◌%◌, Bool, nat_le, nat_lt, if◌then◌else◌, List, [], ◌∷◌}
use Rattle.riichi_tiles.specs.declared.suit.Suit.{Suit}
use Rattle.riichi_tiles.specs.declared.suit.Suit.TheVariants.{Characters, Circles, Bamboos, Honours}

-- ---- suits

-- the number of a suit's first kind
abbrev pub first_of : Suit → ℕ
first_of Characters = 0
first_of Circles = 9
first_of Bamboos = 18
first_of Honours = 27

-- how many kinds a suit has
abbrev pub kinds_of : Suit → ℕ
kinds_of Characters = 9
kinds_of Circles = 9
kinds_of Bamboos = 9
kinds_of Honours = 7

-- the three whose tiles have numbers
abbrev pub number_suits : List Suit
number_suits = Characters ∷ Circles ∷ Bamboos ∷ []

-- a suit of nine kinds has runs
abbrev pub has_runs : Suit → Bool
has_runs suit = kinds_of suit == 9

-- a kind of the suit: as a test, and as a fact
abbrev pub is_of_suit : Suit → ℕ → Bool
is_of_suit suit kind = nat_le (first_of suit) kind && nat_lt kind (first_of suit + kinds_of suit)

pub record IsOfSuit (suit : Suit) (kind : ℕ) : Type 0 where
  pub low : first_of suit ≤ kind
  pub high : kind < first_of suit + kinds_of suit

-- the suit of a kind
abbrev pub suit_of : ℕ → Suit
suit_of kind =
    if nat_lt kind 9 then Characters
    else (if nat_lt kind 18 then Circles
    else (if nat_lt kind 27 then Bamboos
    else Honours))

-- the place of a kind in its suit: one less than the number on the tile
abbrev pub rank_of : ℕ → ℕ
rank_of kind = kind - first_of (suit_of kind)

-- ---- what a kind may be

-- a wind or a dragon
abbrev pub is_honour : ℕ → Bool
is_honour kind = nat_le 27 kind

-- a 1 or a 9 of m, p or s
abbrev pub is_terminal : ℕ → Bool
is_terminal kind = nat_lt kind 27 && (kind % 9 == 0 || kind % 9 == 8)

-- a terminal or an honour
abbrev pub is_orphan : ℕ → Bool
is_orphan kind = is_terminal kind || is_honour kind

-- a 1 to 7 of m, p or s: the lowest tile of a run
abbrev pub begins_run : ℕ → Bool
begins_run kind = nat_lt kind 27 && nat_lt (kind % 9) 7

-- the same as a fact
abbrev pub IsRunLow : ℕ → Type 0
IsRunLow low = (low < 27) × (low % 9 < 7)
