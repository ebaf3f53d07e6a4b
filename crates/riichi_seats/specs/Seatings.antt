-- The games of sessions, in which each player sits once.
use Rattle.std.specs.Prelude.{ℕ, zero, suc, ◌≡◌, ◌*◌, List, [], ◌∷◌, IsPermutation, take, drop}
use Rattle.std.specs.List.{range_with_len}
use Rattle.riichi_seats.specs.declared.table.Table.{Table}

-- the players of tables, seat by seat
abbrev pub seated_in : List Table → List ℕ
seated_in [] = []
seated_in (table ∷ tables) = table.east ∷ table.south ∷ table.west ∷ table.north ∷ seated_in tables

-- of so many tables four times as many players, each of whom sits at one seat of one table
abbrev pub IsSession : ℕ → List Table → Type 0
IsSession tables session = IsPermutation (range_with_len 0 (4 * tables)) (seated_in session)

-- the games of so many sessions, one after another, and no others
abbrev pub IsSeating : ℕ → ℕ → List Table → Type 0
IsSeating tables zero games = games ≡ []
IsSeating tables (suc sessions) games = IsSession tables (take tables games) × IsSeating tables sessions (drop tables games)

-- the first four players of a list at the first table, and so on
abbrev pub tables_of : List ℕ → List Table
tables_of (east ∷ south ∷ west ∷ north ∷ others) = record { east = east; south = south; west = west; north = north } ∷ tables_of others
tables_of others = []

-- the players by their numbers at so many tables
abbrev pub tables_by_number : ℕ → List Table
tables_by_number tables = tables_of (range_with_len 0 (4 * tables))
