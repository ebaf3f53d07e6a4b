-- What the tables of a rank are, by the runs that are open there.
use Rattle.std.specs.Prelude.{◌≡◌, ℕ, ◌-◌, ◌<◌, min, Bool, nat_le, if◌then◌else◌, List}
use Rattle.riichi_rows.specs.Columns.{AreLeast}
use Rattle.riichi_rows.specs.Lanes.{Agree, IsFew, with_set, with_pair, where_runs}

-- what it costs to hold n tiles of a rank
abbrev pub cost : ℕ → ℕ → ℕ → ℕ
cost have limit n = if nat_le n limit then n - have else 255

-- the bit of a rank of which tiles are lacking, and no bit where none is
abbrev pub IsMarkOf : ℕ → ℕ → ℕ → Type 0
IsMarkOf bit tiles mark = (0 < tiles → mark ≡ bit) × (tiles ≡ 0 → mark ≡ 0)

-- a table for each number of runs begun at this rank
pub record Begun : Type 0 where
  pub zero : ℕ → ℕ → ℕ
  pub one : ℕ → ℕ → ℕ
  pub two : ℕ → ℕ → ℕ

-- those for each number of runs begun one rank before
pub record Open : Type 0 where
  pub zero : Begun
  pub one : Begun
  pub two : Begun

-- a table for each number of tiles that the runs that begin at a rank, a triplet and a pair take of it
pub record Added : Type 0 where
  pub zero : ℕ → ℕ → ℕ
  pub one : ℕ → ℕ → ℕ
  pub two : ℕ → ℕ → ℕ
  pub three : ℕ → ℕ → ℕ
  pub four : ℕ → ℕ → ℕ

-- with u runs begun at this rank, for u up to 2, and a runs one rank before
pub record LeastBegun (runs : Bool) (counts caps : List ℕ) (a : ℕ) (x : Begun) : Type 0 where
  pub zero_begun : AreLeast runs counts caps 0 a x.zero
  pub one_begun : AreLeast runs counts caps 1 a x.one
  pub two_begun : AreLeast runs counts caps 2 a x.two

-- with a runs begun one rank before, for a up to 2, and b runs two ranks before
pub record LeastOpen (runs : Bool) (counts caps : List ℕ) (x : Open) : Type 0 where
  pub zero_open : LeastBegun runs counts caps 0 x.zero
  pub one_open : LeastBegun runs counts caps 1 x.one
  pub two_open : LeastBegun runs counts caps 2 x.two

-- the better of what takes so many tiles of a rank: no run, one or two that begin there, with a triplet or a pair or neither
pub record IsAdded (runs : Bool) (later : Begun) (x : Added) : Type 0 where
  pub no_tile : Agree x.zero later.zero
  pub one_tile : Agree x.one (where_runs runs (with_set later.one))
  pub two_tiles : Agree x.two (λ s p. min (with_pair later.zero s p) (where_runs runs (with_set (with_set later.two)) s p))
  pub three_tiles : Agree x.three (λ s p. min (with_set later.zero s p) (with_pair (where_runs runs (with_set later.one)) s p))
  pub four_tiles : Agree x.four (λ s p. min (with_set (where_runs runs (with_set later.one)) s p) (with_pair (where_runs runs (with_set (with_set later.two))) s p))

-- no sum with a value of the table comes near to none
abbrev pub AreFew : (ℕ → ℕ → ℕ) → Type 0
AreFew f = (s p : ℕ) → s < 5 → p < 2 → IsFew (f s p)

pub record FewBegun (x : Begun) : Type 0 where
  pub zero : AreFew x.zero
  pub one : AreFew x.one
  pub two : AreFew x.two

pub record FewOpen (x : Open) : Type 0 where
  pub zero : FewBegun x.zero
  pub one : FewBegun x.one
  pub two : FewBegun x.two

pub record FewAdded (x : Added) : Type 0 where
  pub zero : AreFew x.zero
  pub one : AreFew x.one
  pub two : AreFew x.two
  pub three : AreFew x.three
  pub four : AreFew x.four

-- the same tables twice
pub record SameBegun (x y : Begun) : Type 0 where
  pub zero : Agree x.zero y.zero
  pub one : Agree x.one y.one
  pub two : Agree x.two y.two

pub record SameOpen (x y : Open) : Type 0 where
  pub zero : SameBegun x.zero y.zero
  pub one : SameBegun x.one y.one
  pub two : SameBegun x.two y.two

pub record SameAdded (x y : Added) : Type 0 where
  pub zero : Agree x.zero y.zero
  pub one : Agree x.one y.one
  pub two : Agree x.two y.two
  pub three : Agree x.three y.three
  pub four : Agree x.four y.four
