-- The kinds that complete seven pairs or the orphans.
use Rattle.std.specs.Prelude.{◌⊎◌, ℕ, ◌<◌, List}
use Rattle.riichi_tiles.specs.Forms.{IsSevenPairs, IsThirteenOrphans}
pub use Rattle.riichi_split.specs.Marks.{Adds}
use Rattle.riichi_split.specs.Waits.{with_one}

-- one more of the kind makes seven pairs
abbrev pub CompletesPairs : List ℕ → ℕ → Type 0
CompletesPairs counts kind = IsSevenPairs (with_one counts kind)

-- one more of the kind makes the orphans
abbrev pub CompletesOrphans : List ℕ → ℕ → Type 0
CompletesOrphans counts kind = IsThirteenOrphans (with_one counts kind)

-- one more of the kind makes one of these shapes
abbrev pub IsSpecialWait : List ℕ → ℕ → Type 0
IsSpecialWait counts kind = (kind < 34) × (CompletesPairs counts kind ⊎ CompletesOrphans counts kind)

-- those that complete one of these shapes
abbrev pub AddsSpecial : List ℕ → ℕ → ℕ → ℕ → Type 0
AddsSpecial counts number old new = Adds (IsSpecialWait counts) number old new
