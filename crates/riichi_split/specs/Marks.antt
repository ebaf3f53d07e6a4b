-- Marks of kinds.
use Rattle.std.specs.Prelude.{◌↔◌, ◌⊎◌, ℕ, ◌<◌}
use Rattle.riichi_tiles.specs.HeldKinds.{IsMarked}

-- the kinds below a number that are so are marked beside those that were
pub record Adds (IsSo : ℕ → Type 0) (number : ℕ) (old new : ℕ) : Type 0 where
  pub each : (kind : ℕ) → IsMarked new kind ↔ (IsMarked old kind ⊎ ((kind < number) × IsSo kind))

-- just the kinds below a number that are so are marked
abbrev pub MarksBelow : (ℕ → Type 0) → ℕ → ℕ → Type 0
MarksBelow IsSo number marks = Adds IsSo number 0 marks
