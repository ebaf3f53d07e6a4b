use Rattle.std.proofs.Common.{ℕ, ◌<◌}
use Rattle.std.specs.List.{All}
use Rattle.riichi_hints.specs.Near.{IsWithin, names}
use Rattle.riichi_hints.proofs.names.nearest_meaning.Given as goal

abbrev pub invariant-loop-edits : goal.invariant-loop-edits
invariant-loop-edits l = (fewer : ℕ) → fewer < l.edits → All (λ row. IsWithin fewer row.0 l.name.items → ⊥) names
