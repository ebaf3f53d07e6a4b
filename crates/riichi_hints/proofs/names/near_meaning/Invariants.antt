use Rattle.std.proofs.Common.{take}
use Rattle.std.specs.List.{All}
use Rattle.riichi_hints.specs.Near.{IsWithin}
use Rattle.riichi_hints.proofs.names.near_meaning.Given as goal

abbrev pub invariant-loop-known : goal.invariant-loop-known
invariant-loop-known l = All (λ row. IsWithin l.edits row.0.now l.name → ⊥) (take l.known-index l.names)
