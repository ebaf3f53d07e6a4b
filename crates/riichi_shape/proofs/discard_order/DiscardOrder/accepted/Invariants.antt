use Rattle.std.proofs.Common.{◌≡◌, ℕ, take}
use Rattle.std.specs.List.{list_any}
use Rattle.riichi_shape.specs.KeptDiscards.{accepted_kinds}
use Rattle.riichi_tiles.specs.HeldKinds.{is_held}
use Rattle.riichi_shape.proofs.discard_order.DiscardOrder.accepted.Given as goal

abbrev pub invariant-loop-place : goal.invariant-loop-place
invariant-loop-place l = (kind : ℕ) → is_held l.kinds kind ≡ list_any (λ kept. is_held (accepted_kinds kept) kind) (take l.place l.self-inside.places)
