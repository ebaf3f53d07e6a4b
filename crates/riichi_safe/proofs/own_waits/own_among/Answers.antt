use Rattle.std.proofs.Common.{◌≡◌, ◌∙◌, ap, ℕ, Bool, Some, false, true}
use Rattle.std.specs.Prelude.{◌==◌, ◌&&◌}
use Rattle.riichi_tiles.specs.HeldKinds.{is_held, kinds_where}
use Rattle.riichi_tiles.specs.Tiles.{has_tile}
use Rattle.riichi_safe.specs.Safe.{own_among}
use Rattle.riichi_safe.specs.SafeParts.{SafeParts}
use Rattle.riichi_safe.proofs.SafeSets.{own_set}
use Rattle.riichi_safe.proofs.own_waits.own_among.Goals as goal

told : (parts : SafeParts) (waits set : ℕ) (t : Bool) → t ≡ false → (waits == 0) ≡ t → set ≡ kinds_where (λ kind. is_held waits kind && has_tile parts.own kind) → Some set ≡ own_among parts waits
told parts waits set false e same is = rw same (ap Some is)
told parts waits set true e same is = absurd (cc)

pub returns : goal.returns
returns c =
    told c.args.asked.now c.args.waits c.both.result c.is_empty.result c.if-is_empty.false (cc)
    (c.both.ensures ∙ own_set c.args.waits c.held_kinds.result c.args.asked.now.own c.bits-few.ensures.below (cc))
