use Rattle.std.proofs.Common.{List, ℕ, map, refl, arith}
use Rattle.std.specs.Prelude.{slice_index}
use Rattle.riichi_tiles.specs.Forms.{orphan_kinds}
use Rattle.riichi_shape.proofs.OrphansLacked.{nearest_doubled, nearest_single}
use Rattle.riichi_shape.proofs.orphans.nearest_orphans.Goals as goal

pub overflow_sub-missing : goal.overflow_sub-missing
overflow_sub-missing c = omega (arith, (c.orphans_held.ensures (map (slice_index c.args.hand.now) orphan_kinds) refl c.orphan_counts-orphans.ensures).1)

pub returns-then-orphans_held-gt0 : goal.returns-then-orphans_held-gt0
returns-then-orphans_held-gt0 c =
    let held : List ℕ = map (slice_index c.args.hand.now) orphan_kinds in
    nearest_doubled c.args.hand.now held refl c.orphans_held.result c.orphans_held-2.result (c.orphans_held.ensures held refl c.orphan_counts-orphans.ensures).0 (c.orphans_held-2.ensures held refl c.orphan_counts-orphans.ensures).0
    _ c.if-orphans_held-gt0.true refl refl refl

pub returns-else-orphans_held-gt0 : goal.returns-else-orphans_held-gt0
returns-else-orphans_held-gt0 c =
    let held : List ℕ = map (slice_index c.args.hand.now) orphan_kinds in
    nearest_single c.args.hand.now held refl c.orphans_held.result c.orphans_held-2.result (c.orphans_held.ensures held refl c.orphan_counts-orphans.ensures).0 (c.orphans_held-2.ensures held refl c.orphan_counts-orphans.ensures).0
    _ c.if-orphans_held-gt0.false refl refl refl
