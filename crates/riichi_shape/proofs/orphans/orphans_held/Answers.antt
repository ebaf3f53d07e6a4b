use Rattle.std.proofs.Common.{ℕ, arith}
use Rattle.std.proofs.lemmas.List.Sums.{count_by-le-length}
use Rattle.std.specs.Prelude.{nat_le}
use Rattle.riichi_shape.proofs.OrphanLemmas.{held_often}
use Rattle.riichi_shape.proofs.orphans.orphans_held.Goals as goal

pub returns : goal.returns
returns c counts thirteen are =
    let held = held_often c.args.orphans counts c.args.times c.requires c.fits-orphans.0 are in
    let most = count_by-le-length (λ (n : ℕ). nat_le c.args.times n) counts in
    (held, omega (arith, held, most, thirteen))
