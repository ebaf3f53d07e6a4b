use Rattle.std.proofs.Common.{Fits, w8, arith}
use Rattle.std.proofs.lemmas.Simd.{Each1-get_or}
use Rattle.riichi_rows.proofs.Opposite.{length_summed, summed_lanes}
use Rattle.riichi_rows.proofs.lanes.add_lanes.Goals as goal

pub invariant_of-result : goal.invariant_of-result
invariant_of-result c = record { sixteen = length_summed c.args.left c.args.right c.fits-left.0 c.fits-right.0 }

pub returns : goal.returns
returns c = summed_lanes c.args.left c.args.right c.fits-left.0 c.fits-right.0 (λ k inside. (let fits = (Each1-get_or (Fits w8) c.args.left k 255 (omega (arith, c.fits-left.0)) c.fits-left.1).fits in omega (arith, fits)))
