use Rattle.std.proofs.Common.{take, arith}
use Rattle.std.proofs.lemmas.Simd.{length-chunk}
use Rattle.riichi_tiles.proofs.KindBits.{compared}
use Rattle.riichi_tiles.proofs.held_kinds.bits_of_first.Goals as goal

pub returns : goal.returns
returns c =
    let counts = c.args.counts.now in
    compared (take 32 counts) (length-chunk 0 32 counts (omega (arith, c.requires)))
