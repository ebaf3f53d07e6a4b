use Rattle.std.proofs.Common.{arith}
use Rattle.std.proofs.lemmas.Grind.{common_steps}
use Rattle.std.proofs.lemmas.Int.{ints}
use Rattle.riichi_standings.proofs.tally.total_of.Goals as goal

pub loop-seat-preserved : goal.loop-seat-preserved
loop-seat-preserved c = record {
  sum = grind (arith, common_steps);
  least = omega (arith, ints);
  most = omega (arith, ints);
}
