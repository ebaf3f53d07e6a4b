use Rattle.std.proofs.Common.{length, ap, arith}
use Rattle.riichi_standings.proofs.StandingLemmas.{length-tallies_of}
use Rattle.riichi_standings.proofs.standing.standings.Goals as goal

pub each_standing-requires : goal.each_standing-requires
each_standing-requires c =
    omega (arith, ap length c.as_slice.ensures.value, ap length c.in_ok-tallies.ensures, length-tallies_of c.args.results.now (length c.args.names.now))
