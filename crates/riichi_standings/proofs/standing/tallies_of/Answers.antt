use Rattle.riichi_standings.proofs.StandingLemmas.{tallies_more}
use Rattle.riichi_standings.proofs.standing.tallies_of.Goals as goal

pub loop-player-preserved : goal.loop-player-preserved
loop-player-preserved c =
    let pushed = c.in_ok-push.ensures.items in
    let more = tallies_more c.args.results.now c.loop-player.player in
    let before = c.loop-player.invariant in
    let own = c.of.ensures in
    cc
