use Rattle.std.proofs.Common.{map, pos}
use Rattle.std.specs.Prelude.{string_bytes}
use Rattle.riichi_standings.proofs.StandingLemmas.{each_more, each_all}
use Rattle.riichi_standings.proofs.standing.each_standing.Goals as goal

pub loop-player-preserved : goal.loop-player-preserved
loop-player-preserved c =
    let pushed = c.in_ok-push.ensures.items in
    let before = c.loop-player.invariant in
    let place = c.place.ensures in
    let names = c.names_before.ensures in
    let more = each_more c.args.ties (map string_bytes c.args.names.now) c.args.tallies.now c.loop-player.player (record { total = pos 0; games = 0; firsts = 0; best = pos 0 }) c.loop-player-test.true in
    cc

pub returns : goal.returns
returns c =
    let all = each_all c.args.ties (map string_bytes c.args.names.now) c.args.tallies.now c.loop-player.player c.loop-player-test.false in
    let each = c.loop-player.invariant in
    cc
