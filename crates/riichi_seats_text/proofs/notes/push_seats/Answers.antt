-- One player more.
use Rattle.riichi_seats_text.proofs.LineLemmas.{lines_more}
use Rattle.riichi_seats_text.proofs.notes.push_seats.Goals as goal

pub loop-player-preserved : goal.loop-player-preserved
loop-player-preserved c =
    lines_more _ c.loop-player.player c.args.text.now.items c.loop-player.text.items c.push_seats_line.new.text.items
    c.loop-player.invariant c.in_ok-push_seats_line.ensures
