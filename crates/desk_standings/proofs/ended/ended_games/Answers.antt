use Rattle.desk_standings.proofs.EndedLemmas.{none_yet, next_more}
use Rattle.desk_standings.proofs.ended.ended_games.Goals as goal

pub loop-played-init : goal.loop-played-init
loop-played-init c = none_yet c.new-games.result.items c.new-games.ensures.items

pub loop-played-preserved : goal.loop-played-preserved
loop-played-preserved c = next_more _ _ c.loop-played.invariant c.in_ok-take_played.ensures.ok
