use Rattle.std.proofs.Common.{arith, ◌∙◌}
use Rattle.desk_run.proofs.Players.{given_all, as_many}
use Rattle.desk_run.proofs.playing.play_all.Goals as goal

pub loop-preserved-in-Moved : goal.loop-preserved-in-Moved
loop-preserved-in-Moved g c = (tt, tt, c.in_ok-play_round.ensures.lists ∙ c.loop.invariant.2)

pub loop-preserved : goal.loop-preserved
loop-preserved g c = (tt, tt, c.in_ok-play_round.ensures.lists ∙ c.loop.invariant.2)

pub answers_of-requires-clause-room : goal.answers_of-requires-clause-room
answers_of-requires-clause-room g c = (
  c.in_ok-answers.ensures.items,
  (let many = as_many c.args.jobs.now c.play_round.new.players.items c.in_ok-players.players.items c.in_ok-players.ensures (c.in_ok-play_round.ensures.lists ∙ c.loop.invariant.2) in
      let room = c.in_ok-answers.ensures.capacity in omega arith),
)

pub returns-in-Finished : goal.returns-in-Finished
returns-in-Finished g c = c.answers_of.ensures ∙ given_all c.args.jobs.now c.play_round.new.players.items c.in_ok-players.players.items c.in_ok-players.ensures (c.in_ok-play_round.ensures.lists ∙ c.loop.invariant.2)
