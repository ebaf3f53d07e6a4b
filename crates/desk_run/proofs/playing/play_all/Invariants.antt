use Rattle.std.proofs.Common.{◌≡◌}
use Rattle.desk_run.specs.Players.{job_lists}
use Rattle.desk_run.proofs.playing.play_all.Given as goal

abbrev pub invariant-loop : goal.invariant-loop
invariant-loop g l =
    (goal.iterator-loop g).can_next l.iterator' × (goal.iterator-loop g).is_finite l.iterator' × (job_lists l.players.items ≡ job_lists l.initial.players.items)
