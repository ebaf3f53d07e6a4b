use Rattle.std.proofs.Common.{◌≡◌}
use Rattle.desk_run.proofs.player.Player.take_all.Given as goal

abbrev pub invariant-loop : goal.invariant-loop
invariant-loop l = l.self.jobs ≡ l.initial.self.jobs
