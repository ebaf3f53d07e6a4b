use Rattle.std.proofs.Common.{◌≡◌}
use Rattle.desk_run.specs.Sitting.{board_name}
use Rattle.desk_run_tests.proofs.seats.Player.play.Given as goal

abbrev pub invariant-loop : goal.invariant-loop
invariant-loop g l =
    (goal.iterator-loop g).can_next l.iterator' × (goal.iterator-loop g).is_finite l.iterator' × (l.seat.board ≡ board_name l.board)
