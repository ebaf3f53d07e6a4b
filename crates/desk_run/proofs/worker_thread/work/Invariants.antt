use Rattle.std.proofs.Common.{◌≡◌, ◌++◌, List}
use Rattle.std.specs.List.{FoldsTo}
use Rattle.desk_core.specs.declared.ticket.Ticket.{Ticket}
use Rattle.desk_run.specs.Sitting.{board_name}
use Rattle.desk_run.proofs.worker_thread.work.Given as goal

abbrev pub invariant-loop : goal.invariant-loop
invariant-loop g l =
    (goal.iterator-loop g).can_next l.iterator' × (goal.iterator-loop g).is_finite l.iterator' × (l.seat.board ≡ board_name l.board)
    × ((xs : List Ticket) × (l.seat.finished ≡ l.initial.seat.finished ++ xs) × FoldsTo g.G.Gate.called l.initial.gate xs l.gate)
