use Rattle.std.proofs.Common.{arith, ◌≡◌, subst}
use Rattle.desk_run.specs.Counts.{times_listed}
use Rattle.desk_run.specs.Plays.{SeatState, worker_seen}
use Rattle.desk_run.specs.SeatStates.{WorkerState}
use Rattle.desk_run.proofs.worker_seat.WorkerSeat.work_at.Goals as goal

pub returns-clause-did : goal.returns-clause-did
returns-clause-did g c =
    let claims = c.claim.ensures.ready c.if-not-claim.false in
    let after = c.do_claimed.ensures.me c.self.inside.seat.me claims in
    let once = c.do_claimed.ensures.once c.self.inside.seat.me claims in
    (grind arith, subst (λ (s : WorkerState). times_listed c.do_claimed.result s.finished ≡ 0) c.self.view_is once)
