use Rattle.std.proofs.Common.{[], ◌∷◌, arith, length-append}
use Rattle.desk_core.proofs.Desks.{IsDeskRun-push}
use Rattle.desk_core.proofs.desk.DeskCore.run_all.Goals as goal

pub loop-event-preserved : goal.loop-event-preserved
loop-event-preserved c =
    let was = c.loop-event.invariant in
    let event = c.in-Some.event in
    let reply = c.step-reply.result in
    record {
      can_next = tt;
      is_finite = tt;
      count = rw (c.add_reply.ensures.items) (omega (arith, was.count, length-append c.loop-event.yielded (event ∷ []), length-append c.loop-event.replies.items (reply ∷ [])));
      room = omega (arith, was.room, c.add_reply.ensures.capacity);
      run = rw (c.add_reply.ensures.items)
          (IsDeskRun-push c.args.self.now c.loop-event.self c.step-reply.new.self c.loop-event.yielded c.loop-event.replies.items event reply was.count was.run c.step-reply.ensures.step);
      tables = omega (arith, was.tables, c.step-reply.ensures.tables);
    }
