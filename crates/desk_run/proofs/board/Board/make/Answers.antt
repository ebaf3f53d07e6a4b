use Rattle.std.proofs.Common.{arith, ◌*◌, ◌∙◌, ap}
use Rattle.desk_run.specs.declared.size.BoardSize.{BoardSize}
use Rattle.desk_run.proofs.Parting.{more_tables, more_workers}
use Rattle.desk_run.proofs.board.Board.make.Goals as goal

pub loop-number-preserved : goal.loop-number-preserved
loop-number-preserved c = let i = c.loop-number.invariant in let t = c.in_ok-table_seat in record {
  id = c.another-other.ensures.id.0 ∙ i.id;
  me = c.another-other.ensures.me.0 ∙ i.me;
  count = (let a = i.count.0 in let b = c.push_reserved.ensures.len in omega arith, let a = i.count.1 in let b = c.push_reserved.ensures.capacity in omega arith);
  tables = more_tables _ c.args.size.places c.loop-number.number c.loop-number.tables.items _ t.field-0 i.tables (let a = i.count.0 in omega arith)
      (t.ensures.board, t.ensures.lane, t.ensures.states.0, t.ensures.states.1 ∙ ap (λ (s : BoardSize). s.places) c.in_ok-board.ensures.1, t.ensures.base ∙ ap (λ (s : BoardSize). c.loop-number.number * s.places) c.in_ok-board.ensures.1) c.push_reserved.ensures.items;
}

pub loop-number-2-preserved : goal.loop-number-2-preserved
loop-number-2-preserved c = let i = c.loop-number-2.invariant in let t = c.in_ok-worker_seat in record {
  id = c.another-other-in-loop-number-2.ensures.id.0 ∙ i.id;
  me = c.another-other-in-loop-number-2.ensures.me.0 ∙ i.me;
  count = (let a = i.count.0 in let b = c.push_reserved-in-loop-number-2.ensures.len in omega arith, let a = i.count.1 in let b = c.push_reserved-in-loop-number-2.ensures.capacity in omega arith);
  workers = more_workers _ c.loop-number-2.workers.items _ t.field-0 i.workers (t.ensures.board, t.ensures.view.0, t.ensures.view.1, t.ensures.view.2, t.ensures.view.3) c.push_reserved-in-loop-number-2.ensures.items;
}
