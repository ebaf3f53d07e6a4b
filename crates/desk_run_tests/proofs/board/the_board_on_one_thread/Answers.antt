use Rattle.std.proofs.Common.{ap, ◌∙◌}
use Rattle.desk_run.specs.SeatStates.{TableState, WorkerState}
use Rattle.desk_run.proofs.Parting.{last_table, last_worker}
use Rattle.desk_run_tests.proofs.board.the_board_on_one_thread.Goals as goal

pub submit-requires : goal.submit-requires
submit-requires g c = (last_table _ _ _ _ _ c.in-Ok.ensures.tables c.in-Some-Some.ensures.items).0

pub submit-requires-2 : goal.submit-requires-2
submit-requires-2 g c = c.submit.ensures.board ∙ (last_table _ _ _ _ _ c.in-Ok.ensures.tables c.in-Some-Some.ensures.items).0

pub submit-refused-requires : goal.submit-refused-requires
submit-refused-requires g c = c.submit-2.ensures.board ∙ c.submit.ensures.board ∙ (last_table _ _ _ _ _ c.in-Ok.ensures.tables c.in-Some-Some.ensures.items).0

pub work_once-first-requires : goal.work_once-first-requires
work_once-first-requires g c = (last_worker _ _ _ _ c.in-Ok.ensures.workers c.in-Some-Some.ensures'.items).0

pub work_once-second-requires : goal.work_once-second-requires
work_once-second-requires g c = c.work_once-first.ensures.board ∙ (last_worker _ _ _ _ c.in-Ok.ensures.workers c.in-Some-Some.ensures'.items).0

pub work_once-third-requires : goal.work_once-third-requires
work_once-third-requires g c = c.work_once-second.ensures.board ∙ c.work_once-first.ensures.board ∙ (last_worker _ _ _ _ c.in-Ok.ensures.workers c.in-Some-Some.ensures'.items).0

pub collect-requires : goal.collect-requires
collect-requires g c = c.submit-refused.ensures.board ∙ c.submit-2.ensures.board ∙ c.submit.ensures.board ∙ (last_table _ _ _ _ _ c.in-Ok.ensures.tables c.in-Some-Some.ensures.items).0

pub submit-requires-3 : goal.submit-requires-3
submit-requires-3 g c = ap (λ (s : TableState). s.board) c.take-2.ensures.same ∙ ap (λ (s : TableState). s.board) c.take.ensures.same ∙ c.collect.ensures.same.0 ∙ c.submit-refused.ensures.board ∙ c.submit-2.ensures.board ∙ c.submit.ensures.board ∙ (last_table _ _ _ _ _ c.in-Ok.ensures.tables c.in-Some-Some.ensures.items).0

pub stopped-requires : goal.stopped-requires
stopped-requires g c = c.work_once-third.ensures.board ∙ c.work_once-second.ensures.board ∙ c.work_once-first.ensures.board ∙ (last_worker _ _ _ _ c.in-Ok.ensures.workers c.in-Some-Some.ensures'.items).0

pub stopped-requires-2 : goal.stopped-requires-2
stopped-requires-2 g c = ap (λ (w : WorkerState). w.board) c.stopped.ensures.looks ∙ c.work_once-third.ensures.board ∙ c.work_once-second.ensures.board ∙ c.work_once-first.ensures.board ∙ (last_worker _ _ _ _ c.in-Ok.ensures.workers c.in-Some-Some.ensures'.items).0
