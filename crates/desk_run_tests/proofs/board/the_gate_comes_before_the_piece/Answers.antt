use Rattle.std.proofs.Common.{◌∙◌}
use Rattle.desk_run.proofs.Parting.{last_table, last_worker}
use Rattle.desk_run_tests.proofs.board.the_gate_comes_before_the_piece.Goals as goal

pub submit-requires : goal.submit-requires
submit-requires g c = (last_table _ _ _ _ _ c.in-Ok.ensures.tables c.in-Some-Some.ensures.items).0

pub new-gate-requires : goal.new-gate-requires
new-gate-requires g c = c.submit.ensures.board ∙ (last_table _ _ _ _ _ c.in-Ok.ensures.tables c.in-Some-Some.ensures.items).0

pub work_once-requires : goal.work_once-requires
work_once-requires g c = (last_worker _ _ _ _ c.in-Ok.ensures.workers c.in-Some-Some.ensures'.items).0
