use Rattle.std.proofs.Common.{rules, arith, refl}
use Rattle.desk_run.proofs.Allowed.{may_enter_worker}
use Rattle.desk_run.proofs.board.Board.enter_worker.Goals as goal

pub compare_exchange-requires : goal.compare_exchange-requires
compare_exchange-requires c = (search rules, omega arith, may_enter_worker _ c.args.self.now.size _ _ _ _ c.args.self.now.keyed c.args.self.now.sized.1 c.args.number c.requires.new.0 refl c.requires.new.1 c.requires.new.2)
