use Rattle.std.proofs.Common.{rules, arith, refl}
use Rattle.desk_run.proofs.Allowed.{may_halt}
use Rattle.desk_run.proofs.board.Board.halt.Goals as goal

pub store-requires : goal.store-requires
store-requires c = (search rules, omega arith, may_halt _ c.args.self.now.size _ _ _ _ c.args.self.now.keyed c.args.self.now.sized.1 c.requires.stop refl)
