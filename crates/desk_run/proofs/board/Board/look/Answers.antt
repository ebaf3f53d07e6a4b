use Rattle.std.proofs.Common.{rules, arith, refl}
use Rattle.desk_run.proofs.Allowed.{may_look}
use Rattle.desk_run.proofs.board.Board.look.Goals as goal

pub load-requires : goal.load-requires
load-requires c = (search rules, omega arith, may_look _ c.args.self.now.size _ _ _ _ c.args.self.now.keyed c.args.self.now.sized.1 c.requires.free.0 refl c.requires.free.1)
