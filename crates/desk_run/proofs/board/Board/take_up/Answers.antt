use Rattle.std.proofs.Common.{rules, arith}
use Rattle.desk_run.proofs.Allowed.{may_take_up}
use Rattle.desk_run.proofs.board.Board.take_up.Goals as goal

pub store-requires : goal.store-requires
store-requires c = (search rules, omega arith, may_take_up _ c.args.self.now.size _ _ _ _ c.args.self.now.keyed c.args.self.now.sized.1 c.args._offset c.requires.table.0 (omega arith) c.requires.fresh)
