use Rattle.std.proofs.Common.{rules, arith}
use Rattle.desk_run.proofs.Allowed.{may_split}
use Rattle.desk_run.proofs.board.Board.another.Goals as goal

pub split_seat-requires : goal.split_seat-requires
split_seat-requires c = (search rules, omega arith, may_split _ c.args.self.now.size _ c.args.seat.now.me.0 c.args.self.now.keyed c.requires.new)
