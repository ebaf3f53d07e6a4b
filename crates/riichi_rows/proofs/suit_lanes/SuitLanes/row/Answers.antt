use Rattle.std.proofs.Common.{arith}
use Rattle.riichi_rows.proofs.Blocks.{entry_least}
use Rattle.riichi_rows.proofs.Marked.{are_marks}
use Rattle.riichi_rows.proofs.MarkedRanks.{least_as_it_is}
use Rattle.riichi_rows.proofs.suit_lanes.SuitLanes.row.Goals as goal

pub returns : goal.returns
returns c = λ runs counts caps long caps_long few lanes.
    let plain = least_as_it_is runs counts caps c.args.self.all lanes.plain in
    record {
      least = record { entry = λ sets pairs hs hp. entry_least runs counts caps long caps_long few sets pairs _ (plain.at sets pairs (omega arith) (omega arith)) };
      marks = are_marks runs counts caps long caps_long few _ plain lanes.marks lanes.few lanes.many;
    }

pub invariant_of-result : goal.invariant_of-result
invariant_of-result c = record { sixteen = c.args.self.all.sixteen; sound = c.args.self.all.sound; small = c.args.self.small }
