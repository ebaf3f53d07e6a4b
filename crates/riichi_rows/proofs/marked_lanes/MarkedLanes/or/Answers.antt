use Rattle.riichi_rows.proofs.MarkLemmas.{length_both_kept, or_marked, or_sound}
use Rattle.riichi_rows.proofs.marked_lanes.MarkedLanes.or.Goals as goal

pub invariant_of-result : goal.invariant_of-result
invariant_of-result c =
    let own = c.args.self in
    let their = c.args.other in
    record {
      sixteen = length_both_kept own.lacks.lacks their.lacks.lacks own.marks their.marks own.lacks.sixteen their.lacks.sixteen own.sixteen their.sixteen;
      sound = or_sound own.lacks.lacks their.lacks.lacks own.marks their.marks own.lacks.sixteen their.lacks.sixteen own.sixteen their.sixteen c.or.result.lacks c.or.ensures own.sound their.sound;
    }

pub returns : goal.returns
returns c =
    let own = c.args.self in
    let their = c.args.other in
    or_marked own.lacks.lacks their.lacks.lacks own.marks their.marks own.lacks.sixteen their.lacks.sixteen own.sixteen their.sixteen c.or.result.lacks c.or.ensures
