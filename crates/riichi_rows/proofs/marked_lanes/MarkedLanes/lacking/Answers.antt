use Rattle.std.proofs.Common.{refl}
use Rattle.riichi_rows.proofs.MarkLemmas.{length_marked_all, more_of_others, more_of_its_own, more_sound}
use Rattle.riichi_rows.proofs.marked_lanes.MarkedLanes.lacking.Goals as goal

pub invariant_of-result : goal.invariant_of-result
invariant_of-result c =
    let own = c.args.self in
    let cost = c.args.cost in
    record {
      sixteen = length_marked_all own.marks cost.mark own.sixteen;
      sound = more_sound own.marks cost.mark own.sixteen own.lacks.lacks c.lacking.result.lacks cost.mark cost.tiles (λ some. refl, cost.unmarked) own.sound c.lacking.ensures;
    }

pub returns-clause-others : goal.returns-clause-others
returns-clause-others c bit other s p is hs hp =
    let own = c.args.self in
    let cost = c.args.cost in
    more_of_others own.marks cost.mark own.sixteen own.lacks.lacks c.lacking.result.lacks bit cost.tiles is own.sound c.lacking.ensures s p hs hp other

pub returns-clause-own : goal.returns-clause-own
returns-clause-own c bit s p is hs hp =
    let own = c.args.self in
    let cost = c.args.cost in
    more_of_its_own own.marks cost.mark own.sixteen own.lacks.lacks c.lacking.result.lacks bit cost.tiles is own.sound c.lacking.ensures s p hs hp
