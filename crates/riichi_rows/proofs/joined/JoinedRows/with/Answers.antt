use Rattle.std.proofs.Common.{subst, sym}
use Rattle.riichi_tiles.specs.Suits.{of_suit}
use Rattle.riichi_rows.specs.Lanes.{lane}
use Rattle.riichi_rows.specs.declared.row.SuitRow.{SuitRow}
use Rattle.riichi_rows.proofs.Joins.{LeastTaken, taken_entry}
use Rattle.riichi_rows.proofs.Opposite.{opposite_sums, taken_least}
use Rattle.riichi_rows.proofs.joined.JoinedRows.with.Goals as goal

pub returns : goal.returns
returns c = λ suit rows own are.
    (let row = lane c.args.row.now.entries.lacks in
    let others = lane c.args.self.now.sums.lacks in
    let sets = c.args.sets in
    let sum = opposite_sums row others c.opposite.result.lacks c.add_lanes-sums.result.lacks sets c.add_lanes-sums.ensures c.opposite.ensures in
    let whole : LeastTaken row others sets c.least.result = taken_least row others c.add_lanes-sums.result.lacks sets c.least.result c.requires sum c.least.ensures.bound c.least.ensures.reached in
    rw c.entry.ensures (taken_entry (λ s. lane (of_suit rows s).entries.lacks) suit are.last_two others are.two_least are.least sets c.requires c.least.result
    (subst (λ (r : SuitRow). LeastTaken (lane r.entries.lacks) others sets c.least.result) (sym own) whole) (λ s. (of_suit rows s).small)))
