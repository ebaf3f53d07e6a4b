use Rattle.std.proofs.Common.{length, ap, arith}
use Rattle.riichi_tiles.specs.Tiles.{IsCounts}
use Rattle.riichi_split.proofs.Marks.{AreStandard, open-waits, closed-waits, all_marked, few_melds}
use Rattle.riichi_cuts.proofs.waiting.waits_with.Goals as goal

pub returns-then-count-gt0-clause-each : goal.returns-then-count-gt0-clause-each
returns-then-count-gt0-clause-each g c =
    let hand = c.args.hand.now in
    let counts : IsCounts hand.concealed = rw c.concealed-tiles.ensures.value at c.as_array.ensures.counts in
    let standard : AreStandard hand c.standard_waits-waits.result = rw (c.as_array.ensures.value, c.concealed-tiles.ensures.value, c.count.ensures.value, c.melds-melds.ensures.value) at c.standard_waits-waits.ensures.kinds in
    open-waits hand c.standard_waits-waits.result c.with_tiles_left.result counts (omega (arith, ap length c.melds-melds.ensures.value, c.if-count-gt0.true, c.count-2.ensures.value)) standard (rw (c.concealed-tiles.ensures.value, c.melds-melds.ensures.value) at c.with_tiles_left.ensures)

pub returns-then-count-gt0-clause-value : goal.returns-then-count-gt0-clause-value
returns-then-count-gt0-clause-value g c =
    let hand = c.args.hand.now in
    let counts : IsCounts hand.concealed = rw c.concealed-tiles.ensures.value at c.as_array.ensures.counts in
    all_marked hand c.with_tiles_left.result counts (few_melds hand c.melds-melds.ensures.hand) (returns-then-count-gt0-clause-each g c)

pub returns-clause-each : goal.returns-clause-each
returns-clause-each g c =
    let hand = c.args.hand.now in
    let counts : IsCounts hand.concealed = rw c.concealed-tiles.ensures.value at c.as_array.ensures.counts in
    let standard : AreStandard hand c.standard_waits-waits.result = rw (c.as_array.ensures.value, c.concealed-tiles.ensures.value, c.count.ensures.value, c.melds-melds.ensures.value) at c.standard_waits-waits.ensures.kinds in
    closed-waits hand c.standard_waits-waits.result c.mark_special_waits.new.marks counts (omega (arith, ap length c.melds-melds.ensures.value, c.if-count-gt0.false, c.count-2.ensures.value)) standard (rw c.concealed-tiles.ensures.value at c.mark_special_waits.ensures)

pub returns-clause-value : goal.returns-clause-value
returns-clause-value g c =
    let hand = c.args.hand.now in
    let counts : IsCounts hand.concealed = rw c.concealed-tiles.ensures.value at c.as_array.ensures.counts in
    all_marked hand c.mark_special_waits.new.marks counts (few_melds hand c.melds-melds.ensures.hand) (returns-clause-each g c)
