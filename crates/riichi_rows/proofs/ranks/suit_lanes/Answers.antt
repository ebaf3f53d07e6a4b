use Rattle.std.proofs.Common.{arith}
use Rattle.std.specs.Int.Bits.{and_zero_l}
use Rattle.riichi_rows.specs.Ranks.{OpenLeast}
use Rattle.riichi_rows.specs.Seen.{open_seen}
use Rattle.riichi_rows.proofs.MarkedRanks.{caps_from, drop_short, few_open, small_lanes, whole_suit}
use Rattle.riichi_rows.proofs.ranks.suit_lanes.Goals as goal

pub returns : goal.returns
returns c =
    let counts = c.args.counts.now in
    let caps = c.args.caps.now in
    let later = c.later_ranks-later.result in
    let are = c.later_ranks-later.ensures in
    let few = few_open c.args.runs _ _ (caps_from caps 1 c.requires.caps (omega arith)) (drop_short caps 1 (omega arith)) (open_seen 0 later) are.plain in
    whole_suit c.args.runs counts caps (omega arith) (omega arith) (OpenLeast c.args.runs later) c.before-all.result.zero.zero c.before-first.result.zero.zero _
    (λ other cs ks least. (c.before-all.ensures.others other cs ks (and_zero_l other) few least).zero_open.zero_begun)
    (λ cs ks least. (c.before-first.ensures.others 0 cs ks (and_zero_l 0) few least).zero_open.zero_begun)
    are c.with_one.ensures.few c.with_one.ensures.many _

pub invariant_of-result : goal.invariant_of-result
invariant_of-result c =
    let counts = c.args.counts.now in
    let caps = c.args.caps.now in
    let are = c.later_ranks-later.ensures in
    let few = few_open c.args.runs _ _ (caps_from caps 1 c.requires.caps (omega arith)) (drop_short caps 1 (omega arith)) (open_seen 0 c.later_ranks-later.result) are.plain in
    let least = (c.before-all.ensures.others 0 _ _ (and_zero_l 0) few are.plain).zero_open.zero_begun in
    record { small = small_lanes c.args.runs counts caps (omega arith) (omega arith) c.requires.caps c.before-all.result.zero.zero least }
