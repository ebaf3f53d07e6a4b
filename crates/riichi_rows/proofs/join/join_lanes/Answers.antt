use Rattle.std.proofs.Common.{◌≡◌, ◌<◌, ◌+◌, length, get_or, arith}
use Rattle.std.proofs.lemmas.List.{get_or_default}
use Rattle.riichi_rows.specs.Lanes.{lane}
use Rattle.riichi_rows.proofs.Joins.{none_so_far, moved_first, moved_more, more, least_sum}
use Rattle.riichi_rows.proofs.join.join_lanes.Goals as goal

pub loop-sets-init : goal.loop-sets-init
loop-sets-init c = record { least = none_so_far _ _ _ c.none-best.ensures; moved = moved_first _ }

pub loop-sets-preserved : goal.loop-sets-preserved
loop-sets-preserved c =
    let n = c.loop-sets.sets in
    let left = c.args.left.lacks in
    let below : n < 5 = c.loop-sets-test.true in
    let long : length left ≡ 16 = c.args.left.sixteen in
    record {
      least = more (lane left) (lane c.args.right.lacks) (lane c.loop-sets.best.lacks) (lane c.loop-sets.moved.lacks) (lane c.or-best.result.lacks) n (get_or left n 0) (get_or left (8 + n) 0)
          (omega arith) c.loop-sets.invariant.moved c.loop-sets.invariant.least (get_or_default left n 0 255 (omega arith)) (get_or_default left (8 + n) 0 255 (omega arith))
          (λ s p hs hp. cc (c.or-best.ensures s p hs hp, c.or.ensures s p hs hp, c.lacking-plain.ensures s p hs hp, c.lacking-paired.ensures s p hs hp, c.with_pair.ensures s p hs hp));
      moved = moved_more (lane c.args.right.lacks) (lane c.loop-sets.moved.lacks) _ n c.loop-sets.invariant.moved c.with_set-moved.ensures;
    }

pub returns : goal.returns
returns c =
    let all : c.loop-sets.sets ≡ 5 = omega arith in
    least_sum _ _ _ (rw all at c.loop-sets.invariant.least)
