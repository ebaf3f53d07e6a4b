use Rattle.std.proofs.Common.{◌≡◌, ◌+◌, ◌-◌, ◌*◌, ◌<◌, ◌≤◌, get_or, length, length-set, ap, ◌∙◌, arith}
use Rattle.std.proofs.lemmas.List.{get_or_default}
use Rattle.riichi_chances.specs.Numbers.{unseen_at}
use Rattle.riichi_chances.proofs.SpanLemmas.{put_each, put_more, put_other}
use Rattle.riichi_worth.specs.Rows.{most_points}
use Rattle.riichi_worth.proofs.PlacedLemmas.{next_few, points_fit}
use Rattle.riichi_worth.proofs.counting.follow.Goals as goal

pub plus_times-next-requires : goal.plus_times-next-requires
plus_times-next-requires c =
    let left = c.loop-left.left in
    let row = c.loop-left.points in
    let begun = c.args.begun.now in
    let low : c.loop-left.left < c.args.span.turns = omega arith in
    let inside : c.loop-left.left < 19 = omega (arith, low, c.requires.turns) in
    let few : c.unseen_at.result ≤ 136 = omega (arith, c.unseen_at.ensures, c.requires.unseen) in
    let own = get_or_default row left c.index-points-left.result 0 (omega (arith, c.loop-left.invariant.long, inside)) in
    let first = get_or_default begun left c.index-begun-left.result 0 (omega (arith, inside)) in
    let others : c.from.result ≡ c.unseen_at.result - c.args.live = c.from.ensures ∙ c.saturating_sub-others.ensures in
    points_fit (left + 1) _ (omega (arith, low, c.requires.turns))
    (omega (arith, next_few c.unseen_at.result c.args.live (get_or row left 0) (get_or begun left 0) left few c.requires.live (c.loop-left.invariant.few left (omega arith)) (c.requires.few left low), first, ap (λ n. n * get_or row left c.index-points-left.result) others, ap (λ n. (c.unseen_at.result - c.args.live) * n) own))

pub loop-left-preserved : goal.loop-left-preserved
loop-left-preserved c =
    let left = c.loop-left.left in
    let row = c.loop-left.points in
    let begun = c.args.begun.now in
    let next = c.plus_times-next.result in
    let low : c.loop-left.left < c.args.span.turns = omega arith in
    let inside : c.loop-left.left < 19 = omega (arith, low, c.requires.turns) in
    let few : c.unseen_at.result ≤ 136 = omega (arith, c.unseen_at.ensures, c.requires.unseen) in
    let own = get_or_default row left c.index-points-left.result 0 (omega (arith, c.loop-left.invariant.long, inside)) in
    let first = get_or_default begun left c.index-begun-left.result 0 (omega (arith, inside)) in
    let others : c.from.result ≡ c.unseen_at.result - c.args.live = c.from.ensures ∙ c.saturating_sub-others.ensures in
    let long : c.loop-left.left + 1 < length c.loop-left.points = omega (arith, c.loop-left.invariant.long, low, c.requires.turns) in
    let value : c.plus_times-next.result ≡ get_or c.args.begun.now c.loop-left.left 0 + (c.unseen_at.result - c.args.live) * get_or c.loop-left.points c.loop-left.left 0 =
    omega (arith, c.plus_times-next.ensures, first, ap (λ n. n * get_or row left c.index-points-left.result) others, ap (λ n. (c.unseen_at.result - c.args.live) * n) own) in
    record {
      long = length-set row (left + 1) next ∙ c.loop-left.invariant.long;
      none = put_other row left next long 0 (omega arith) ∙ c.loop-left.invariant.none;
      more = put_more row left next long (λ k n. (unseen_at c.args.span (k + 1) - c.args.live) * n + get_or begun k 0) c.loop-left.invariant.more
          (omega (arith, value, ap (λ n. (n - c.args.live) * get_or row left 0) c.unseen_at.ensures));
      few = put_each row left next long (λ k n. n ≤ most_points k) c.loop-left.invariant.few (omega (arith, value, next_few c.unseen_at.result c.args.live (get_or row left 0) (get_or begun left 0) left few c.requires.live (c.loop-left.invariant.few left (omega arith)) (c.requires.few left low)));
    }
