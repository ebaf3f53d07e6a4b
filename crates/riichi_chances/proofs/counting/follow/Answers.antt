use Rattle.std.proofs.Common.{◌≡◌, ◌+◌, ◌-◌, ◌*◌, ◌<◌, ◌≤◌, get_or, length, length-set, ap, ◌∙◌, arith}
use Rattle.std.proofs.lemmas.List.{get_or_default}
use Rattle.riichi_chances.specs.Bests.{begun_by}
use Rattle.riichi_chances.specs.Graph.{draws_value, placed_number}
use Rattle.riichi_chances.specs.Numbers.{most_draws, unseen_at}
use Rattle.riichi_chances.proofs.BoundLemmas.{times_few}
use Rattle.riichi_chances.proofs.SpanLemmas.{most_next, next_fits, put_each, put_more, put_other, row_few}
use Rattle.riichi_chances.proofs.counting.follow.Goals as goal

pub overflow_mul-others : goal.overflow_mul-others
overflow_mul-others c =
    let left = c.loop-left.left in
    let row = c.loop-left.row in
    let own = c.number-own.result in
    let low : c.loop-left.left < c.args.span.turns = omega arith in
    let own_is : c.number-own.result ≡ get_or c.loop-left.row c.loop-left.left 0 = c.number-own.ensures ∙ get_or_default row left _ 0 (omega (arith, c.loop-left.invariant.long, low, c.requires.turns)) in
    let small_own : c.number-own.result ≤ most_draws c.loop-left.left = omega (arith, own_is, c.loop-left.invariant.few left (omega arith)) in
    let begun_is : c.begun-begun.result ≡ begun_by c.args.column c.args.earlier.now c.args.draws.now c.loop-left.left c.number-own.result = c.begun-begun.ensures ∙ ap (λ n. draws_value (placed_number c.args.column c.args.earlier.now left) n c.args.draws.now) c.least.ensures in
    let small_begun : c.begun-begun.result ≤ c.args.live * most_draws c.loop-left.left = omega (arith, begun_is, c.requires.few left own low small_own) in
    let few : c.unseen_at.result ≤ 136 = omega (arith, c.unseen_at.ensures, c.requires.unseen) in
    let others : c.saturating_sub-others.result ≡ c.unseen_at.result - c.args.live = c.saturating_sub-others.ensures in
    let bound = row_few c.unseen_at.result c.args.live own c.begun-begun.result left few c.requires.live small_own small_begun in
    omega (arith, next_fits left c.args.span.turns (c.saturating_sub-others.result * own) low c.requires.turns (omega (arith, bound, ap (λ n. n * own) others)))

pub overflow_add-others : goal.overflow_add-others
overflow_add-others c =
    let left = c.loop-left.left in
    let row = c.loop-left.row in
    let own = c.number-own.result in
    let low : c.loop-left.left < c.args.span.turns = omega arith in
    let own_is : c.number-own.result ≡ get_or c.loop-left.row c.loop-left.left 0 = c.number-own.ensures ∙ get_or_default row left _ 0 (omega (arith, c.loop-left.invariant.long, low, c.requires.turns)) in
    let small_own : c.number-own.result ≤ most_draws c.loop-left.left = omega (arith, own_is, c.loop-left.invariant.few left (omega arith)) in
    let begun_is : c.begun-begun.result ≡ begun_by c.args.column c.args.earlier.now c.args.draws.now c.loop-left.left c.number-own.result = c.begun-begun.ensures ∙ ap (λ n. draws_value (placed_number c.args.column c.args.earlier.now left) n c.args.draws.now) c.least.ensures in
    let small_begun : c.begun-begun.result ≤ c.args.live * most_draws c.loop-left.left = omega (arith, begun_is, c.requires.few left own low small_own) in
    let few : c.unseen_at.result ≤ 136 = omega (arith, c.unseen_at.ensures, c.requires.unseen) in
    let others : c.saturating_sub-others.result ≡ c.unseen_at.result - c.args.live = c.saturating_sub-others.ensures in
    let bound = row_few c.unseen_at.result c.args.live own c.begun-begun.result left few c.requires.live small_own small_begun in
    omega (arith, next_fits left c.args.span.turns (c.saturating_sub-others.result * own + c.begun-begun.result) low c.requires.turns (omega (arith, bound, ap (λ n. n * own) others)))

pub loop-left-preserved : goal.loop-left-preserved
loop-left-preserved c =
    let left = c.loop-left.left in
    let row = c.loop-left.row in
    let own = c.number-own.result in
    let next = c.of.result in
    let low : c.loop-left.left < c.args.span.turns = omega arith in
    let own_is : c.number-own.result ≡ get_or c.loop-left.row c.loop-left.left 0 = c.number-own.ensures ∙ get_or_default row left _ 0 (omega (arith, c.loop-left.invariant.long, low, c.requires.turns)) in
    let small_own : c.number-own.result ≤ most_draws c.loop-left.left = omega (arith, own_is, c.loop-left.invariant.few left (omega arith)) in
    let begun_is : c.begun-begun.result ≡ begun_by c.args.column c.args.earlier.now c.args.draws.now c.loop-left.left c.number-own.result = c.begun-begun.ensures ∙ ap (λ n. draws_value (placed_number c.args.column c.args.earlier.now left) n c.args.draws.now) c.least.ensures in
    let small_begun : c.begun-begun.result ≤ c.args.live * most_draws c.loop-left.left = omega (arith, begun_is, c.requires.few left own low small_own) in
    let long : c.loop-left.left + 1 < length c.loop-left.row = omega (arith, c.loop-left.invariant.long, low, c.requires.turns) in
    let few : c.unseen_at.result ≤ 136 = omega (arith, c.unseen_at.ensures, c.requires.unseen) in
    let others : c.saturating_sub-others.result ≡ unseen_at c.args.span (c.loop-left.left + 1) - c.args.live = c.saturating_sub-others.ensures ∙ ap (λ n. n - c.args.live) c.unseen_at.ensures in
    let bound = row_few c.unseen_at.result c.args.live own c.begun-begun.result left few c.requires.live small_own small_begun in
    record {
      long = length-set row (left + 1) next ∙ c.loop-left.invariant.long;
      none = put_other row left next long 0 (omega arith) ∙ c.loop-left.invariant.none;
      more = put_more row left next long (λ k n. (unseen_at c.args.span (k + 1) - c.args.live) * n + begun_by c.args.column c.args.earlier.now c.args.draws.now k n) c.loop-left.invariant.more
          (c.of.ensures ∙ ap (λ n. n * own + c.begun-begun.result) others ∙ ap (λ n. (unseen_at c.args.span (left + 1) - c.args.live) * own + n) begun_is ∙ ap (λ n. (unseen_at c.args.span (left + 1) - c.args.live) * n + begun_by c.args.column c.args.earlier.now c.args.draws.now left n) own_is);
      few = put_each row left next long (λ k n. n ≤ most_draws k) c.loop-left.invariant.few (omega (arith, c.of.ensures, bound, most_next left, ap (λ n. n * own) c.saturating_sub-others.ensures));
    }

pub begun-begun-requires-clause-fits : goal.begun-begun-requires-clause-fits
begun-begun-requires-clause-fits c =
    let left = c.loop-left.left in
    let row = c.loop-left.row in
    let own = c.number-own.result in
    let low : c.loop-left.left < c.args.span.turns = omega arith in
    let own_is : c.number-own.result ≡ get_or c.loop-left.row c.loop-left.left 0 = c.number-own.ensures ∙ get_or_default row left _ 0 (omega (arith, c.loop-left.invariant.long, low, c.requires.turns)) in
    let small_own : c.number-own.result ≤ most_draws c.loop-left.left = omega (arith, own_is, c.loop-left.invariant.few left (omega arith)) in
    let few = c.requires.few left own low small_own in
    omega (
      arith,
      next_fits left c.args.span.turns (draws_value (placed_number c.args.column c.args.earlier.now left) c.least.result c.args.draws.now) low c.requires.turns
          (omega (arith, few, ap (λ n. draws_value (placed_number c.args.column c.args.earlier.now left) n c.args.draws.now) c.least.ensures, times_few c.args.live 136 (most_draws left) (most_draws left) c.requires.live (omega arith))),
    )
