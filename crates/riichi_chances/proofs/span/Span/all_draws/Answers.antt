use Rattle.std.proofs.Common.{◌≡◌, ◌+◌, ◌*◌, ◌<◌, length-set, refl, replicate, sym, ap, ◌∙◌, arith}
use Rattle.std.proofs.lemmas.List.{get_or_default}
use Rattle.riichi_chances.specs.Draws.{all_draws}
use Rattle.riichi_chances.specs.Numbers.{unseen_at}
use Rattle.riichi_chances.proofs.BoundLemmas.{all_few}
use Rattle.riichi_chances.proofs.SpanLemmas.{all_step, first_draws, product_fits, put_each}
use Rattle.riichi_chances.proofs.span.Span.all_draws.Goals as goal

pub loop-left-init : goal.loop-left-init
loop-left-init c = record {
  long = refl;
  each = first_draws c.args.self (replicate 19 c.of-all.result) c.of-all.ensures;
}

pub overflow_mul-unseen : goal.overflow_mul-unseen
overflow_mul-unseen c =
    let left = c.loop-left.left in
    let low : c.loop-left.left < c.args.self.turns = omega arith in
    let fits = product_fits left c.args.self.turns c.unseen_at-unseen.result c.number-later.result low c.requires.turns (omega (arith, c.unseen_at-unseen.ensures, c.requires.unseen))
    (omega (arith, c.number-later.ensures, get_or_default c.loop-left.all left c.index-all-left.result 0 (omega (arith, c.loop-left.invariant.long, low, c.requires.turns)), c.loop-left.invariant.each left (omega arith), all_few (unseen_at c.args.self left) left (omega (arith, c.requires.unseen)))) in
    omega (arith, fits)

pub loop-left-preserved : goal.loop-left-preserved
loop-left-preserved c =
    let left = c.loop-left.left in
    let low : c.loop-left.left < c.args.self.turns = omega arith in
    record {
      long = length-set c.loop-left.all (left + 1) c.of.result ∙ c.loop-left.invariant.long;
      each = put_each c.loop-left.all left c.of.result (omega (arith, c.loop-left.invariant.long, low, c.requires.turns)) (λ k n. n ≡ all_draws (unseen_at c.args.self k) k) c.loop-left.invariant.each
          (c.of.ensures ∙ ap (λ n. c.unseen_at-unseen.result * n) (c.number-later.ensures ∙ get_or_default c.loop-left.all left c.index-all-left.result 0 (omega (arith, c.loop-left.invariant.long, low, c.requires.turns)) ∙ c.loop-left.invariant.each left (omega arith)) ∙ ap (λ n. n * all_draws (unseen_at c.args.self left) left) c.unseen_at-unseen.ensures ∙ sym (all_step c.args.self left low));
    }
