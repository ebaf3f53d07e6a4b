use Rattle.std.proofs.Common.{ℕ, ◌+◌, sym, subst, ap, ◌∙◌}
use Rattle.std.specs.Prelude.{Option}
use Rattle.riichi_need.specs.Reaching.{reaches}
use Rattle.riichi_need.specs.Winning.{way_by}
use Rattle.riichi_need.specs.Needs.{IsLeast, lesser}
use Rattle.riichi_need.proofs.Least.{IsRowBelow, with_next}
use Rattle.riichi_need.proofs.need.least_of.Goals as goal

pub loop-fu-preserved : goal.loop-fu-preserved
loop-fu-preserved c =
    let rules = c.args.question.now.rules.hand in
    let by = way_by c.args.way in
    let passes = reaches c.args.question.now c.args.aim c.args.way in
    let index = c.loop-fu.fu-index in
    let next = with_next rules by passes c.args.han index c.loop-fu.least c.loop-fu.invariant.least in
    let is = c.lesser-least.ensures.value ∙ ap (lesser c.loop-fu.least) c.base_passing.ensures.value in
    record {
      least = subst (λ (r : Option ℕ). IsLeast (IsRowBelow rules by c.args.han (index + 1)) passes r) (sym is) next;
      most = c.lesser-least.ensures.most;
    }
