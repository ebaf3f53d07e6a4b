use Rattle.std.proofs.Common.{sym, ◌∙◌, arith}
use Rattle.riichi_shape.proofs.LiveLemmas.{empty_is, live_is}
use Rattle.riichi_shape.proofs.live_list.LiveList.live.Goals as goal

pub returns-clause-value : goal.returns-clause-value
returns-clause-value c =
    live_is c.self.inside.copies c.args.self.now c.loop-copies.live c.loop-copies.copies-index c.self.view_is c.self.invariant.counts.each_kind c.loop-copies.invariant.total (omega arith)

pub returns-clause-none : goal.returns-clause-none
returns-clause-none c = λ none. empty_is c.self.inside.copies c.args.self.now c.self.view_is (sym (returns-clause-value c) ∙ none)
