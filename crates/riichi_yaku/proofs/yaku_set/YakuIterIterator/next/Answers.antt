use Rattle.std.proofs.Common.{◌∙◌, sym, rules, arith}
use Rattle.riichi_yaku.proofs.InOrder.{first_yaku}
use Rattle.riichi_yaku.proofs.yaku_set.YakuIterIterator.next.Goals as goal

pub returns-clause-steps : goal.returns-clause-steps
returns-clause-steps c = sym c.self.view_is ∙ first_yaku c.self.inside.rest c.at.result (omega arith) c.self.invariant c.at.ensures

pub returns-clause-goes : goal.returns-clause-goes
returns-clause-goes c =
    let left = sym c.self.view_is ∙ first_yaku c.self.inside.rest c.at.result (omega arith) c.self.invariant c.at.ensures in
    rw left (search rules)
