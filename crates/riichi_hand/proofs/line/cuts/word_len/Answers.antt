use Rattle.std.proofs.Common.{rules, refl, drop-cons}
use Rattle.riichi_hand.proofs.WordLemmas.{word_end}
use Rattle.riichi_hand.proofs.line.cuts.word_len.Goals as goal

pub returns-after-loop-len-clause-rest : goal.returns-after-loop-len-clause-rest
returns-after-loop-len-clause-rest c = search rules

pub returns-after-loop-len-clause-place : goal.returns-after-loop-len-clause-place
returns-after-loop-len-clause-place c = word_end c.args.text.now c.loop-len.len c.loop-len.invariant.0 c.loop-len.invariant.1 (returns-after-loop-len-clause-rest c)

pub returns-else-text-len-ne32-clause-rest : goal.returns-else-text-len-ne32-clause-rest
returns-else-text-len-ne32-clause-rest c = λ more. rw (drop-cons c.args.text.now c.loop-len.len 0 more, c.if-text-len-ne32.false) refl

pub returns-else-text-len-ne32-clause-place : goal.returns-else-text-len-ne32-clause-place
returns-else-text-len-ne32-clause-place c = word_end c.args.text.now c.loop-len.len c.loop-len.invariant.0 c.loop-len.invariant.1 (returns-else-text-len-ne32-clause-rest c)
