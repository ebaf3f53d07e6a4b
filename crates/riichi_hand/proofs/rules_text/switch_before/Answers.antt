use Rattle.std.proofs.Common.{arith}
use Rattle.riichi_hand.proofs.RulesTexts.{each_word}
use Rattle.riichi_hand.proofs.rules_text.switch_before.Goals as goal

pub returns : goal.returns
returns c = each_word c.args.text.now c.loop-switch.switch-index (omega arith) c.loop-switch.invariant
