use Rattle.std.proofs.Common.{length}
use Rattle.riichi_hand.proofs.RulesTexts.{IsReadTo}
use Rattle.riichi_hand.proofs.rules_text.read_rules.Given as goal

abbrev pub invariant-loop-sign : goal.invariant-loop-sign
invariant-loop-sign l = IsReadTo l.text l.rest l.rules

abbrev pub decreases-loop-sign : goal.decreases-loop-sign
decreases-loop-sign l = length l.rest
