-- The words of rules are short.
use Rattle.std.proofs.Common.{◌≤◌, arith, length}
use Rattle.riichi_hand.specs.declared.switch.TheConstants.Switch.{MOST_WORD}
use Rattle.riichi_hand.specs.declared.switch.Switch.{Switch}
use Rattle.riichi_hand.specs.declared.switch.Switch.TheVariants as switch
use Rattle.riichi_hand.specs.Rules.{switch_word}

pub short_word : (which : Switch) → length (switch_word which) ≤ MOST_WORD
short_word switch.RedFives = omega arith
short_word _ = omega arith
