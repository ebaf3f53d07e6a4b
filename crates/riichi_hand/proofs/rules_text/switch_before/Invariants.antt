use Rattle.std.proofs.Common.{◌≡◌, ◌<◌, ◌++◌, List, ℕ, false, get_or}
use Rattle.riichi_hand.specs.declared.switch.Switch.TheVariants.{RedFives}
use Rattle.riichi_hand.specs.Rules.{switch_word}
use Rattle.riichi_hand.specs.RulesText.{ends_word}
use Rattle.riichi_hand.proofs.rules_text.switch_before.Given as goal

-- no word so far stands there
abbrev pub invariant-loop-switch : goal.invariant-loop-switch
invariant-loop-switch l =
    (k : ℕ) → k < l.switch-index → (behind : List ℕ) → l.text ≡ switch_word (get_or l.switch-items k RedFives) ++ behind → ends_word behind ≡ false
