use Rattle.std.proofs.Common.{◌≡◌, ◌≤◌, ◌+◌, ◌*◌, ◌++◌, take}
use Rattle.std.specs.List.{flat_map}
use Rattle.arrayvec.specs.ArrayString.{array_string_len}
use Rattle.riichi_hand.specs.declared.rule_words.TheConstants.{MOST_CHANGE}
use Rattle.riichi_hand.specs.RulesWords.{change_words}
use Rattle.riichi_hand.proofs.rule_words.push_changes.Given as goal

-- the rules so far are written
abbrev pub invariant-loop-switch : goal.invariant-loop-switch
invariant-loop-switch g l =
    (l.text.bytes ≡ l.initial.text.bytes ++ flat_map (change_words l.profile l.rules) (take l.switch-index l.switches))
    × (array_string_len l.text ≤ array_string_len l.initial.text + l.switch-index * MOST_CHANGE)
