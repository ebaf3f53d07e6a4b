-- The words of rules, as the option `--rules` takes them: a profile, and behind it each rule that is another than there.
use Rattle.std.specs.Prelude.{ℕ, Bool, ◌&&◌, ◌||◌, ◌==◌, not, List, [], ◌++◌, codes, if◌then◌else◌}
use Rattle.std.specs.Bool.{beq}
use Rattle.std.specs.List.{flat_map}
use Rattle.riichi_hand.specs.Rules.{Rules, first_profile, second_profile, every_switch, switch_word, is_on}
use Rattle.riichi_hand.specs.declared.switch.Switch.{Switch}
use Rattle.riichi_hand.specs.declared.switch.Switch.TheVariants as switch

abbrev pub sign : Bool → List ℕ
sign on = if on then codes "+" else codes "-"

-- a rule that is as in the profile has no words
unfoldable pub change_words : Rules → Rules → Switch → List ℕ
change_words profile rules which = if beq (is_on which rules) (is_on which profile) then [] else sign (is_on which rules) ++ switch_word which

-- the number of a profile, and what is changed of it
unfoldable pub changed_words : List ℕ → Rules → Rules → List ℕ
changed_words number profile rules = number ++ flat_map (change_words profile rules) every_switch

-- The second profile is changed where both red fives and raised hands are on, else the first. From the other one there are as many
-- changes, or more.
unfoldable pub rules_words : Rules → List ℕ
rules_words rules =
    if is_on switch.RedFives rules && is_on switch.Raise rules then changed_words (codes "2") second_profile rules
    else changed_words (codes "1") first_profile rules

-- whether rules are neither profile
abbrev pub is_house : Rules → Bool
is_house rules = not ((rules == first_profile) || (rules == second_profile))

-- the words of such rules between two texts; of a profile nothing
unfoldable pub house_words : List ℕ → List ℕ → Rules → List ℕ
house_words before after rules = if is_house rules then before ++ rules_words rules ++ after else []
