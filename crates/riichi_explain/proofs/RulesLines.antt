-- The line of the rules begins with two spaces, and ends with its line feed.
use Rattle.std.proofs.Common.{◌≡◌, ℕ, List, [], ◌++◌, Bool, true, false, cond, refl}
use Rattle.std.specs.Prelude.{◌&&◌, codes}
use Rattle.std.specs.Bool.{beq}
use Rattle.std.specs.List.{flat_map}
use Rattle.riichi_hand.specs.Rules.{Rules, every_switch, first_profile, second_profile, switch_word, is_on}
use Rattle.riichi_hand.specs.declared.switch.Switch.{Switch}
use Rattle.riichi_hand.specs.declared.switch.Switch.TheVariants as switch
use Rattle.riichi_hand.specs.RulesWords.{sign, change_words, changed_words, rules_words, is_house, house_words}
use Rattle.riichi_explain.specs.Explanation.{rules_line}
use Rattle.riichi_explain.specs.Text.{line_feed}
use Rattle.riichi_explain.proofs.PlainTexts.{plain, after, flat_map-plain, are_indented, either-plain, pass}

switch_word-plain : (which : Switch) → plain (switch_word which) ≡ true
switch_word-plain switch.RedFives = refl
switch_word-plain _ = refl

sign-plain : (on : Bool) → plain (sign on) ≡ true
sign-plain true = refl
sign-plain false = refl

change_words-plain : (profile house : Rules) (which : Switch) → plain (change_words profile house which) ≡ true
unfolding change_words
change_words-plain profile house which =
    let words = sign (is_on which house) ++ switch_word which in
    either-plain (beq (is_on which house) (is_on which profile)) [] words refl (after (sign (is_on which house)) (switch_word which) (sign-plain (is_on which house)) (switch_word-plain which))

changed_words-plain : (number : List ℕ) (profile house : Rules) → plain number ≡ true → plain (changed_words number profile house) ≡ true
unfolding changed_words
changed_words-plain number profile house p =
    after number (flat_map (change_words profile house) every_switch) p (flat_map-plain (change_words profile house) every_switch (change_words-plain profile house))

rules_words-plain : (house : Rules) → plain (rules_words house) ≡ true
unfolding rules_words
rules_words-plain house =
    either-plain (is_on switch.RedFives house && is_on switch.Raise house) (changed_words (codes "2") second_profile house) (changed_words (codes "1") first_profile house)
    (changed_words-plain (codes "2") second_profile house refl) (changed_words-plain (codes "1") first_profile house refl)

pub rules_line-lines : (rules : Rules) → are_indented (rules_line rules) ≡ true
unfolding house_words
rules_line-lines rules =
    let words = rules_words rules in
    elim (is_house rules) as (λ test. are_indented (cond test (codes "  rules   " ++ words ++ line_feed) []) ≡ true)
    [ true ↦ pass (codes "rules   " ++ words) line_feed (rules_words-plain rules) | false ↦ refl ]
