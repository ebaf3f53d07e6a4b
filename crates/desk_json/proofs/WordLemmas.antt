-- Texts that need no escapes.
use Rattle.std.proofs.Common.{◌≡◌, ℕ, ◌+◌, ◌%◌, Bool, true, false, cond, ◌&&◌, List, [], ◌∷◌, ◌++◌, refl, ap, ◌∙◌, arith}
use Rattle.std.proofs.lemmas.Bool.{or_parts, and_parts, not-true, eqb-false, ltb-false}
use Rattle.std.proofs.lemmas.List.Folds.{list_all-append}
use Rattle.std.specs.Prelude.{◌==◌, codes}
use Rattle.std.specs.Bool.{beq}
use Rattle.std.specs.List.{list_all, flat_map}
use Rattle.json.specs.Run.{is_plain, is_stop}
use Rattle.json.specs.Print.{escape, escape_byte}
use Rattle.json.proofs.Printed.Strings.{escape_byte_plain}
use Rattle.riichi_text.specs.Tiles.{kind_text, letter_of}
use Rattle.riichi_text.proofs.Letters.{letter_high}
use Rattle.riichi_hand.specs.Rules.{Rules, every_switch, first_profile, second_profile, switch_word, is_on}
use Rattle.riichi_hand.specs.declared.switch.Switch.{Switch}
use Rattle.riichi_hand.specs.declared.switch.Switch.TheVariants as switch
use Rattle.riichi_hand.specs.RulesWords.{sign, change_words, changed_words, rules_words}
use Rattle.riichi_names.specs.Names.{japanese}
use Rattle.riichi_yaku.specs.declared.table.Yaku.{Yaku}
use Rattle.riichi_yaku.specs.declared.table.Yaku.TheVariants.{Riichi}
use Rattle.riichi_yaku.specs.Table.{word}

pub escape_same : (s : List ℕ) → list_all is_plain s ≡ true → escape s ≡ s
escape_same [] h = refl
escape_same (x ∷ xs) h =
    let both = and_parts (is_plain x) (list_all is_plain xs) h in
    let none = or_parts _ _ (not-true (is_stop x) both.0) in
    let tests = or_parts (x == 34) _ none.0 in
    ap (λ t. t ++ escape xs) (escape_byte_plain x (eqb-false x 34 tests.0) (eqb-false x 92 tests.1) (ltb-false x 32 none.1)) ∙ ap (λ t. x ∷ t) (escape_same xs both.1)

word_plain : (yaku : Yaku) → list_all is_plain (word yaku) ≡ true
word_plain Riichi = refl
word_plain other = refl

pub escape_word : (yaku : Yaku) → escape (word yaku) ≡ word yaku
escape_word yaku = escape_same (word yaku) (word_plain yaku)

name_plain : (yaku : Yaku) → list_all is_plain (japanese yaku) ≡ true
name_plain Riichi = refl
name_plain other = refl

pub escape_name : (yaku : Yaku) → escape (japanese yaku) ≡ japanese yaku
escape_name yaku = escape_same (japanese yaku) (name_plain yaku)

-- the words of rules

switch_word_plain : (which : Switch) → list_all is_plain (switch_word which) ≡ true
switch_word_plain switch.RedFives = refl
switch_word_plain _ = refl

sign_plain : (on : Bool) → list_all is_plain (sign on) ≡ true
sign_plain true = refl
sign_plain false = refl

both_plain : (s t : List ℕ) → list_all is_plain s ≡ true → list_all is_plain t ≡ true → list_all is_plain (s ++ t) ≡ true
both_plain s t p q = list_all-append is_plain s t ∙ ap (λ b. b && list_all is_plain t) p ∙ q

either_plain : (test : Bool) (s t : List ℕ) → list_all is_plain s ≡ true → list_all is_plain t ≡ true → list_all is_plain (cond test s t) ≡ true
either_plain true s t p q = p
either_plain false s t p q = q

change_plain : (profile house : Rules) (which : Switch) → list_all is_plain (change_words profile house which) ≡ true
unfolding change_words
change_plain profile house which =
    let on = is_on which house in
    either_plain (beq on (is_on which profile)) [] (sign on ++ switch_word which) refl (both_plain (sign on) (switch_word which) (sign_plain on) (switch_word_plain which))

changes_plain : (profile house : Rules) (switches : List Switch) → list_all is_plain (flat_map (change_words profile house) switches) ≡ true
changes_plain profile house [] = refl
changes_plain profile house (which ∷ switches) =
    both_plain (change_words profile house which) (flat_map (change_words profile house) switches) (change_plain profile house which) (changes_plain profile house switches)

changed_plain : (number : List ℕ) (profile house : Rules) → list_all is_plain number ≡ true → list_all is_plain (changed_words number profile house) ≡ true
unfolding changed_words
changed_plain number profile house p = both_plain number (flat_map (change_words profile house) every_switch) p (changes_plain profile house every_switch)

rules_plain : (house : Rules) → list_all is_plain (rules_words house) ≡ true
unfolding rules_words
rules_plain house =
    either_plain (is_on switch.RedFives house && is_on switch.Raise house) (changed_words (codes "2") second_profile house) (changed_words (codes "1") first_profile house)
    (changed_plain (codes "2") second_profile house refl) (changed_plain (codes "1") first_profile house refl)

pub escape_rules : (house : Rules) → escape (rules_words house) ≡ rules_words house
escape_rules house = escape_same (rules_words house) (rules_plain house)

pub escape_kind : (kind : ℕ) → escape (kind_text kind) ≡ kind_text kind
escape_kind kind =
    let high = letter_high kind in
    ap (λ t. t ++ (escape_byte (letter_of kind) ++ [])) (escape_byte_plain (49 + kind % 9) (λ e. omega arith) (λ e. omega arith) (omega arith))
    ∙ ap (λ t. (49 + kind % 9) ∷ (t ++ [])) (escape_byte_plain (letter_of kind) (λ e. omega arith) (λ e. omega arith) (omega arith))
