-- The rules that the words of a line `game` say.
use Rattle.std.specs.Prelude.{◌≡◌, ℕ, List, [], ◌∷◌, codes, Bool, false, ◌||◌, Option, None, Some, is_some, MatchOption, if◌then◌else◌}
use Rattle.std.specs.Str.{bytes_eq}
use Rattle.riichi_hand.specs.Rules.{Rules}
use Rattle.riichi_hand.specs.RulesText.{NamesRules}
use Rattle.riichi_hand.specs.Entries.{cut_at_equals}
use Rattle.riichi_table.specs.Tables.{club}
use Rattle.riichi_table.specs.RulesFaults.{rules_fault}
use Rattle.riichi_table.specs.declared.rules.TableRules.{TableRules}
use Rattle.riichi_game_text.specs.Numbers.{number_in, at_least_one}
use Rattle.riichi_game_text.specs.Settings.{setting_named, preset_named, changed}
use Rattle.riichi_game_text.specs.declared.setting.Setting.{Setting}

-- ---- a word, `=` and a value

abbrev pub before : Option (List ℕ × List ℕ) → List ℕ
before None = []
before (Some cut) = cut.0

abbrev pub behind : Option (List ℕ × List ℕ) → List ℕ
behind None = []
behind (Some cut) = cut.1

abbrev pub key_of : List ℕ → List ℕ
key_of word = before (cut_at_equals word)

abbrev pub value_of_word : List ℕ → List ℕ
value_of_word word = behind (cut_at_equals word)

-- the value of the first word with a key
abbrev pub first_value : List ℕ → List (List ℕ) → Option (List ℕ)
first_value key [] = None
first_value key (word ∷ words) = if bytes_eq (key_of word) key then Some (value_of_word word) else first_value key words

-- a word stands twice
abbrev pub has_twice : List (List ℕ) → Bool
has_twice [] = false
has_twice (word ∷ words) = is_some (first_value (key_of word) words) || has_twice words

-- ---- the rules

-- the rules for hands that a text names, or none where it names none
abbrev pub AreNamed : List ℕ → Option Rules → Type 0
AreNamed text named = MatchOption named ((rules : Rules) → NamesRules text rules → ⊥) (λ rules. NamesRules text rules)

-- the given ones where nothing is said
abbrev pub IsHandRules : Rules → Option (List ℕ) → Option Rules → Type 0
IsHandRules given None named = named ≡ Some given
IsHandRules given (Some text) named = AreNamed text named

-- `table=` sets several at once, wherever it stands
abbrev pub preset_if_said : Option (List ℕ) → Option TableRules
preset_if_said None = Some club
preset_if_said (Some value) = preset_named value

abbrev pub preset_of : List (List ℕ) → Option TableRules
preset_of words = preset_if_said (first_value (codes "table") words)

abbrev pub with_hand : Option Rules → Option TableRules → Option TableRules
with_hand (Some hand) (Some rules) = Some (record rules { hand = hand })
with_hand hand rules = None

abbrev pub change_named : Option Setting → List ℕ → TableRules → Option TableRules
change_named None value rules = None
change_named (Some setting) value rules = changed setting value rules

-- each word changes one of the rules
abbrev pub change_by_word : List ℕ → Option TableRules → Option TableRules
change_by_word word None = None
change_by_word word (Some rules) = change_named (setting_named (key_of word)) (value_of_word word) rules

abbrev pub change_by_all : List (List ℕ) → Option TableRules → Option TableRules
change_by_all [] rules = rules
change_by_all (word ∷ words) rules = change_by_all words (change_by_word word rules)

-- rules that a table may choose
abbrev pub if_faultless : Option TableRules → Option TableRules
if_faultless None = None
if_faultless (Some rules) = if is_some (rules_fault rules) then None else Some rules

-- what the words say, by the rules for hands: none where a word stands twice, is no word or has a value that can't be
unfoldable pub table_rules_of : Option Rules → List (List ℕ) → Option TableRules
table_rules_of hand words = if has_twice words then None else if_faultless (change_by_all words (with_hand hand (preset_of words)))

-- the number of a word of a tournament, where it is there
abbrev pub number_if_said : Option (List ℕ) → Option ℕ
number_if_said None = None
number_if_said (Some value) = at_least_one (number_in value)
