-- A text of rules, as the option `--rules` takes it: the number of a profile, and behind it changes, each a sign and the word of a rule.
use Rattle.std.specs.Prelude.{◌≡◌, ◌⊎◌, ◌==◌, ◌||◌, ℕ, Bool, true, false, List, [], ◌∷◌, ◌++◌, length, codes}
use Rattle.std.specs.List.{flat_map}
use Rattle.riichi_hand.specs.Rules.{Rules, first_profile, second_profile, switch_word, with_switch}
use Rattle.riichi_hand.specs.declared.switch.Switch.{Switch}
use Rattle.riichi_hand.specs.RulesWords.{sign}

-- the profiles that have a number
pub data Profile : Type 0 where
  First : Profile
  Second : Profile

abbrev pub profile_number : Profile → List ℕ
profile_number First = codes "1"
profile_number Second = codes "2"

abbrev pub profile_rules : Profile → Rules
profile_rules First = first_profile
profile_rules Second = second_profile

-- One rule is turned on or off.
pub record Change : Type 0 where
  pub is_on : Bool
  pub which : Switch

abbrev pub change_text : Change → List ℕ
change_text change = sign change.is_on ++ switch_word change.which

abbrev pub rules_text : Profile → List Change → List ℕ
rules_text profile changes = profile_number profile ++ flat_map change_text changes

-- the rules once these changes are made, one after another: of a rule that is changed twice the last change counts
abbrev pub with_changes : Rules → List Change → Rules
with_changes rules [] = rules
with_changes rules (change ∷ changes) = with_changes (with_switch change.which change.is_on rules) changes

-- The text names these rules.
pub record NamesRules (text : List ℕ) (rules : Rules) : Type 0 where
  pub profile : Profile
  pub changes : List Change
  pub text_is : text ≡ rules_text profile changes
  pub rules_are : rules ≡ with_changes (profile_rules profile) changes

-- ---- the first wrong word

-- a word ends before this: before nothing, or before the sign of a change
abbrev pub ends_word : List ℕ → Bool
ends_word [] = true
ends_word (byte ∷ bytes) = byte == 43 || byte == 45

-- The number of a profile has to stand at the start, and doesn't.
pub record LacksProfile (text : List ℕ) (place : ℕ) : Type 0 where
  pub place_is : place ≡ 0
  pub none : (profile : Profile) (behind : List ℕ) → text ≡ profile_number profile ++ behind → ends_word behind ≡ false

-- Behind rules and a sign the word of a rule has to stand, and doesn't.
pub record LacksRule (text : List ℕ) (place : ℕ) : Type 0 where
  pub profile : Profile
  pub changes : List Change
  pub is_on : Bool
  pub rest : List ℕ
  pub text_is : text ≡ (rules_text profile changes ++ sign is_on) ++ rest
  pub place_is : place ≡ length (rules_text profile changes ++ sign is_on)
  pub none : (which : Switch) (behind : List ℕ) → rest ≡ switch_word which ++ behind → ends_word behind ≡ false

abbrev pub IsWrongAt : List ℕ → ℕ → Type 0
IsWrongAt text place = LacksProfile text place ⊎ LacksRule text place
