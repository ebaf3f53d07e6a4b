-- The rules that a text names, where it names some: of all ways to read it the first that reads all of it.
use Rattle.std.specs.Prelude.{ℕ, zero, suc, ◌==◌, List, [], ◌∷◌, ◌++◌, Bool, true, false, Option, None, Some, length, map, if◌then◌else◌}
use Rattle.riichi_hand.specs.Rules.{Rules, every_switch, with_switch}
use Rattle.riichi_hand.specs.RulesText.{Change, First, Second, change_text, profile_number, profile_rules}
use Rattle.riichi_hand.specs.declared.switch.Switch.{Switch}

abbrev pub change_to : Bool → Switch → Change
change_to is_on which = record { is_on = is_on; which = which }

abbrev pub every_change : List Change
every_change = map (change_to true) every_switch ++ map (change_to false) every_switch

-- what stands behind this, where a text begins with it
abbrev pub behind_front : List ℕ → List ℕ → Option (List ℕ)
behind_front [] text = Some text
behind_front (byte ∷ front) [] = None
behind_front (byte ∷ front) (first ∷ text) = if byte == first then behind_front front text else None

abbrev pub or_else : Option Rules → Option Rules → Option Rules
or_else None other = other
or_else (Some rules) other = Some rules

-- the first of some ways that leads to rules
abbrev pub first_way : {X : Type 0} → (X → Option Rules) → List X → Option Rules
first_way way [] = None
first_way way (x ∷ xs) = or_else (way x) (first_way way xs)

abbrev pub read_behind : (List ℕ → Option Rules) → Option (List ℕ) → Option Rules
read_behind read None = None
read_behind read (Some text) = read text

-- the rules once the changes are made that a text spells, no more than so many
unfoldable pub changed_by : ℕ → Rules → List ℕ → Option Rules
changed_by most rules [] = Some rules
changed_by zero rules (byte ∷ text) = None
changed_by (suc most) rules (byte ∷ text) = first_way (λ change. read_behind (changed_by most (with_switch change.which change.is_on rules)) (behind_front (change_text change) (byte ∷ text))) every_change

-- the number of a profile, and changes of it behind
unfoldable pub rules_named : List ℕ → Option Rules
rules_named text = first_way (λ profile. read_behind (changed_by (length text) (profile_rules profile)) (behind_front (profile_number profile) text)) (First ∷ Second ∷ [])
