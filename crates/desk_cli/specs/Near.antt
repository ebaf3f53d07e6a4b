-- Which rule is near to a word that names none.
use Rattle.std.specs.Prelude.{ℕ, ◌*◌, ◌<◌, ◌≤◌, List, Option, None, Some, length, nat_eq}
use Rattle.std.specs.Str.{chars}
use Rattle.strsim.specs.Edits.{levenshtein_row}
use Rattle.riichi_hand.specs.Rules.{switch_word}
use Rattle.riichi_hand.specs.declared.switch.Switch.{Switch}

-- how many letters are put in, left out or exchanged to make a word that of a rule
abbrev pub changes : List ℕ → Switch → ℕ
changes word rule = let letters = chars (switch_word rule) in levenshtein_row nat_eq (chars word) letters (length letters)

-- The rule is near, since at most one letter in three is another, and no rule is nearer; or none is near.
abbrev pub IsNearestRule : List ℕ → Option Switch → Type 0
IsNearestRule word None = (rule : Switch) → length word < 3 * changes word rule
IsNearestRule word (Some nearest) = (3 * changes word nearest ≤ length word) × ((rule : Switch) → changes word nearest ≤ changes word rule)
