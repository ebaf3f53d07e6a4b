-- The number of the rules that a text names, as the calls take it.
use Rattle.std.specs.Prelude.{ℕ, ◌+◌, List}
use Rattle.riichi_hand.specs.Rules.{Rules}
use Rattle.riichi_hand.specs.RulesText.{NamesRules, IsWrongAt}

-- The number is that of the rules of a house which the text names, or it is 0, and then a place was told where the text is wrong. The
-- place before stays where nothing is wrong.
pub data IsReadAs (text : List ℕ) (before : ℕ) : ℕ → ℕ → Type 0 where
  Named : (rules : Rules) → NamesRules text rules → IsReadAs text before before (65536 + rules)
  Wrong : (place : ℕ) → IsWrongAt text place → IsReadAs text before place 0
