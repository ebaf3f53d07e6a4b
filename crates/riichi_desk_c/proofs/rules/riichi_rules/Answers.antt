use Rattle.std.proofs.Common.{◌≡◌, ◌+◌, ℕ, List, subst, sym}
use Rattle.riichi_hand.specs.Rules.{Rules}
use Rattle.riichi_hand.specs.RulesText.{NamesRules}
use Rattle.riichi_desk_c.specs.RulesRead.{IsReadAs, Named, Wrong}
use Rattle.riichi_desk_c.proofs.rules.riichi_rules.Goals as goal

named : (text : List ℕ) (before number : ℕ) (rules : Rules) → NamesRules text rules → number ≡ 65536 + rules → IsReadAs text before before number
named text before number rules names is = subst (λ (n : ℕ). IsReadAs text before before n) (sym is) (Named rules names)

pub returns-in-Ok : goal.returns-in-Ok
returns-in-Ok c = named _ _ _ c.in-Ok.rules c.in-Ok.ensures.ok c.house_number.ensures

pub returns-in-Err : goal.returns-in-Err
returns-in-Err c = Wrong c.in-Err.fault.place c.in-Err.ensures.fault
