-- What is found of a question before any of its answer is put.
use Rattle.std.specs.Prelude.{ℕ}
use Rattle.riichi_chances.specs.Reachable.{ComesToTooMany}
use Rattle.riichi_study.specs.declared.study.Study.{Study}
use Rattle.riichi_study.specs.declared.study.Study.TheVariants as asks
use Rattle.desk_study.specs.Found as chances
use Rattle.desk_study.specs.FoundWorths as worths
use Rattle.desk_study.specs.declared.ahead.Ahead.{Ahead}
use Rattle.desk_study.specs.declared.ahead.Ahead.TheVariants.{Nothing, Chances, Worths}

-- it is what a study asks for
abbrev pub IsFoundOf : Study → Ahead → Type 0
IsFoundOf (asks.Chances parts turns) (Chances found) = chances.IsFound parts turns found
IsFoundOf (asks.Chances parts turns) (Worths found) = ⊥
IsFoundOf (asks.Chances parts turns) Nothing = ⊥
IsFoundOf (asks.Worth parts turns) (Worths found) = worths.IsFound parts.hand parts.stakes turns found
IsFoundOf (asks.Worth parts turns) (Chances found) = ⊥
IsFoundOf (asks.Worth parts turns) Nothing = ⊥
IsFoundOf (asks.Shape parts order) found = Unit {0}
IsFoundOf (asks.Calls parts) found = Unit {0}
IsFoundOf (asks.Safe parts) found = Unit {0}

-- it asks for the chances of a hand that may come to more hands than the first number, or for the worth of one that may come to more
-- than the second
abbrev pub AsksTooMany : ℕ → ℕ → Study → Type 0
AsksTooMany most_chances most_worths (asks.Chances parts turns) = ComesToTooMany most_chances parts
AsksTooMany most_chances most_worths (asks.Worth parts turns) = ComesToTooMany most_worths parts.hand
AsksTooMany most_chances most_worths (asks.Shape parts order) = ⊥
AsksTooMany most_chances most_worths (asks.Calls parts) = ⊥
AsksTooMany most_chances most_worths (asks.Safe parts) = ⊥

-- it asks for chances or for a worth, for which memory may be wanted
abbrev pub WantsMemory : Study → Type 0
WantsMemory (asks.Chances parts turns) = Unit {0}
WantsMemory (asks.Worth parts turns) = Unit {0}
WantsMemory (asks.Shape parts order) = ⊥
WantsMemory (asks.Calls parts) = ⊥
WantsMemory (asks.Safe parts) = ⊥
