-- Lines that are too long.
use Rattle.std.proofs.Common.{◌≡◌, ℕ, ◌<◌, List, ◌++◌, true, length, Err, refl, arith, length-append}
use Rattle.std.specs.Prelude.{nat_lt}
use Rattle.riichi_hand.specs.Rules.{Rules}
use Rattle.riichi_hand.specs.Lines.{outcome_of}
use Rattle.riichi_hand.specs.declared.fault.LineCode.TheVariants.{H1}
use Rattle.riichi_hand.specs.declared.fault.LineFault.TheVariants.{Line}

-- a line stays too long with more behind it
pub longer : (front more : List ℕ) → 4096 < length front → 4096 < length (front ++ more)
longer front more over = omega (arith, length-append front more)

pub long_line : (rules : Rules) (line : List ℕ) → 4096 < length line → outcome_of rules line ≡ Err (Line H1)
unfolding outcome_of
long_line rules line over = let is_long : nat_lt 4096 (length line) ≡ true = grind (arith, over) in rw is_long refl
