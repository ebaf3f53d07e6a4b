use Rattle.std.proofs.Common.{◌≡◌, ◌+◌, ℕ, false, get_or}
use Rattle.riichi_explain.specs.Ranked.{is_worth_more}
use Rattle.riichi_explain.specs.declared.ranked.RankedReading.{RankedReading}
use Rattle.riichi_explain.proofs.ranked.place_of.Given as goal

abbrev pub invariant-loop-place : goal.invariant-loop-place
invariant-loop-place l = (other : RankedReading) (last : ℕ) → last + 1 ≡ l.place → is_worth_more l.score (get_or l.ranked last other).score ≡ false
