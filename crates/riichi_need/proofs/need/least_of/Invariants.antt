use Rattle.std.proofs.Common.{◌≤◌}
use Rattle.riichi_need.specs.Winning.{way_by}
use Rattle.riichi_need.specs.Reaching.{reaches}
use Rattle.riichi_need.specs.Needs.{IsLeast, or_0}
use Rattle.riichi_need.proofs.Least.{IsRowBelow}
use Rattle.riichi_need.proofs.need.least_of.Given as goal

abbrev pub invariant-loop-fu : goal.invariant-loop-fu
invariant-loop-fu l = record {
  least : IsLeast (IsRowBelow l.question.rules.hand (way_by l.way) l.han l.fu-index) (reaches l.question l.aim l.way) l.least;
  most : or_0 l.least ≤ 8000;
}
