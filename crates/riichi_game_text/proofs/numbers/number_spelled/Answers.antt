use Rattle.std.proofs.Common.{arith}
use Rattle.riichi_game_text.proofs.DigitLemmas.{most_seven, most_nine}
use Rattle.riichi_game_text.proofs.numbers.number_spelled.Goals as goal

pub returns-clause-seven : goal.returns-clause-seven
returns-clause-seven c = λ few. omega (arith, c.loop-digit.invariant.small, most_seven c.loop-digit.digit-index (omega arith))

pub returns-clause-nine : goal.returns-clause-nine
returns-clause-nine c = omega (arith, c.loop-digit.invariant.small, most_nine c.loop-digit.digit-index (omega arith))
