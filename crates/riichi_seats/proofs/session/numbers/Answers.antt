-- The range gives the numbers from 0 on.
use Rattle.std.proofs.Common.{arith}
use Rattle.std.proofs.lemmas.Iterator.{items_from_collect, YieldsList-from_range}
use Rattle.riichi_seats.proofs.session.numbers.Goals as goal

pub returns : goal.returns
returns c = items_from_collect _ c.collect.ensures.ran (YieldsList-from_range 0 c.args.players c.args.players (cc) (omega arith))
