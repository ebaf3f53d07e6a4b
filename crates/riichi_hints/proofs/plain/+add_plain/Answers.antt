use Rattle.std.proofs.Common.{arith}
use Rattle.riichi_hints.proofs.PlainLemmas.{plain_more_at}
use Rattle.riichi_hints.proofs.plain.+add_plain.Goals as goal

pub returns-in-None : goal.returns-in-None
returns-in-None t c is few =
    plain_more_at c.args.plain.now.items c.add_byte.new.plain.items c.add_plain-in-None.new.plain.items c.args.line.now
    (omega (arith, c.in-len1-up.len_at_least)) is few c.add_byte.ensures c.add_plain-in-None.ensures
