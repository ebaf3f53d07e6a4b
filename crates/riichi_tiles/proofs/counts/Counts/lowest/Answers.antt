use Rattle.std.proofs.Common.{rules, Some}
use Rattle.riichi_tiles.proofs.Lowest.{IsLowest, lowest_found}
use Rattle.riichi_tiles.proofs.counts.Counts.lowest.Goals as goal

pub returns-then-lowest-lt34-clause-value : goal.returns-then-lowest-lt34-clause-value
returns-then-lowest-lt34-clause-value c =
    let least : IsLowest c.args.self.now (Some c.at.result) = search rules in
    lowest_found c.args.self.now (Some c.at.result) least
