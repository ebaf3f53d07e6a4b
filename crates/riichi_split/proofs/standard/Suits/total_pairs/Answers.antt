use Rattle.riichi_split.proofs.PairTotals.{few_in_all, won-iff}
use Rattle.riichi_split.proofs.standard.Suits.total_pairs.Goals as goal

pub total-requires : goal.total-requires
total-requires c = few_in_all c.args.self.now.tiles c.args.self.now.pairs c.requires

pub returns-clause-wins : goal.returns-clause-wins
returns-clause-wins c = rw c.total.ensures (won-iff c.args.self.now.tiles c.args.self.now.pairs c.requires)
