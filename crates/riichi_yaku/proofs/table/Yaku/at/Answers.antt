use Rattle.riichi_yaku.proofs.Sets.{number_at}
use Rattle.riichi_yaku.proofs.table.Yaku.at.Goals as goal

pub returns : goal.returns
returns c = number_at c.args.number _ c.requires
