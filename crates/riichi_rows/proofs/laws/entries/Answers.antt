use Rattle.riichi_rows.proofs.OneMore.{entry_falls}
use Rattle.riichi_rows.proofs.laws.entries.Goals as goal

pub returns : goal.returns
returns c = entry_falls
