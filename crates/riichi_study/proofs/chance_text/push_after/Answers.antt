use Rattle.std.specs.Prelude.{codes}
use Rattle.riichi_text.proofs.Pieces.{pushed-three}
use Rattle.riichi_text.specs.Tiles.{kind_text}
use Rattle.riichi_chances_text.specs.OddsTexts.{odds_text}
use Rattle.riichi_study.proofs.chance_text.push_after.Goals as goal

pub returns-clause-bytes : goal.returns-clause-bytes
returns-clause-bytes c = pushed-three c.args.text.now.bytes (codes " discard ") (kind_text c.args.one.now.kind) (odds_text c.args.one.now.odds) c.push_str.ensures.bytes c.push_kind.ensures.bytes c.push_odds.ensures.bytes
