use Rattle.std.specs.Prelude.{codes}
use Rattle.riichi_text.proofs.Pieces.{pushed-three}
use Rattle.riichi_text.specs.Tiles.{kind_text}
use Rattle.riichi_study.specs.WorthTexts.{worth_text}
use Rattle.riichi_study.proofs.worth_text.push_worth_after.Goals as goal

pub returns-clause-bytes : goal.returns-clause-bytes
returns-clause-bytes c = pushed-three c.args.text.now.bytes (codes " discard ") (kind_text c.args.one.now.kind) (worth_text c.args.one.now.worth) c.push_str.ensures.bytes c.push_kind.ensures.bytes c.push_worth.ensures.bytes
