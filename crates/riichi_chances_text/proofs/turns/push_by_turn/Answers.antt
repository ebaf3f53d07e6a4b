use Rattle.std.specs.Prelude.{codes}
use Rattle.riichi_text.proofs.Pieces.{pushed-three}
use Rattle.riichi_chances.specs.Odds.{odds_at}
use Rattle.riichi_chances_text.specs.OddsTexts.{each_turn}
use Rattle.riichi_chances_text.proofs.turns.push_by_turn.Goals as goal

pub returns-clause-bytes : goal.returns-clause-bytes
returns-clause-bytes g c =
    pushed-three c.args.text.now.bytes (codes ",\"by_turn\":[") (each_turn (odds_at c.args.chances.now) c.args.turns) (codes "]") c.push_str.ensures.bytes c.push_each_turn.ensures.bytes c.push_str-2.ensures.bytes
