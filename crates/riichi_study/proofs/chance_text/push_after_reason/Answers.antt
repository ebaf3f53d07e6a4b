use Rattle.std.specs.Prelude.{codes}
use Rattle.riichi_text.proofs.Pieces.{pushed_five}
use Rattle.riichi_text.specs.Tiles.{kind_text}
use Rattle.riichi_chances_text.specs.OddsTexts.{odds_words}
use Rattle.riichi_study.specs.ChanceTexts.{after_reason, beaten_words}
use Rattle.riichi_study.proofs.chance_text.push_after_reason.Goals as goal

pub returns-clause-bytes : goal.returns-clause-bytes
unfolding after_reason
returns-clause-bytes c =
    pushed_five c.args.text.now.bytes (codes "\n  after ") (kind_text c.args.one.now.kind) (codes ": ") (odds_words c.args.one.now.odds) (beaten_words c.args.one.now.odds c.args.others.now) c.push_str.ensures.bytes c.push_kind.ensures.bytes c.push_str-2.ensures.bytes c.push_odds_words.ensures.bytes
    c.push_beaten.ensures.bytes
