use Rattle.std.specs.Prelude.{codes}
use Rattle.riichi_text.proofs.Pieces.{pushed_five}
use Rattle.riichi_text.specs.Tiles.{kind_text}
use Rattle.riichi_study.specs.WorthTexts.{most_words, worth_reason, worth_words}
use Rattle.riichi_study.proofs.worth_text.push_worth_reason.Goals as goal

pub returns-clause-bytes : goal.returns-clause-bytes
unfolding worth_reason
returns-clause-bytes c =
    pushed_five c.args.text.now.bytes (codes "\n  after ") (kind_text c.args.one.now.kind) (codes ": ") (worth_words c.args.one.now.worth) (most_words c.args.one.now.worth c.args.others.now) c.push_str.ensures.bytes c.push_kind.ensures.bytes c.push_str-2.ensures.bytes c.push_worth_words.ensures.bytes
    c.push_if_most.ensures.bytes
