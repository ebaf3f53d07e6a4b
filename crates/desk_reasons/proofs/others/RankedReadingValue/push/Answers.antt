use Rattle.std.specs.Prelude.{codes}
use Rattle.riichi_text.proofs.Pieces.{pushed_four}
use Rattle.desk_reasons.specs.Parts.{reading_json, worth_if_json, other_reading_json}
use Rattle.desk_reasons.proofs.others.RankedReadingValue.push.Goals as goal

pub returns-clause-bytes : goal.returns-clause-bytes
unfolding other_reading_json
returns-clause-bytes c =
    let one = c.args.self.now in
    pushed_four c.args.text.now.bytes (codes "{\"reading\":") (reading_json one.reading) (worth_if_json one.score) (codes "}")
    c.push_str.ensures.bytes c.push_reading.ensures.bytes c.push_worth_if.ensures.bytes c.push_str-2.ensures.bytes
