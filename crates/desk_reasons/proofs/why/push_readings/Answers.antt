use Rattle.std.proofs.Common.{map}
use Rattle.std.specs.Prelude.{codes}
use Rattle.riichi_text.proofs.Pieces.{pushed-two}
use Rattle.desk_reasons.specs.Parts.{rows_json, other_reading_json, readings_json}
use Rattle.desk_reasons.proofs.why.push_readings.Goals as goal

pub returns-clause-bytes : goal.returns-clause-bytes
unfolding readings_json
returns-clause-bytes c =
    pushed-two c.args.text.now.bytes (rows_json (codes "{\"others\":[") (map other_reading_json c.args.ranked.now)) (codes "]}") c.push_rows.ensures.bytes c.push_str.ensures.bytes
