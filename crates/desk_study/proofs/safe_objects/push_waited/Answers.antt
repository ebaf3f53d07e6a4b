use Rattle.std.proofs.Common.{◌++◌, ◌∙◌, List, ℕ, ap}
use Rattle.std.specs.Prelude.{codes}
use Rattle.riichi_text.proofs.Pieces.{pushed-three}
use Rattle.riichi_text.specs.Tiles.{kind_text}
use Rattle.desk_json.specs.Parts.{comma_if}
use Rattle.desk_study.proofs.safe_objects.push_waited.Goals as goal

pub returns-clause-bytes : goal.returns-clause-bytes
returns-clause-bytes c =
    let before : List ℕ = c.args.text.now.bytes ++ comma_if c.args.later in
    pushed-three before (codes "{\"kind\":\"") (kind_text c.args.kind) (codes "\"")
    (c.push_str.ensures.bytes ∙ ap (λ (t : List ℕ). t ++ codes "{\"kind\":\"") c.push_comma_if.ensures.bytes) c.push_kind.ensures.bytes c.push_str-2.ensures.bytes
