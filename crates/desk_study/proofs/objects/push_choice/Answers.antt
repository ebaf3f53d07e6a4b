use Rattle.std.proofs.Common.{◌++◌, ◌∙◌, List, ℕ, ap, decimal}
use Rattle.std.specs.Prelude.{codes}
use Rattle.riichi_text.proofs.Pieces.{pushed_five}
use Rattle.riichi_text.specs.Tiles.{kind_text}
use Rattle.desk_json.specs.Parts.{comma_if}
use Rattle.desk_study.proofs.objects.push_choice.Goals as goal

pub returns-clause-bytes : goal.returns-clause-bytes
returns-clause-bytes c =
    let before : List ℕ = c.args.text.now.bytes ++ comma_if c.args.later in
    let kind = c.args.discard.now.kind in
    pushed_five before (codes "{\"discard\":\"") (kind_text kind) (codes "\",\"live\":") (decimal c.live.result) (codes "}")
    (c.push_str.ensures.bytes ∙ ap (λ (t : List ℕ). t ++ codes "{\"discard\":\"") c.push_comma_if.ensures.bytes) c.push_kind.ensures.bytes c.push_str-2.ensures.bytes c.push_number.ensures.bytes c.push_str-3.ensures.bytes
    ∙ ap (λ live. before ++ (codes "{\"discard\":\"" ++ kind_text kind ++ codes "\",\"live\":" ++ decimal live ++ codes "}")) c.live.ensures.value
