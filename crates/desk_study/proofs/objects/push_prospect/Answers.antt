use Rattle.std.proofs.Common.{◌++◌, ◌∙◌, List, ℕ, ap, append_assoc}
use Rattle.std.specs.Prelude.{codes}
use Rattle.riichi_text.proofs.Pieces.{pushed_four}
use Rattle.riichi_text.specs.Tiles.{kind_text}
use Rattle.desk_json.specs.Parts.{comma_if}
use Rattle.desk_study.specs.Objects.{hand_json, prospect_json}
use Rattle.desk_study.proofs.objects.push_prospect.Goals as goal

pub returns-clause-bytes : goal.returns-clause-bytes
returns-clause-bytes c =
    let before : List ℕ = c.args.text.now.bytes ++ comma_if c.args.later in
    let prospect = c.args.prospect.now in
    pushed_four before (codes "{\"discard\":\"") (kind_text prospect.discard.kind) (codes "\",") (hand_json prospect.discard.accepted prospect.outlook)
    (c.push_str.ensures.bytes ∙ ap (λ (t : List ℕ). t ++ codes "{\"discard\":\"") c.push_comma_if.ensures.bytes) c.push_kind.ensures.bytes c.push_str-2.ensures.bytes c.push_hand.ensures.bytes
    ∙ append_assoc c.args.text.now.bytes (comma_if c.args.later) (prospect_json prospect)
