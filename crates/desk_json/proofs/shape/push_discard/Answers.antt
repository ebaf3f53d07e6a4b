use Rattle.std.proofs.Common.{◌++◌, ap, ◌∙◌}
use Rattle.std.specs.Prelude.{codes}
use Rattle.riichi_text.specs.Tiles.{kind_text}
use Rattle.desk_json.specs.Parts.{comma_if, accepted_json, discard_json}
use Rattle.desk_json.proofs.Behind.{four}
use Rattle.desk_json.proofs.shape.push_discard.Goals as goal

pub returns-clause-bytes : goal.returns-clause-bytes
unfolding discard_json
returns-clause-bytes c =
    let discard = c.args.discard.now in
    c.push_accepted.ensures.bytes
    ∙ ap (λ t. t ++ accepted_json discard.accepted) (c.push_str-2.ensures.bytes
    ∙ ap (λ t. t ++ codes "\",") (c.push_kind.ensures.bytes
    ∙ ap (λ t. t ++ kind_text discard.kind) (c.push_str.ensures.bytes
    ∙ ap (λ t. t ++ codes "{\"discard\":\"") c.push_comma_if.ensures.bytes)))
    ∙ four (c.args.text.now.bytes ++ comma_if c.args.later) (codes "{\"discard\":\"") (kind_text discard.kind) (codes "\",") (accepted_json discard.accepted)
