use Rattle.std.proofs.Common.{◌++◌, ap, ◌∙◌, decimal}
use Rattle.std.specs.Prelude.{codes}
use Rattle.riichi_text.specs.Tiles.{kind_text}
use Rattle.desk_json.specs.Parts.{comma_if, live_json}
use Rattle.desk_json.proofs.Behind.{five}
use Rattle.desk_json.proofs.shape.push_pair.Goals as goal

pub returns-clause-bytes : goal.returns-clause-bytes
unfolding live_json
returns-clause-bytes c =
    c.push_str-3.ensures.bytes
    ∙ ap (λ t. t ++ codes "}") (c.push_digit.ensures.bytes
    ∙ ap (λ t. t ++ decimal c.args.live) (c.push_str-2.ensures.bytes
    ∙ ap (λ t. t ++ codes "\",\"live\":") (c.push_kind.ensures.bytes
    ∙ ap (λ t. t ++ kind_text c.args.kind) (c.push_str.ensures.bytes
    ∙ ap (λ t. t ++ codes "{\"kind\":\"") c.push_comma_if.ensures.bytes))))
    ∙ five (c.args.text.now.bytes ++ comma_if c.args.later) (codes "{\"kind\":\"") (kind_text c.args.kind) (codes "\",\"live\":") (decimal c.args.live) (codes "}")
