use Rattle.std.proofs.Common.{◌++◌, ◌∙◌, List, ℕ, ap}
use Rattle.std.specs.Prelude.{codes}
use Rattle.riichi_text.proofs.Pieces.{pushed_five}
use Rattle.riichi_text.specs.Tiles.{kind_text}
use Rattle.riichi_chances_text.specs.OddsTexts.{odds_members}
use Rattle.desk_json.specs.Parts.{comma_if}
use Rattle.desk_study.proofs.chance_objects.push_discard.Goals as goal

pub returns-clause-bytes : goal.returns-clause-bytes
returns-clause-bytes c =
    let before : List ℕ = c.args.text.now.bytes ++ comma_if c.args.later in
    pushed_five before (codes "{\"discard\":\"") (kind_text c.args.kind) (codes "\",") (odds_members c.args.odds.now) (codes ",\"surely_over\":[")
    (c.push_str.ensures.bytes ∙ ap (λ (t : List ℕ). t ++ codes "{\"discard\":\"") c.push_comma_if.ensures.bytes) c.push_kind.ensures.bytes c.push_str-2.ensures.bytes c.push_odds_members.ensures.bytes c.push_str-3.ensures.bytes
