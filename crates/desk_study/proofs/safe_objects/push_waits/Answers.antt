use Rattle.std.proofs.Common.{◌++◌, ◌∙◌, List, ℕ, ap, get_or}
use Rattle.std.specs.Prelude.{codes, Option}
use Rattle.riichi_text.proofs.Pieces.{pushed-three}
use Rattle.riichi_safe.specs.Safe.{wait_from_above, wait_from_below}
use Rattle.riichi_safe.specs.declared.sides.TwoSided.{TwoSided}
use Rattle.desk_json.specs.Parts.{comma_if}
use Rattle.desk_study.specs.SafeObjects.{kind_json, sides_json}
use Rattle.desk_study.proofs.safe_objects.push_waits.Goals as goal

pub returns-clause-bytes : goal.returns-clause-bytes
returns-clause-bytes c =
    let parts = c.args.asked.now in
    let kind = c.args.kind in
    let before : List ℕ = c.args.text.now.bytes ++ comma_if c.args.later in
    let first : List (Option TwoSided) → Option TwoSided = λ waits. get_or waits 0 c.index-two_sided-0.result in
    let second : List (Option TwoSided) → Option TwoSided = λ waits. get_or waits 1 c.index-two_sided-1.result in
    pushed-three before (kind_json kind) (sides_json (wait_from_below parts kind) (wait_from_above parts kind)) (codes "}")
    c.push_waited.ensures.bytes
    (c.push_sides.ensures.bytes ∙ ap (λ (waits : List (Option TwoSided)). c.push_waited.new.text.bytes ++ sides_json (first waits) (second waits)) c.two_sided.ensures)
    c.push_str.ensures.bytes
