use Rattle.std.proofs.Common.{◌≡◌, ◌∙◌, ◌++◌, [], cond, true, sym, ap}
use Rattle.std.specs.Prelude.{codes}
use Rattle.std.specs.List.{flat_map, list_any}
use Rattle.riichi_text.proofs.Pieces.{pushed-three}
use Rattle.riichi_text.specs.Tiles.{kind_text}
use Rattle.riichi_study.specs.SafeTexts.{stands_there, two_sided_text}
use Rattle.riichi_study.proofs.safe_text.push_kind_risk.Goals as goal

pub returns-then-has_two_sided-clause-bytes : goal.returns-then-has_two_sided-clause-bytes
returns-then-has_two_sided-clause-bytes c =
    let old = c.args.text.now.bytes in
    let kind = kind_text c.args.kind in
    let waits = flat_map two_sided_text c.args.waits.now in
    let some : list_any stands_there c.args.waits.now ≡ true = sym c.has_two_sided.ensures ∙ c.if-has_two_sided.true in
    pushed-three old (codes " discard ") kind waits c.push_str.ensures.bytes c.push_kind.ensures.bytes c.push_each_wait.ensures.bytes
    ∙ ap (λ t. old ++ cond t (codes " discard " ++ kind ++ waits) []) (sym some)
