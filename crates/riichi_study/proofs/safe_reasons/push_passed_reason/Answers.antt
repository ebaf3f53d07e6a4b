use Rattle.std.proofs.Common.{◌≡◌, ◌∙◌, ◌++◌, [], cond, false, sym, ap}
use Rattle.std.specs.Prelude.{◌==◌, codes}
use Rattle.std.specs.List.{flat_map}
use Rattle.riichi_text.proofs.Pieces.{pushed-two}
use Rattle.riichi_tiles.specs.Melds.{every_kind}
use Rattle.riichi_study.specs.SafeTexts.{kind_within}
use Rattle.riichi_study.proofs.safe_reasons.push_passed_reason.Goals as goal

pub returns-then-not-is_empty-clause-bytes : goal.returns-then-not-is_empty-clause-bytes
returns-then-not-is_empty-clause-bytes c =
    let old = c.args.text.now.bytes in
    let words = codes "\n  that player can't win on:" in
    let kinds = flat_map (kind_within c.args.safe) every_kind in
    let some : (c.args.safe == 0) ≡ false = sym c.is_empty.ensures ∙ c.if-not-is_empty.true in
    pushed-two old words kinds c.push_str.ensures.bytes c.push_each_kind.ensures.bytes ∙ ap (λ t. old ++ cond t [] (words ++ kinds)) (sym some)
