use Rattle.std.proofs.Common.{◌≡◌, ◌∙◌, ◌++◌, cond, false, sym, ap}
use Rattle.std.specs.Prelude.{◌==◌, codes}
use Rattle.std.specs.List.{flat_map}
use Rattle.riichi_text.proofs.Pieces.{pushed-two}
use Rattle.riichi_tiles.specs.Melds.{every_kind}
use Rattle.riichi_study.specs.SafeTexts.{kind_within}
use Rattle.riichi_study.proofs.safe_reasons.push_thrown.Goals as goal

pub returns-else-is_empty-clause-bytes : goal.returns-else-is_empty-clause-bytes
returns-else-is_empty-clause-bytes c =
    let old = c.args.text.now.bytes in
    let none = codes "\n  not furiten: the hand has thrown nothing that it waits for" in
    let words = codes "\n  furiten, no win by ron: the hand has thrown what it waits for:" in
    let kinds = flat_map (kind_within c.args.kinds) every_kind in
    let some : (c.args.kinds == 0) ≡ false = sym c.is_empty.ensures ∙ c.if-is_empty.false in
    pushed-two old words kinds c.push_str-else-is_empty.ensures.bytes c.push_each_kind.ensures.bytes ∙ ap (λ t. old ++ cond t none (words ++ kinds)) (sym some)
