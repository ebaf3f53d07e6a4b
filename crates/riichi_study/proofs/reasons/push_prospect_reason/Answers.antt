use Rattle.std.proofs.Common.{◌++◌, ◌∙◌, ap}
use Rattle.std.specs.Prelude.{codes}
use Rattle.riichi_text.proofs.Pieces.{pushed_four}
use Rattle.riichi_text.specs.Tiles.{kind_text}
use Rattle.riichi_study.specs.Reasons.{outlook_words}
use Rattle.riichi_study.proofs.reasons.push_prospect_reason.Goals as goal

pub returns-clause-bytes : goal.returns-clause-bytes
returns-clause-bytes c =
    let before = c.args.text.now.bytes in
    let prospect = c.args.prospect.now in
    pushed_four before (codes "\n  after ") (kind_text prospect.discard.kind) (codes ": ") (outlook_words c.live-live.result prospect.outlook) c.push_str.ensures.bytes c.push_kind.ensures.bytes c.push_str-2.ensures.bytes c.push_outlook.ensures.bytes
    ∙ ap (λ live. before ++ (codes "\n  after " ++ kind_text prospect.discard.kind ++ codes ": " ++ outlook_words live prospect.outlook)) c.live-live.ensures.value
