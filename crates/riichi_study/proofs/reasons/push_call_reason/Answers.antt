use Rattle.std.proofs.Common.{◌++◌, ◌∙◌, Option, false, sym, ap}
use Rattle.std.specs.Prelude.{codes}
use Rattle.riichi_text.proofs.Pieces.{pushed_four}
use Rattle.riichi_text.specs.Tiles.{meld_text}
use Rattle.riichi_deeper.specs.declared.gains.Call.{Call}
use Rattle.riichi_study.specs.Reasons.{call_reason, choices_from}
use Rattle.riichi_study.proofs.reasons.push_call_reason.Goals as goal

pub returns-in-Some-clause-bytes : goal.returns-in-Some-clause-bytes
returns-in-Some-clause-bytes c =
    let before = c.args.text.now.bytes in
    let call = c.in-Some.call in
    pushed_four before (codes "\n  ") (meld_text call.meld) (codes ": then throw ") (choices_from false call.discards) c.push_str.ensures.bytes c.push_meld.ensures.bytes c.push_str-in-Some.ensures.bytes c.push_choices.ensures.bytes
    ∙ ap (λ (one : Option Call). before ++ call_reason one) (sym c.in-Some.is)
