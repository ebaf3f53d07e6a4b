use Rattle.std.proofs.Common.{◌++◌, ◌∙◌, sym, ap}
use Rattle.std.proofs.Math.Facts.{to_z-of_z}
use mir.Syntax.{w8}
use mir.Val.{of_z, to_z}
use Rattle.riichi_text.proofs.Pieces.{pushed-two}
use Rattle.riichi_study.specs.Findings.{Calls}
use Rattle.riichi_study.specs.Reasons.{finding_reasons}
use Rattle.riichi_study.specs.Texts.{finding_text}
use Rattle.desk_study.specs.Answers.{told_in}
use Rattle.desk_study.proofs.calls.put_found.Goals as goal

pub returns-in-Explained-clause-bytes : goal.returns-in-Explained-clause-bytes
returns-in-Explained-clause-bytes c =
    let before = c.args.outbox.now.bytes.items in
    let tile = c.args.tile in
    let calls = c.args.calls.now in
    let kong = c.args.kong.now in
    pushed-two before (finding_text (Calls (to_z w8 (of_z w8 c.args.shanten)) tile calls kong)) (finding_reasons (Calls c.args.shanten tile calls kong)) c.put_calls_text-in-Explained.ensures.bytes c.put_calls_reasons.ensures.bytes
    ∙ ap (λ z. before ++ (finding_text (Calls z tile calls kong) ++ finding_reasons (Calls c.args.shanten tile calls kong))) (to_z-of_z {w = w8} {z = c.args.shanten} (record { sfits = c.ranges.shanten.sfits }))
    ∙ ap (λ form. before ++ told_in form (Calls c.args.shanten tile calls kong)) (sym c.in-Explained.is)
