use Rattle.std.proofs.Common.{◌++◌, ◌∙◌, List, ℕ, refl, sym, ap}
use Rattle.std.proofs.Math.Facts.{to_z-of_z}
use Rattle.std.specs.List.{flat_map}
use mir.Syntax.{w8}
use mir.Val.{of_z, to_z}
use Rattle.riichi_text.proofs.Pieces.{pushed-two}
use Rattle.riichi_study.specs.Findings.{Discards}
use Rattle.riichi_study.specs.Reasons.{prospect_reason}
use Rattle.riichi_study.specs.Texts.{prospect_text, shanten_front}
use Rattle.desk_study.specs.Answers.{all_there, kept_reason, kept_text, told_in}
use Rattle.desk_study.proofs.ListedLemmas.{pieces_there}
use Rattle.desk_study.proofs.shapes.put_discards.Goals as goal

pub returns-in-Answers-clause-bytes : goal.returns-in-Answers-clause-bytes
returns-in-Answers-clause-bytes c =
    let before = c.args.outbox.now.bytes.items in
    let list = c.args.list.now in
    let shanten = c.args.shanten in
    c.put_discards_text.ensures.bytes
    ∙ ap (λ z. before ++ (shanten_front z ++ flat_map kept_text list)) (to_z-of_z {w = w8} {z = c.args.shanten} (record { sfits = c.ranges.shanten.sfits }))
    ∙ ap (λ (t : List ℕ). before ++ (shanten_front shanten ++ t)) (pieces_there prospect_text kept_text refl (λ x. refl) list)
    ∙ ap (λ form. before ++ told_in form (Discards shanten c.args.order (all_there list))) (sym c.in-Answers.is)

pub returns-in-Explained-clause-bytes : goal.returns-in-Explained-clause-bytes
returns-in-Explained-clause-bytes c =
    let before = c.args.outbox.now.bytes.items in
    let list = c.args.list.now in
    let shanten = c.args.shanten in
    let reasons : List ℕ = flat_map kept_reason list in
    pushed-two before (shanten_front (to_z w8 (of_z w8 shanten)) ++ flat_map kept_text list) reasons c.put_discards_text-in-Explained.ensures.bytes c.put_prospect_reasons.ensures.bytes
    ∙ ap (λ z. before ++ (shanten_front z ++ flat_map kept_text list ++ reasons)) (to_z-of_z {w = w8} {z = c.args.shanten} (record { sfits = c.ranges.shanten.sfits }))
    ∙ ap (λ (t : List ℕ). before ++ (shanten_front shanten ++ t ++ reasons)) (pieces_there prospect_text kept_text refl (λ x. refl) list)
    ∙ ap (λ (t : List ℕ). before ++ (shanten_front shanten ++ flat_map prospect_text (all_there list) ++ t)) (pieces_there prospect_reason kept_reason refl (λ x. refl) list)
    ∙ ap (λ form. before ++ told_in form (Discards shanten c.args.order (all_there list))) (sym c.in-Explained.is)
