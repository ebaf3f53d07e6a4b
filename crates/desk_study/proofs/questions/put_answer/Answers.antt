use Rattle.std.proofs.Common.{◌≡◌, ◌∙◌, ◌∷◌, ◌++◌, ℕ, List, [], sym, subst, ap}
use Rattle.riichi_text.proofs.Pieces.{pushed-three}
use Rattle.riichi_study.specs.Findings.{finding_of}
use Rattle.riichi_study.specs.declared.study.Study.{Study}
use Rattle.desk_lines.specs.declared.outbox.Outbox.{Outbox}
use Rattle.desk_study.specs.Answers.{form_front, told_in}
use Rattle.desk_study.specs.Ahead.{IsFoundOf}
use Rattle.desk_study.specs.declared.ahead.Ahead.{Ahead}
use Rattle.desk_study.specs.declared.ahead.Ahead.TheVariants.{Chances, Worths}
use Rattle.desk_study.proofs.FoundLemmas.{chances_told}
use Rattle.desk_study.proofs.WorthLemmas.{worths_told}
use Rattle.desk_study.proofs.questions.put_answer.Goals as goal
use Rattle.desk_study.proofs.questions.put_answer.Goals.{in-Shape, in-Calls, in-Safe, in-Chances+in-Chances-ahead, in-Worth+in-Worths}

pub returns : goal.returns
returns g c =
    let form = c.args.form in
    let study = c.args.study.now in
    let front = c.put_front.new.outbox.bytes.items in
    let told : c.match-study.outbox.bytes.items ≡ front ++ told_in form (finding_of study) = elim c.match-study.branch [
      | in-Shape w ↦ ap (λ (o : Outbox). o.bytes.items) w.outbox-is ∙ w.put_shape.ensures.bytes ∙ ap (λ (s : Study). front ++ told_in form (finding_of s)) (sym w.in-Shape.is)
      | in-Calls w ↦ ap (λ (o : Outbox). o.bytes.items) w.outbox-is ∙ w.put_calls.ensures.bytes ∙ ap (λ (s : Study). front ++ told_in form (finding_of s)) (sym w.in-Calls.is)
      | in-Safe w ↦ ap (λ (o : Outbox). o.bytes.items) w.outbox-is ∙ w.put_safe.ensures.bytes ∙ ap (λ (s : Study). front ++ told_in form (finding_of s)) (sym w.in-Safe.is)
      | in-Chances+in-Chances-ahead w ↦
          let found = subst (λ (s : Study). IsFoundOf s (Chances w.in-Chances-ahead.found)) w.in-Chances.is (subst (λ (o : Ahead). IsFoundOf study o) w.in-Chances-ahead.is c.requires.found) in
          ap (λ (o : Outbox). o.bytes.items) w.outbox-is ∙ w.put_chances.ensures.bytes ∙ ap (λ (t : List ℕ). front ++ t) (chances_told w.in-Chances.field-0 w.in-Chances.field-1 w.in-Chances-ahead.found found form)
          ∙ ap (λ (s : Study). front ++ told_in form (finding_of s)) (sym w.in-Chances.is)
      | in-Worth+in-Worths w ↦
          let found = subst (λ (s : Study). IsFoundOf s (Worths w.in-Worths.found)) w.in-Worth.is (subst (λ (o : Ahead). IsFoundOf study o) w.in-Worths.is c.requires.found) in
          ap (λ (o : Outbox). o.bytes.items) w.outbox-is ∙ w.put_worths.ensures.bytes ∙ ap (λ (t : List ℕ). front ++ t) (worths_told w.in-Worth.field-0 w.in-Worth.field-1 w.in-Worths.found found form)
          ∙ ap (λ (s : Study). front ++ told_in form (finding_of s)) (sym w.in-Worth.is)
    ] in
    pushed-three c.args.outbox.now.bytes.items (form_front form c.args.number) (told_in form (finding_of study)) (10 ∷ []) c.put_front.ensures.bytes told c.put_end.ensures
