use Rattle.std.proofs.Common.{rules, ◌≡◌, ◌∙◌, Some, Err, sym, ap, subst}
use Rattle.riichi_hand.specs.declared.line.job_name.JobName.TheVariants as names
use Rattle.riichi_hand.specs.declared.line.needed.Needed.{Needed}
use Rattle.riichi_hand.specs.declared.job.Job.TheVariants as jobs
use Rattle.riichi_hand.specs.Faults.{first_fault}
use Rattle.riichi_hand.specs.Hand.{hand_of, hand_faults, shape_of, shape_faults}
use Rattle.riichi_hand.specs.Parts.{parts_in}
use Rattle.riichi_hand.specs.Jobs.{AreNeeded, hand_of_line, shape_of_line}
use Rattle.riichi_hand.proofs.OutcomeLemmas.{first_of_err, first_of_ok}
use Rattle.riichi_hand.proofs.line.jobs.make_job.Goals as goal

pub returns-in_err-new-in-Waits : goal.returns-in_err-new-in-Waits
unfolding hand_of
returns-in_err-new-in-Waits c =
    let texts = c.args.texts.now in
    let fault = c.in_err-new-in-Waits.field-0.0 in
    let Of : Needed → Type 0 = λ needed. AreNeeded needed (parts_in c.args.words.now) in
    let job : c.args.words.now.job ≡ names.Waits = subst Of c.in-Waits.is c.requires.needed in
    let refused : c.from_residual-in_err-new-in-Waits.result ≡ Err fault = search rules in
    let first = first_of_err (first_fault (hand_faults (hand_of_line texts))) (hand_of_line texts) fault (sym c.in_err-new-in-Waits.was ∙ c.new.ensures) in
    rw (refused, job) first

pub returns-in_ok-new-in-Waits : goal.returns-in_ok-new-in-Waits
unfolding hand_of
returns-in_ok-new-in-Waits c =
    let texts = c.args.texts.now in
    let Of : Needed → Type 0 = λ needed. AreNeeded needed (parts_in c.args.words.now) in
    let job : c.args.words.now.job ≡ names.Waits = subst Of c.in-Waits.is c.requires.needed in
    let first = first_of_ok (first_fault (hand_faults (hand_of_line texts))) (hand_of_line texts) c.in_ok-new-in-Waits.field-0 (sym c.in_ok-new-in-Waits.was ∙ c.new.ensures) in
    rw job (first.0, ap (λ held. Some (jobs.Waits held)) first.1)

pub returns-in_err-new-in-Shape : goal.returns-in_err-new-in-Shape
unfolding shape_of
returns-in_err-new-in-Shape c =
    let texts = c.args.texts.now in
    let fault = c.in_err-new-in-Shape.field-0.0 in
    let Of : Needed → Type 0 = λ needed. AreNeeded needed (parts_in c.args.words.now) in
    let job : c.args.words.now.job ≡ names.Shape = subst Of c.in-Shape.is c.requires.needed in
    let refused : c.from_residual-in_err-new-in-Shape.result ≡ Err fault = search rules in
    let first = first_of_err (first_fault (shape_faults (shape_of_line texts))) (shape_of_line texts) fault (sym c.in_err-new-in-Shape.was ∙ c.new-in-Shape.ensures) in
    rw (refused, job) first

pub returns-in_ok-new-in-Shape : goal.returns-in_ok-new-in-Shape
unfolding shape_of
returns-in_ok-new-in-Shape c =
    let texts = c.args.texts.now in
    let Of : Needed → Type 0 = λ needed. AreNeeded needed (parts_in c.args.words.now) in
    let job : c.args.words.now.job ≡ names.Shape = subst Of c.in-Shape.is c.requires.needed in
    let first = first_of_ok (first_fault (shape_faults (shape_of_line texts))) (shape_of_line texts) c.in_ok-new-in-Shape.field-0 (sym c.in_ok-new-in-Shape.was ∙ c.new-in-Shape.ensures) in
    rw job (first.0, ap (λ held. Some (jobs.Shape held)) first.1)
