use Rattle.std.proofs.Common.{Ok, refl, sym, ap, ◌∙◌}
use Rattle.riichi_hand.specs.Lines.{outcome_of}
use Rattle.desk_lines.specs.Outcomes.{IsPlainJob, IsPlainRefusal}
use Rattle.desk_lines.proofs.OutcomeLemmas.{puts_none, puts_job, puts_refusal}
use Rattle.desk_lines.proofs.answering.PlainResponder.respond.Goals as goal

pub returns-in-Ok-None-clause-puts : goal.returns-in-Ok-None-clause-puts
returns-in-Ok-None-clause-puts g c =
    let rules = c.args.rules in
    let line = c.args.line.now in
    puts_none (IsPlainJob rules) (IsPlainRefusal rules line) (outcome_of rules line) c.args.outbox.now.bytes.items c.args.outbox.now.bytes.items (sym c.read_line.ensures.value ∙ c.in-Ok-None.is ∙ ap Ok c.in-Ok-None.field-0-is) refl

pub returns-in-Ok-Some-clause-puts : goal.returns-in-Ok-Some-clause-puts
returns-in-Ok-Some-clause-puts g c =
    let rules = c.args.rules in
    let line = c.args.line.now in
    puts_job (IsPlainJob rules) (IsPlainRefusal rules line) (outcome_of rules line) c.in-Ok-Some.job c.args.outbox.now.bytes.items c.put_job.new.outbox.bytes.items (sym c.read_line.ensures.value ∙ c.in-Ok-Some.is ∙ ap Ok c.in-Ok-Some.field-0-is) c.put_job.ensures

pub returns-in-Err-clause-puts : goal.returns-in-Err-clause-puts
returns-in-Err-clause-puts g c =
    let rules = c.args.rules in
    let line = c.args.line.now in
    puts_refusal (IsPlainJob rules) (IsPlainRefusal rules line) (outcome_of rules line) c.in-Err.fault c.args.outbox.now.bytes.items c.put_fault.new.outbox.bytes.items (sym c.read_line.ensures.value ∙ c.in-Err.is) (_, refl, c.put_fault.ensures.told)
