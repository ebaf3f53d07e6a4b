use Rattle.std.proofs.Common.{Ok, refl, ap, ◌∙◌}
use Rattle.riichi_hand.specs.Lines.{outcome_of}
use Rattle.desk_lines.proofs.OutcomeLemmas.{puts_none, puts_job, puts_refusal}
use Rattle.desk_lines.proofs.responder.Responder.respond.Goals as goal

pub returns-in-Ok-None-clause-puts : goal.returns-in-Ok-None-clause-puts
returns-in-Ok-None-clause-puts g c =
    let rules = c.args.rules in
    let line = c.args.line.now in
    puts_none (g.Self.Responder.tells_job rules) (g.Self.Responder.tells_refusal rules line) (outcome_of rules line) c.args.outbox.now.bytes.items c.args.outbox.now.bytes.items (c.in-Ok-None.ensures ∙ ap Ok c.in-Ok-None.field-0-is) refl

pub returns-in-Ok-Some-clause-puts : goal.returns-in-Ok-Some-clause-puts
returns-in-Ok-Some-clause-puts g c =
    let rules = c.args.rules in
    let line = c.args.line.now in
    puts_job (g.Self.Responder.tells_job rules) (g.Self.Responder.tells_refusal rules line) (outcome_of rules line) c.in-Ok-Some.job c.args.outbox.now.bytes.items c.put_job.new.outbox.bytes.items (c.in-Ok-Some.ensures ∙ ap Ok c.in-Ok-Some.field-0-is)
    c.put_job.ensures

pub returns-in-Err-clause-puts : goal.returns-in-Err-clause-puts
returns-in-Err-clause-puts g c =
    let rules = c.args.rules in
    let line = c.args.line.now in
    puts_refusal (g.Self.Responder.tells_job rules) (g.Self.Responder.tells_refusal rules line) (outcome_of rules line) c.in-Err.refusal.fault c.args.outbox.now.bytes.items c.put_refusal.new.outbox.bytes.items c.in-Err.ensures.0 c.put_refusal.ensures
