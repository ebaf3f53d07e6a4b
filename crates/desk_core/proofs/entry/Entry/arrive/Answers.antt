use Rattle.std.proofs.Common.{◌≡◌, false, refl, sym, ap, ◌∙◌}
use Rattle.std.proofs.lemmas.Bool.{false≢true}
use Rattle.riichi_hand.specs.declared.job.Job.{Job}
use Rattle.riichi_hand.specs.contracts.job.JobPartialEq.TheImpl.{ghosts as jobs}
use Rattle.desk_core.specs.Entry.{job_with_arrival}
use Rattle.riichi_hand.specs.contracts.decided.JobDecided.TheImpl.Laws.{decides-law as job_decides}
use Rattle.desk_core.proofs.entry.Entry.arrive.Goals as goal

pub returns-then-eq-clause-outcome : goal.returns-then-eq-clause-outcome
returns-then-eq-clause-outcome c =
    let told : c.eq.result ≡ jobs.eq c.in-Waiting.job c.job.result = c.eq.ensures in
    let same : c.in-Waiting.job ≡ c.args.piece.job = (job_decides c.in-Waiting.job c.job.result).0 (sym told ∙ c.if-eq.true) ∙ c.job.ensures in
    (ap job_with_arrival c.in-Waiting.is ∙ ap (λ (job : Job). (job, false)) same, refl)

pub returns-else-eq-clause-outcome : goal.returns-else-eq-clause-outcome
returns-else-eq-clause-outcome c =
    let told : c.eq.result ≡ jobs.eq c.in-Waiting.job c.job.result = c.eq.ensures in
    let was : job_with_arrival c.args.self.now ≡ (c.in-Waiting.job, false) = ap job_with_arrival c.in-Waiting.is in (
      ap (λ e. e.1) was,
      λ same. false≢true (sym c.if-eq.false ∙ (told ∙ (job_decides c.in-Waiting.job c.job.result).1 (sym (ap (λ e. e.0) was) ∙ same ∙ sym c.job.ensures))),
      sym was,
    )
