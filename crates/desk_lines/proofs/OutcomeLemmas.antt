-- The answer to a line, as it is put behind others, by the outcome of the line.
use Rattle.std.proofs.Common.{◌≡◌, ℕ, List, Option, Some, None, Result, Ok, Err, refl, sym, subst, ◌∙◌}
use Rattle.std.proofs.lemmas.List.{append-nil}
use Rattle.riichi_hand.specs.declared.fault.LineFault.{LineFault}
use Rattle.riichi_hand.specs.declared.job.Job.{Job}
use Rattle.desk_lines.specs.declared.line_kind.LineKind.TheVariants.{NoRecord, Answered, Refused}
use Rattle.desk_lines.specs.Outcomes.{TellsOutcome, PutsLine}
use Rattle.desk_lines.specs.Records.{Puts}

abbrev Outcome : Type 0
Outcome = Result (Option Job) LineFault

pub puts_none : (TellsJob : Job → List ℕ → Type 0) (TellsFault : LineFault → List ℕ → Type 0) (outcome : Outcome) (before after : List ℕ) → outcome ≡ Ok None → after ≡ before
    → Puts (TellsOutcome TellsJob TellsFault outcome) NoRecord before after
puts_none TellsJob TellsFault outcome before after is same = record {
  told = None;
  may_be_told = subst (λ (o : Outcome). TellsOutcome TellsJob TellsFault o None) (sym is) refl;
  kind_is = refl;
  put = same ∙ sym (append-nil before);
}

pub puts_job : (TellsJob : Job → List ℕ → Type 0) (TellsFault : LineFault → List ℕ → Type 0) (outcome : Outcome) (job : Job) (before after : List ℕ) → outcome ≡ Ok (Some job) → PutsLine (TellsJob job) before after
    → Puts (TellsOutcome TellsJob TellsFault outcome) Answered before after
puts_job TellsJob TellsFault outcome job before after is put = record {
  told = Some put.0;
  may_be_told = subst (λ (o : Outcome). TellsOutcome TellsJob TellsFault o (Some put.0)) (sym is) put.1;
  kind_is = refl;
  put = put.2;
}

pub puts_refusal : (TellsJob : Job → List ℕ → Type 0) (TellsFault : LineFault → List ℕ → Type 0) (outcome : Outcome) (fault : LineFault) (before after : List ℕ) → outcome ≡ Err fault → PutsLine (TellsFault fault) before after
    → Puts (TellsOutcome TellsJob TellsFault outcome) Refused before after
puts_refusal TellsJob TellsFault outcome fault before after is put = record {
  told = Some put.0;
  may_be_told = subst (λ (o : Outcome). TellsOutcome TellsJob TellsFault o (Some put.0)) (sym is) put.1;
  kind_is = refl;
  put = put.2;
}
