-- One explained answer, as it is put behind others.
use Rattle.std.proofs.Common.{◌≡◌, ℕ, List, [], ◌∷◌, ◌++◌, true, Some, Ok, refl, sym, ap, ◌∙◌, append_assoc}
use Rattle.riichi_hand.specs.declared.fault.LineFault.{LineFault}
use Rattle.riichi_hand.specs.declared.job.Job.{Job}
use Rattle.riichi_hand.specs.FaultTexts.{fault_text}
use Rattle.riichi_hand.specs.Rules.{Rules, first_profile}
use Rattle.riichi_explain.specs.declared.explaining.Shown.{Shown}
use Rattle.riichi_explain.specs.Explanation.{IsJobText}
use Rattle.riichi_explain.proofs.ExplainedLines.{outcome_text-lines}
use Rattle.riichi_explain.proofs.PlainTexts.{are_indented}
use Rattle.riichi_explain.proofs.RefusalLines.{refusal_text-lines}
use Rattle.riichi_hints.specs.Hint.{IsRefusalText}
use Rattle.desk_core.specs.AnswerText.{answer_text}
use Rattle.desk_core.specs.Value.{value_of}
use Rattle.desk_lines.specs.Explained.{IsWithWhy, IsJobWithWhy, IsRefusalWithWhy}
use Rattle.desk_lines.specs.Outcomes.{PutsLine}
use Rattle.desk_lines.proofs.ExplainedLemmas.{last_feed}

-- an answer with its line feed and lines behind it are a line
with_why : (Explains : List ℕ → Type 0) (answer before after why : List ℕ) → are_indented why ≡ true → Explains why → after ≡ before ++ ((answer ++ 10 ∷ []) ++ why) → PutsLine (IsWithWhy Explains answer) before after
with_why Explains answer before after why lines explains put =
    let more = last_feed true 10 why lines (λ same. refl) in
    let whole : (answer ++ more.0) ++ 10 ∷ [] ≡ (answer ++ 10 ∷ []) ++ why =
    append_assoc answer more.0 (10 ∷ []) ∙ ap (λ (rest : List ℕ). answer ++ rest) more.1 ∙ sym (append_assoc answer (10 ∷ []) why) in (
      answer ++ more.0,
      record { why = why; explains = explains; more = more.0; text_is = refl; more_is = more.1 },
      put ∙ ap (λ (all : List ℕ). before ++ all) (sym whole),
    )

pub job_with_why : (shown : Shown) (job : Job) (before after why : List ℕ) → IsJobText shown job why → after ≡ before ++ ((answer_text (value_of job) ++ 10 ∷ []) ++ why)
    → PutsLine (IsJobWithWhy shown first_profile job) before after
job_with_why shown job before after why is put =
    with_why (IsJobText shown job) (answer_text (value_of job)) before after why (outcome_text-lines shown first_profile [] (Ok (Some job)) why is) is put

pub refusal_with_why : (rules : Rules) (line : List ℕ) (fault : LineFault) (before after why : List ℕ) → IsRefusalText rules line fault why → after ≡ before ++ ((fault_text fault ++ 10 ∷ []) ++ why)
    → PutsLine (IsRefusalWithWhy rules line fault) before after
refusal_with_why rules line fault before after why is put =
    with_why (IsRefusalText rules line fault) (fault_text fault) before after why (refusal_text-lines rules line fault why is) is put
