-- The answer to a line, followed by lines that explain it; each of these begins with two spaces.
use Rattle.std.specs.Prelude.{◌≡◌, ℕ, List, [], ◌∷◌, ◌++◌, Bool, not, Option, None, Some, Result, Ok, Err, filter, nat_eq, codes}
use Rattle.std.specs.List.{starts_with}
use Rattle.std.proofs.Common.{refl, sym, subst}
use Rattle.riichi_hand.specs.Rules.{Rules}
use Rattle.riichi_hand.specs.declared.fault.LineFault.{LineFault}
use Rattle.riichi_hand.specs.declared.job.Job.{Job}
use Rattle.riichi_hand.specs.FaultTexts.{fault_text}
use Rattle.riichi_hand.specs.Lines.{outcome_of}
use Rattle.riichi_hints.specs.Hint.{IsRefusalText}
use Rattle.riichi_explain.specs.declared.explaining.Shown.{Shown}
use Rattle.riichi_explain.specs.Explanation.{IsJobText, IsOutcomeText, IsExplanation}
use Rattle.desk_core.specs.AnswerText.{answer_text}
use Rattle.desk_core.specs.Value.{value_of}
use Rattle.desk_lines.specs.Lines.{cut_of}
use Rattle.desk_lines.specs.LineAnswer.{answer_of, outcome_text}
use Rattle.desk_lines.specs.Outcomes.{TellsOutcome, TellsLine}
use Rattle.desk_lines.specs.Telling.{text_of}

-- The text is the answer, and behind it lines that explain it. The last of these has no line feed yet.
pub record IsWithWhy (Explains : List ℕ → Type 0) (answer text : List ℕ) : Type 0 where
  pub why : List ℕ
  pub explains : Explains why
  pub more : List ℕ
  pub text_is : text ≡ answer ++ more
  pub more_is : more ++ 10 ∷ [] ≡ 10 ∷ why

-- a job with why it is answered so, and a refusal with why it is one
abbrev pub IsJobWithWhy : Shown → Rules → Job → List ℕ → Type 0
IsJobWithWhy shown rules job text = IsWithWhy (IsJobText shown job) (answer_text (value_of job)) text

abbrev pub IsRefusalWithWhy : Rules → List ℕ → LineFault → List ℕ → Type 0
IsRefusalWithWhy rules line fault text = IsWithWhy (IsRefusalText rules line fault) (fault_text fault) text

abbrev pub IsToldWithWhy : Shown → Rules → List ℕ → Option (List ℕ) → Option (List ℕ) → Type 0
IsToldWithWhy shown rules line None told = told ≡ None
IsToldWithWhy shown rules line (Some answer) None = ⊥
IsToldWithWhy shown rules line (Some answer) (Some text) = IsWithWhy (IsExplanation shown rules line) answer text

-- the explained answer to a line
abbrev pub IsExplained : Shown → Rules → List ℕ → Option (List ℕ) → Type 0
IsExplained shown rules line told = IsToldWithWhy shown rules line (answer_of rules line) told

outcome_with_why : (shown : Shown) (rules : Rules) (line : List ℕ) (outcome : Result (Option Job) LineFault) (told : Option (List ℕ)) → outcome_of rules line ≡ outcome
    → TellsOutcome (IsJobWithWhy shown rules) (IsRefusalWithWhy rules line) outcome told → IsToldWithWhy shown rules line (outcome_text outcome) told
unfolding IsExplanation
outcome_with_why shown rules line (Ok None) told same is = is
outcome_with_why shown rules line (Ok (Some job)) None same is = is
outcome_with_why shown rules line (Ok (Some job)) (Some text) same is = record {
  why = is.why;
  explains = subst (λ (outcome : Result (Option Job) LineFault). IsOutcomeText shown rules line outcome is.why) (sym same) is.explains;
  more = is.more;
  text_is = is.text_is;
  more_is = is.more_is;
}
outcome_with_why shown rules line (Err fault) None same is = is
outcome_with_why shown rules line (Err fault) (Some text) same is = record {
  why = is.why;
  explains = subst (λ (outcome : Result (Option Job) LineFault). IsOutcomeText shown rules line outcome is.why) (sym same) is.explains;
  more = is.more;
  text_is = is.text_is;
  more_is = is.more_is;
}

pub explained_by_outcome : (shown : Shown) (rules : Rules) (line : List ℕ) (told : Option (List ℕ)) → TellsLine (IsJobWithWhy shown) IsRefusalWithWhy rules line told → IsExplained shown rules line told
unfolding answer_of
explained_by_outcome shown rules line told is = outcome_with_why shown rules line (outcome_of rules line) told refl is

-- ---- the law

abbrev pub is_indented : List ℕ → Bool
is_indented line = starts_with nat_eq line (codes "  ")

-- a text of lines without those that begin with two spaces
abbrev pub without_indented : List ℕ → List ℕ
without_indented text = text_of (filter (λ line. not (is_indented line)) (cut_of text).ended)
