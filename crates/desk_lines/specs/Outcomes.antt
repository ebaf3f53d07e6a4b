-- What may be told of a line, by what may be told of a job and of a fault.
use Rattle.std.specs.Prelude.{◌≡◌, ℕ, List, [], ◌∷◌, ◌++◌, Option, None, Some, Result, Ok, Err, option_map}
use Rattle.std.proofs.Common.{ap}
use Rattle.riichi_hand.specs.Rules.{Rules}
use Rattle.riichi_hand.specs.declared.fault.LineFault.{LineFault}
use Rattle.riichi_hand.specs.declared.job.Job.{Job}
use Rattle.riichi_hand.specs.Lines.{outcome_of}
use Rattle.riichi_hand.specs.FaultTexts.{fault_text}
use Rattle.desk_core.specs.declared.answer.Answer.{Answer}
use Rattle.desk_core.specs.AnswerText.{answer_text}
use Rattle.desk_core.specs.Value.{value_of}
use Rattle.desk_lines.specs.LineAnswer.{answer_of, outcome_told, IsBy}

-- a line that is no record has no answer; a job and a fault have one that may be told of them
abbrev pub TellsOutcome : (Job → List ℕ → Type 0) → (LineFault → List ℕ → Type 0) → Result (Option Job) LineFault → Option (List ℕ) → Type 0
TellsOutcome TellsJob TellsFault (Ok None) told = told ≡ None
TellsOutcome TellsJob TellsFault (Ok (Some job)) None = ⊥
TellsOutcome TellsJob TellsFault (Ok (Some job)) (Some text) = TellsJob job text
TellsOutcome TellsJob TellsFault (Err fault) None = ⊥
TellsOutcome TellsJob TellsFault (Err fault) (Some text) = TellsFault fault text

-- a line is told by its outcome under these rules
abbrev pub TellsLine : (Rules → Job → List ℕ → Type 0) → (Rules → List ℕ → LineFault → List ℕ → Type 0) → Rules → List ℕ → Option (List ℕ) → Type 0
TellsLine TellsJob TellsRefusal rules line told = TellsOutcome (TellsJob rules) (TellsRefusal rules line) (outcome_of rules line) told

-- a text of which this is so was put behind what stood there, as a line
abbrev pub PutsLine : (List ℕ → Type 0) → List ℕ → List ℕ → Type 0
PutsLine Tells before after = (text : List ℕ) × Tells text × (after ≡ before ++ (text ++ 10 ∷ []))

-- ---- answers that are texts of values

pub told_by_outcome : (text_of : Answer → List ℕ) (fault_of : LineFault → List ℕ) (outcome : Result (Option Job) LineFault) (told : Option (List ℕ))
    → TellsOutcome (λ job text. text ≡ text_of (value_of job)) (λ fault text. text ≡ fault_of fault) outcome told → told ≡ outcome_told text_of fault_of outcome
told_by_outcome text_of fault_of (Ok None) told is = is
told_by_outcome text_of fault_of (Ok (Some job)) None is = absurd is
told_by_outcome text_of fault_of (Ok (Some job)) (Some text) is = ap Some is
told_by_outcome text_of fault_of (Err fault) None is = absurd is
told_by_outcome text_of fault_of (Err fault) (Some text) is = ap Some is

-- the plain answer to a job
abbrev pub IsPlainJob : Rules → Job → List ℕ → Type 0
IsPlainJob rules job text = text ≡ answer_text (value_of job)

abbrev pub IsPlainRefusal : Rules → List ℕ → LineFault → List ℕ → Type 0
IsPlainRefusal rules line fault text = text ≡ fault_text fault

pub plain_by_outcome : (rules : Rules) (line : List ℕ) (told : Option (List ℕ)) → TellsLine IsPlainJob IsPlainRefusal rules line told → IsBy answer_of rules line told
unfolding answer_of
plain_by_outcome rules line told is = told_by_outcome answer_text fault_text (outcome_of rules line) told is

-- ---- answers without their front

-- what may be told behind a front
abbrev pub Behind : (List ℕ → Type 0) → List ℕ → List ℕ → Type 0
Behind Tells front text = Tells (front ++ text)

pub told_behind : (front : List ℕ) (TellsJob : Job → List ℕ → Type 0) (TellsFault : LineFault → List ℕ → Type 0) (outcome : Result (Option Job) LineFault) (told : Option (List ℕ))
    → TellsOutcome (λ job text. Behind (TellsJob job) front text) (λ fault text. Behind (TellsFault fault) front text) outcome told
    → TellsOutcome TellsJob TellsFault outcome (option_map (λ text. front ++ text) told)
told_behind front TellsJob TellsFault (Ok None) told is = ap (option_map (λ text. front ++ text)) is
told_behind front TellsJob TellsFault (Ok (Some job)) None is = is
told_behind front TellsJob TellsFault (Ok (Some job)) (Some text) is = is
told_behind front TellsJob TellsFault (Err fault) None is = is
told_behind front TellsJob TellsFault (Err fault) (Some text) is = is
