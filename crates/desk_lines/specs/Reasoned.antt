-- The answer to a line as JSON, which says of a win why it is so.
use Rattle.std.specs.Prelude.{◌≡◌, ℕ, List, ◌++◌, Option, None, Some, Result, Ok, Err, codes, option_map}
use Rattle.std.proofs.Common.{refl, sym, subst, ap, ◌∙◌}
use Rattle.riichi_hand.specs.declared.fault.LineFault.{LineFault}
use Rattle.riichi_hand.specs.declared.job.Job.{Job}
use Rattle.riichi_hand.specs.declared.job.Job.TheVariants.{Win, Waits, Shape}
use Rattle.riichi_hand.specs.Rules.{Rules}
use Rattle.riichi_hand.specs.declared.win.WinParts.{WinParts}
use Rattle.riichi_hand.specs.Lines.{outcome_of}
use Rattle.desk_reasons.specs.Reasons.{IsExplainedWin}
use Rattle.desk_lines.specs.JsonLine.{json_of, json_alike, outcome_json, IsJobObject, IsRefusalObject, AreRefusalMembers}
use Rattle.desk_lines.specs.LongLines.{AreAlike, long_outcome}
use Rattle.desk_lines.specs.Outcomes.{TellsOutcome, TellsLine, Behind, told_behind}

-- the win that a line is, if it is one
abbrev pub win_in : Result (Option Job) LineFault → Option WinParts
win_in (Ok None) = None
win_in (Ok (Some (Win win))) = Some win
win_in (Ok (Some (Waits hand))) = None
win_in (Ok (Some (Shape shape))) = None
win_in (Err fault) = None

-- a win is answered with its reasons, and any other line as it is without
abbrev pub IsReasonedBy : Rules → List ℕ → Option WinParts → Option (List ℕ) → Type 0
IsReasonedBy rules line None told = told ≡ json_of rules line
IsReasonedBy rules line (Some win) None = ⊥
IsReasonedBy rules line (Some win) (Some object) = IsExplainedWin win object

abbrev pub IsReasoned : Rules → List ℕ → Option (List ℕ) → Type 0
IsReasoned rules line told = IsReasonedBy rules line (win_in (outcome_of rules line)) told

-- these are the members of such an object: behind a brace they are the object
abbrev pub AreReasoned : Rules → List ℕ → Option (List ℕ) → Type 0
AreReasoned rules line members = IsReasoned rules line (option_map (λ text. codes "{" ++ text) members)

pub reasoned_alike : AreAlike IsReasoned
reasoned_alike rules line other told long long_other is =
    let same : told ≡ json_of rules line = subst (λ (win : Option WinParts). IsReasonedBy rules line win told) (ap win_in (long_outcome rules line long)) is in
    subst (λ (win : Option WinParts). IsReasonedBy rules other win told) (sym (ap win_in (long_outcome rules other long_other))) (json_alike rules line other told long long_other same)

pub reasoned_members_alike : AreAlike AreReasoned
reasoned_members_alike rules line other told long long_other is =
    reasoned_alike rules line other (option_map (λ text. codes "{" ++ text) told) long long_other is

-- ---- by the outcome

-- a win is told with its reasons, and any other job by its object
abbrev pub IsJobReasoned : Rules → Job → List ℕ → Type 0
IsJobReasoned rules (Win win) object = IsExplainedWin win object
IsJobReasoned rules (Waits hand) object = IsJobObject rules (Waits hand) object
IsJobReasoned rules (Shape shape) object = IsJobObject rules (Shape shape) object

abbrev pub AreJobReasoned : Rules → Job → List ℕ → Type 0
AreJobReasoned rules job members = Behind (IsJobReasoned rules job) (codes "{") members

outcome_reasoned : (rules : Rules) (line : List ℕ) (outcome : Result (Option Job) LineFault) (told : Option (List ℕ)) → json_of rules line ≡ outcome_json rules line outcome
    → TellsOutcome (IsJobReasoned rules) (IsRefusalObject rules line) outcome told → IsReasonedBy rules line (win_in outcome) told
outcome_reasoned rules line (Ok None) told json is = is ∙ sym json
outcome_reasoned rules line (Ok (Some (Win win))) None json is = is
outcome_reasoned rules line (Ok (Some (Win win))) (Some object) json is = is
outcome_reasoned rules line (Ok (Some (Waits hand))) None json is = absurd is
outcome_reasoned rules line (Ok (Some (Waits hand))) (Some object) json is = ap Some is ∙ sym json
outcome_reasoned rules line (Ok (Some (Shape shape))) None json is = absurd is
outcome_reasoned rules line (Ok (Some (Shape shape))) (Some object) json is = ap Some is ∙ sym json
outcome_reasoned rules line (Err fault) None json is = absurd is
outcome_reasoned rules line (Err fault) (Some object) json is = ap Some is ∙ sym json

pub reasoned_by_outcome : (rules : Rules) (line : List ℕ) (told : Option (List ℕ)) → TellsLine IsJobReasoned IsRefusalObject rules line told → IsReasoned rules line told
unfolding json_of
reasoned_by_outcome rules line told is = outcome_reasoned rules line (outcome_of rules line) told refl is

pub reasoned_members_by_outcome : (rules : Rules) (line : List ℕ) (told : Option (List ℕ)) → TellsLine AreJobReasoned AreRefusalMembers rules line told → AreReasoned rules line told
reasoned_members_by_outcome rules line told is =
    reasoned_by_outcome rules line (option_map (λ text. codes "{" ++ text) told) (told_behind (codes "{") (IsJobReasoned rules) (IsRefusalObject rules line) (outcome_of rules line) told is)
