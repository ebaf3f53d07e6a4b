-- The answer to one line as JSON.
use Rattle.std.specs.Prelude.{◌≡◌, ℕ, ◌<◌, List, ◌++◌, Option, Some, Result, length, codes, option_map}
use Rattle.std.proofs.Common.{sym, ap, ◌∙◌}
use Rattle.riichi_hand.specs.Rules.{Rules}
use Rattle.riichi_hand.specs.declared.fault.LineFault.{LineFault}
use Rattle.riichi_hand.specs.declared.job.Job.{Job}
use Rattle.riichi_hand.specs.Lines.{outcome_of}
use Rattle.desk_core.specs.Value.{value_of}
use Rattle.desk_json.specs.Text.{answer_json, refusal_json, long_texts_alike}
use Rattle.desk_lines.specs.LineAnswer.{outcome_told, IsBy}
use Rattle.desk_lines.specs.Outcomes.{TellsLine, told_by_outcome, Behind, told_behind}
use Rattle.desk_lines.specs.LongLines.{AreAlike, long_outcome}

abbrev pub outcome_json : Rules → List ℕ → Result (Option Job) LineFault → Option (List ℕ)
outcome_json rules line outcome = outcome_told (answer_json rules) (refusal_json line) outcome

-- the answer to a line as JSON
unfoldable pub json_of : Rules → List ℕ → Option (List ℕ)
json_of rules line = outcome_json rules line (outcome_of rules line)

long_objects : (rules : Rules) (line other : List ℕ) → 4096 < length line → 4096 < length other → json_of rules line ≡ json_of rules other
unfolding json_of
long_objects rules line other long long_other =
    ap (outcome_json rules line) (long_outcome rules line long) ∙ ap Some (long_texts_alike line other long long_other) ∙ ap (outcome_json rules other) (sym (long_outcome rules other long_other))

pub json_alike : AreAlike (IsBy json_of)
json_alike rules line other told long long_other is = is ∙ long_objects rules line other long long_other

-- the object of a job, and of a refusal
abbrev pub IsJobObject : Rules → Job → List ℕ → Type 0
IsJobObject rules job object = object ≡ answer_json rules (value_of job)

abbrev pub IsRefusalObject : Rules → List ℕ → LineFault → List ℕ → Type 0
IsRefusalObject rules line fault object = object ≡ refusal_json line fault

pub objects_by_outcome : (rules : Rules) (line : List ℕ) (told : Option (List ℕ)) → TellsLine IsJobObject IsRefusalObject rules line told → IsBy json_of rules line told
unfolding json_of
objects_by_outcome rules line told is = told_by_outcome (answer_json rules) (refusal_json line) (outcome_of rules line) told is

-- ---- members

-- these are the members of the object that answers a line: behind a brace they are the object
abbrev pub IsMembers : Rules → List ℕ → Option (List ℕ) → Type 0
IsMembers rules line members = option_map (λ text. codes "{" ++ text) members ≡ json_of rules line

pub members_alike : AreAlike IsMembers
members_alike rules line other told long long_other is = is ∙ long_objects rules line other long long_other

-- the members of the object of a job, and of a refusal
abbrev pub AreJobMembers : Rules → Job → List ℕ → Type 0
AreJobMembers rules job members = Behind (IsJobObject rules job) (codes "{") members

abbrev pub AreRefusalMembers : Rules → List ℕ → LineFault → List ℕ → Type 0
AreRefusalMembers rules line fault members = Behind (IsRefusalObject rules line fault) (codes "{") members

pub members_by_outcome : (rules : Rules) (line : List ℕ) (told : Option (List ℕ)) → TellsLine AreJobMembers AreRefusalMembers rules line told → IsMembers rules line told
members_by_outcome rules line told is =
    objects_by_outcome rules line (option_map (λ text. codes "{" ++ text) told) (told_behind (codes "{") (IsJobObject rules) (IsRefusalObject rules line) (outcome_of rules line) told is)
