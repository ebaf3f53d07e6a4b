-- What is said of one line beside its answer.
use Rattle.std.specs.Prelude.{◌≡◌, ℕ, List, [], ◌++◌, Option, Result, Ok, Err, codes, if◌then◌else◌}
use Rattle.std.specs.Str.{bytes_eq}
use Rattle.riichi_hand.specs.Rules.{Rules}
use Rattle.riichi_hand.specs.RulesWords.{rules_words}
use Rattle.riichi_hand.specs.declared.fault.LineFault.{LineFault}
use Rattle.riichi_hand.specs.declared.job.Job.{Job}
use Rattle.riichi_hand.specs.Lines.{outcome_of}
use Rattle.riichi_hints.specs.Hint.{IsRefusalText}

-- nothing where the line is not refused, else what its fault means and a line to try
abbrev pub IsMeaningOf : Rules → List ℕ → Result (Option Job) LineFault → List ℕ → Type 0
IsMeaningOf rules line (Ok job) text = text ≡ []
IsMeaningOf rules line (Err fault) text = IsRefusalText rules line fault text

abbrev pub IsMeaning : Rules → List ℕ → List ℕ → Type 0
IsMeaning rules line text = IsMeaningOf rules line (outcome_of rules line) text

-- the command that explains the line, with its rules, where these aren't the first profile
abbrev pub why_text : Rules → List ℕ → List ℕ
why_text rules line =
    if bytes_eq (rules_words rules) (codes "1") then codes "  why: riichi_desk explain " ++ line
    else codes "  why: riichi_desk explain --rules " ++ (rules_words rules ++ (codes " " ++ line))
