-- What is said of a line that looks like a profile line and sets no profile.
use Rattle.std.specs.Prelude.{ℕ, List, ◌++◌, decimal, codes, if◌then◌else◌}
use Rattle.riichi_hand.specs.Rules.{Rules}
use Rattle.riichi_hand.specs.RulesWords.{is_house, rules_words}
use Rattle.desk_lines.specs.declared.report.Slip.{Slip}

-- rules of a house are named by their words, a profile by its number
abbrev pub rules_named : Rules → List ℕ
rules_named rules = (if is_house rules then codes "the rules" else codes "profile") ++ (codes " " ++ rules_words rules)

-- the name of the text, the line, and the rules under which the lines of the text are answered
abbrev pub slip_text : List ℕ → Slip → List ℕ
slip_text name slip =
    codes "riichi_desk: " ++ (name ++ (codes ": line " ++ (decimal slip.line ++ (codes " sets no profile: the lines are answered under "
    ++ (rules_named slip.rules ++ codes "; `rules 1` or `rules 2` sets one, alone in the first line")))))
