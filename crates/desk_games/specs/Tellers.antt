-- What a teller of games was told to do, and has told.
use Rattle.std.specs.Prelude.{◌≡◌, ℕ, List}
use Rattle.desk_lines.specs.declared.report.DeskReport.{DeskReport}
use Rattle.desk_games.specs.Texts.{AnswersLines}
use Rattle.desk_games.specs.declared.games.Games.{Games}

-- two tellers have the same rules, form and numbers
abbrev pub TellsAlike : Games → Games → Type 0
TellsAlike one other = (one.given ≡ other.given) × (one.is_numbered ≡ other.is_numbered) × (one.form ≡ other.form)

-- from the first state to the second a teller has taken these lines, and given them these answers
abbrev pub HasTold : Games → Games → List (List ℕ) → List (List ℕ) → DeskReport → Type 0
HasTold first now lines answers report =
    TellsAlike now first × AnswersLines first.is_numbered first.form first.given first.desk lines answers report now.desk
