-- What a teller of questions has told.
use Rattle.std.specs.Prelude.{◌≡◌, ℕ, List, ◌∷◌, Some, Ok}
use Rattle.desk_lines.specs.Telling.{report_of}
use Rattle.desk_lines.specs.declared.report.DeskReport.{DeskReport}
use Rattle.riichi_study.specs.Lines.{study_of}
use Rattle.riichi_study.specs.declared.study.Study.{Study}
use Rattle.desk_study.specs.Answers.{question_answers, question_kinds}
use Rattle.desk_study.specs.Ahead.{AsksTooMany, WantsMemory}
use Rattle.desk_study.specs.declared.questions.Questions.{Questions}

-- from the first state to the second these are the answers to these lines, counted so; the first line has the number 1
pub record HasAnswered (first now : Questions) (lines answers : List (List ℕ)) (report : DeskReport) : Type 0 where
  pub alike : now.manner ≡ first.manner
  pub answers_are : answers ≡ question_answers first.manner 1 lines
  pub report_is : report ≡ report_of (question_kinds 1 lines)

-- a line asks for chances or for a worth, for which memory may be wanted
abbrev pub LineWantsMemory : List ℕ → Type 0
LineWantsMemory line = (study : Study) × (study_of line ≡ Ok (Some study)) × WantsMemory study

-- a line asks for the chances of a hand that may come to more hands than the first number, or for the worth of one that may come to
-- more than the second
abbrev pub LineAsksTooMany : ℕ → ℕ → List ℕ → Type 0
LineAsksTooMany most_chances most_worths line = (study : Study) × (study_of line ≡ Ok (Some study)) × AsksTooMany most_chances most_worths study

-- the first of some lines may want memory
abbrev pub FirstWantsMemory : List (List ℕ) → Type 0
FirstWantsMemory lines = (line : List ℕ) × (others : List (List ℕ)) × (lines ≡ line ∷ others) × LineWantsMemory line
