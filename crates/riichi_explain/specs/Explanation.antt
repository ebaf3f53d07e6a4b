-- The lines that follow an answer and say why it is what it is.
use Rattle.std.specs.Prelude.{◌≡◌, ℕ, List, [], ◌++◌, Option, None, Some, Result, Ok, Err, codes}
use Rattle.std.specs.List.{flat_map}
use Rattle.riichi_hand.specs.Rules.{Rules}
use Rattle.riichi_hand.specs.declared.win.WinParts.{WinParts}
use Rattle.riichi_hand.specs.declared.job.Job.{Job}
use Rattle.riichi_hand.specs.declared.job.Job.TheVariants as job
use Rattle.riichi_hand.specs.declared.fault.LineFault.{LineFault}
use Rattle.riichi_hand.specs.HandParts.{ShapeParts}
use Rattle.riichi_hand.specs.Lines.{outcome_of}
use Rattle.riichi_hand.specs.RulesWords.{house_words}
use Rattle.riichi_split.specs.declared.reading.Reading.{Reading}
use Rattle.riichi_score.specs.Best.{best_of}
use Rattle.riichi_shape.specs.declared.forms.FormDistances.{FormDistances}
use Rattle.riichi_explain.specs.declared.explaining.Shown.{Shown}
use Rattle.riichi_explain.specs.declared.explaining.Shown.TheVariants.{BestReading, EveryReading}
use Rattle.riichi_explain.specs.declared.ranked.RankedReading.{RankedReading}
use Rattle.riichi_explain.specs.declared.win.WinExplanation.{WinExplanation}
use Rattle.riichi_explain.specs.declared.win.WinExplanation.TheVariants.{Won, NoYaku, NoWin}
use Rattle.riichi_hints.specs.Hint.{IsRefusalText}
use Rattle.riichi_explain.specs.Forms.{AreFormDistances, shanten_line}
use Rattle.riichi_explain.specs.Missed.{missed_lines}
use Rattle.riichi_explain.specs.Notes.{note_lines}
use Rattle.riichi_explain.specs.Others.{IsOthersText}
use Rattle.riichi_explain.specs.Text.{won_hand_text, no_yaku_line, line_feed}
use Rattle.riichi_explain.specs.Waits.{kind_waits, waits_line}
use Rattle.riichi_explain.specs.Win.{Explains, explained_answer, explained_reading}

-- the lines of readings without yaku
abbrev pub no_yaku_lines : List RankedReading → WinParts → List ℕ
no_yaku_lines ranked win = flat_map (λ one. no_yaku_line one.reading win) ranked

abbrev pub reason_lines : WinExplanation → WinParts → List ℕ
reason_lines (Won hand) win = won_hand_text hand
reason_lines (NoYaku ranked) win = no_yaku_lines ranked.items win
reason_lines (NoWin missed) win = missed_lines missed

-- rules that are neither profile have the first line, and what else is to be said of the win the next
abbrev pub rules_line : Rules → List ℕ
rules_line rules = house_words (codes "  rules   ") line_feed rules

abbrev pub win_lines : WinExplanation → WinParts → List ℕ
win_lines explanation win = rules_line win.rules ++ (note_lines win ++ reason_lines explanation win)

-- The text says why a win is worth what it is, by the best reading of a hand that scores.
pub record IsBestText (win : WinParts) (text : List ℕ) : Type 0 where
  pub explanation : WinExplanation
  pub answer : explained_answer explanation ≡ best_of win
  pub explains : Explains win explanation
  pub text_is : text ≡ win_lines explanation win

-- the lines of the readings beside the one that scores, if there is one
abbrev pub AreOthers : Option Reading → WinParts → List ℕ → Type 0
AreOthers None win text = text ≡ []
AreOthers (Some best) win text = IsOthersText best win text

-- The same, and what each other reading is worth.
pub record IsEveryText (win : WinParts) (text : List ℕ) : Type 0 where
  pub best : List ℕ
  pub is_best : IsBestText win best
  pub others : List ℕ
  pub are_others : AreOthers (explained_reading is_best.explanation) win others
  pub text_is : text ≡ best ++ others

abbrev pub IsWinText : Shown → WinParts → List ℕ → Type 0
IsWinText BestReading win text = IsBestText win text
IsWinText EveryReading win text = IsEveryText win text

-- The text says how far a shape is from each form.
pub record IsShapeText (shape : ShapeParts) (text : List ℕ) : Type 0 where
  pub forms : FormDistances
  pub distances : AreFormDistances shape.tiles shape.melds forms
  pub text_is : text ≡ shanten_line forms

abbrev pub IsJobText : Shown → Job → List ℕ → Type 0
IsJobText shown (job.Win win) text = IsWinText shown win text
IsJobText shown (job.Waits hand) text = text ≡ waits_line (kind_waits hand)
IsJobText shown (job.Shape shape) text = IsShapeText shape text

-- The text says why a line with this outcome is answered as it is.
abbrev pub IsOutcomeText : Shown → Rules → List ℕ → Result (Option Job) LineFault → List ℕ → Type 0
IsOutcomeText shown rules line (Ok None) text = text ≡ []
IsOutcomeText shown rules line (Ok (Some job)) text = IsJobText shown job text
IsOutcomeText shown rules line (Err fault) text = IsRefusalText rules line fault text

-- The text says why a line is answered as it is.
unfoldable pub IsExplanation : Shown → Rules → List ℕ → List ℕ → Type 0
IsExplanation shown rules line text = IsOutcomeText shown rules line (outcome_of rules line) text
