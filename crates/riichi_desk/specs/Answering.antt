-- What is written for record lines, by the form that is asked for and by the numbers, and when a line is refused.
use Rattle.std.specs.Prelude.{◌≡◌, ◌||◌, ℕ, Bool, true, false, List, [], ◌∷◌, ◌++◌, nat_lt, MatchBool}
use Rattle.riichi_explain.specs.declared.explaining.Shown.TheVariants as shown
use Rattle.riichi_hand.specs.Rules.{Rules}
use Rattle.desk_io.specs.declared.sink.Sink.{Ghosts as OfSink}
use Rattle.desk_cli.specs.declared.request.Form.{Form}
use Rattle.desk_cli.specs.declared.request.Form.TheVariants as forms
use Rattle.desk_cli.specs.declared.request.Manner.{Manner}
use Rattle.desk_lines.specs.Explained.{IsExplained}
use Rattle.desk_lines.specs.JsonLine.{json_of, IsMembers}
use Rattle.desk_lines.specs.LineAnswer.{IsBy, answer_of}
use Rattle.desk_lines.specs.LineAnswers.{report_on}
use Rattle.desk_lines.specs.Lines.{lines}
use Rattle.desk_lines.specs.Numbered.{NumberRecords, words_front, object_front}
use Rattle.desk_lines.specs.Reasoned.{IsReasoned, AreReasoned}
use Rattle.desk_lines.specs.Records.{AnswerKind, AnswerRecords}
use Rattle.desk_lines.specs.Streams.{WritesAll}
use Rattle.desk_lines.specs.Telling.{text_by, text_of}

-- the answers of a form
abbrev pub answer_kind_of : Form → AnswerKind
answer_kind_of forms.Words = IsBy answer_of
answer_kind_of forms.Json = IsBy json_of
answer_kind_of forms.Reasons = IsExplained shown.BestReading
answer_kind_of forms.AllReasons = IsExplained shown.EveryReading
answer_kind_of forms.JsonReasons = IsReasoned

-- the same behind the numbers of their lines: of an object the members, since the number is one too
abbrev pub numbered_kind_of : Form → AnswerKind
numbered_kind_of forms.Words = IsBy answer_of
numbered_kind_of forms.Json = IsMembers
numbered_kind_of forms.Reasons = IsExplained shown.BestReading
numbered_kind_of forms.AllReasons = IsExplained shown.EveryReading
numbered_kind_of forms.JsonReasons = AreReasoned

abbrev pub front_of : Form → ℕ → List ℕ
front_of forms.Words = words_front
front_of forms.Json = object_front
front_of forms.Reasons = words_front
front_of forms.AllReasons = words_front
front_of forms.JsonReasons = object_front

-- The answers of a kind to these lines were written.
pub record WritesAnswers {W : Type 0} (Answers : AnswerKind) (sink : OfSink W) (old new : W) (given : Rules) (lines : List (List ℕ)) : Type 0 where
  pub told : List (List ℕ)
  pub are_told : AnswerRecords Answers given lines told
  pub written : WritesAll sink old new (text_of told)

-- The same, each behind the number of its line.
pub record WritesNumbered {W : Type 0} (Answers : AnswerKind) (front : ℕ → List ℕ) (sink : OfSink W) (old new : W) (given : Rules) (lines : List (List ℕ)) : Type 0 where
  pub told : List (ℕ × List ℕ)
  pub are_told : NumberRecords Answers given lines told
  pub written : WritesAll sink old new (text_by (λ answer. front answer.0 ++ answer.1) told)

-- these lines were answered in this manner
abbrev pub WritesInManner : {W : Type 0} → OfSink W → W → W → Manner → List (List ℕ) → Type 0
WritesInManner sink old new manner lines =
    MatchBool manner.is_numbered (WritesNumbered (numbered_kind_of manner.form) (front_of manner.form) sink old new manner.rules lines)
    (WritesAnswers (answer_kind_of manner.form) sink old new manner.rules lines)

-- a line of the text is refused
abbrev pub has_refusal : Rules → List ℕ → Bool
has_refusal rules text = nat_lt 0 (report_on rules (lines text)).refused

-- Texts were answered one after another in this manner, and it was noted whether a line of any of them is refused.
pub data AnswersTexts {W : Type 0} (sink : OfSink W) (manner : Manner) (start : W) : List (List ℕ) → W → Bool → Type 0 where
  none : AnswersTexts sink manner start [] start false
  one_more : (texts : List (List ℕ)) (text : List ℕ) (old new : W) (is_refused : Bool) → AnswersTexts sink manner start texts old is_refused → WritesInManner sink old new manner (lines text)
      → AnswersTexts sink manner start (texts ++ text ∷ []) new (is_refused || has_refusal manner.rules text)
