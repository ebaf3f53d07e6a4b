-- What is written for texts of questions, and when a line of one is refused.
use Rattle.std.specs.Prelude.{◌≡◌, ◌||◌, ℕ, Bool, false, List, [], ◌∷◌, ◌++◌, length, nat_lt}
use Rattle.desk_io.specs.declared.sink.Sink.{Ghosts as OfSink}
use Rattle.desk_lines.specs.Lines.{lines}
use Rattle.desk_lines.specs.Streams.{WritesAll}
use Rattle.desk_lines.specs.Telling.{report_of, text_of}
use Rattle.desk_study.specs.Answers.{question_answers, question_kinds}
use Rattle.desk_study.specs.declared.form.StudiesForm.{StudiesForm}
use Rattle.desk_study.specs.declared.form.StudiesForm.TheVariants as studies
use Rattle.desk_study.specs.declared.form.StudiesManner.{StudiesManner}
use Rattle.desk_cli.specs.Requests.{texts}
use Rattle.desk_cli.specs.declared.request.Lines.{Lines}
use Rattle.desk_cli.specs.declared.request.Lines.TheVariants as sources
use Rattle.desk_cli.specs.declared.request.StudyForm.{StudyForm}
use Rattle.desk_cli.specs.declared.request.StudyForm.TheVariants as forms
use Rattle.desk_cli.specs.declared.request.StudyManner.{StudyManner}
use Rattle.riichi_desk.specs.Told.{each_line, one_line}

-- a line of a text of questions is refused
abbrev pub has_refused_question : List ℕ → Bool
has_refused_question text = nat_lt 0 (report_of (question_kinds 1 (lines text))).refused

-- The answers to the questions of a text were written, and it was noted whether a line is refused.
pub record AnswersStudies {W : Type 0} (sink : OfSink W) (manner : StudiesManner) (old new : W) (text : List ℕ) (is_refused : Bool) : Type 0 where
  pub written : WritesAll sink old new (text_of (question_answers manner 1 (lines text)))
  pub refused : is_refused ≡ has_refused_question text

-- Texts of questions were answered one after another, and it was noted whether a line of any of them is refused.
pub data AnswersAllStudies {W : Type 0} (sink : OfSink W) (manner : StudiesManner) (start : W) : List (List ℕ) → W → Bool → Type 0 where
  none : AnswersAllStudies sink manner start [] start false
  one_more : (texts : List (List ℕ)) (text : List ℕ) (old new : W) (was is : Bool) → AnswersAllStudies sink manner start texts old was → AnswersStudies sink manner old new text is
      → AnswersAllStudies sink manner start (texts ++ text ∷ []) new (was || is)

-- the form of answers that the command line asks for
abbrev pub study_form_of : StudyForm → StudiesForm
study_form_of forms.Answers = studies.Answers
study_form_of forms.Explained = studies.Explained
study_form_of forms.Objects = studies.Objects

-- how the command line asks for them
abbrev pub manner_of : StudyManner → StudiesManner
manner_of manner = record { form = study_form_of manner.form; is_numbered = manner.is_numbered }

-- The questions of these lines were answered: those of words, of as many texts as there are files, or of standard input.
abbrev pub AnswersQuestions : {W : Type 0} → OfSink W → StudiesManner → W → W → Lines → Bool → Type 0
AnswersQuestions sink manner old new (sources.Each words) is_refused = AnswersStudies sink manner old new (each_line (texts words.now)) is_refused
AnswersQuestions sink manner old new (sources.One words) is_refused = AnswersStudies sink manner old new (one_line (texts words.now)) is_refused
AnswersQuestions sink manner old new (sources.Files files) is_refused =
    (given : List (List ℕ)) × (length given ≡ length files.now) × AnswersAllStudies sink manner old given new is_refused
AnswersQuestions sink manner old new other is_refused = (text : List ℕ) × AnswersStudies sink manner old new text is_refused

-- Of questions that are words it is told whether one is refused; what standard input and files hold isn't known.
abbrev pub TellsStudied : Lines → Bool → Type 0
TellsStudied (sources.Each words) is_refused = is_refused ≡ has_refused_question (each_line (texts words.now))
TellsStudied (sources.One words) is_refused = is_refused ≡ has_refused_question (one_line (texts words.now))
TellsStudied other is_refused = Unit {0}
