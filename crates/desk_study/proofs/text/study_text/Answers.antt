use Rattle.std.proofs.Common.{◌∙◌, ℕ, List, refl, subst, ap}
use Rattle.desk_lines.specs.Streams.{WritesAll}
use Rattle.desk_lines.specs.Telling.{text_of}
use Rattle.desk_study.specs.Answers.{question_answers}
use Rattle.desk_study.specs.declared.form.StudiesManner.{StudiesManner}
use Rattle.desk_study.proofs.QuestionLemmas.{asks_too}
use Rattle.desk_study.proofs.text.study_text.Goals as goal

pub returns-clause-no_memory : goal.returns-clause-no_memory
returns-clause-no_memory g c is_memory =
    let stopped = c.answer_lines.ensures.no_memory is_memory in
    let told = stopped.4 in
    let wanted = told.wanted refl in
    let answers = told.tells.answers_are ∙ ap (λ (m : StudiesManner). question_answers m 1 told.first) c.new-questions.ensures in
    let writes = subst (λ (ts : List (List ℕ)). WritesAll g.W.Sink c.args.writer.now c.answer_lines.new.writer (text_of ts)) answers told.stops in
    (stopped.0, stopped.1, told.first, told.others, stopped.2, stopped.3, told.parts, (wanted.1, wanted.2, wanted.3, asks_too wanted.0 wanted.1 wanted.4 wanted.5), writes)
