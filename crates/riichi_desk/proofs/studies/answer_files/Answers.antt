use Rattle.std.proofs.Common.{◌≡◌, ◌∙◌, ◌+◌, ◌++◌, ◌∷◌, List, ℕ, Bool, ◌||◌, [], length, length-append, refl, ap}
use Rattle.desk_io.specs.declared.sink.Sink.{Ghosts as OfSink}
use Rattle.desk_study.specs.declared.form.StudiesManner.{StudiesManner}
use Rattle.riichi_desk.specs.Studies.{AnswersAllStudies, AnswersStudies, manner_of, none, one_more}
use Rattle.riichi_desk.proofs.studies.answer_files.Goals as goal

-- one more text is answered
next : {W : Type 0} (sink : OfSink W) (manner : StudiesManner) (start old new : W) (count : ℕ) (was is : Bool)
    → ((texts : List (List ℕ)) × (length texts ≡ count) × AnswersAllStudies sink manner start texts old was)
    → ((text : List ℕ) × AnswersStudies sink manner old new text is)
    → (texts : List (List ℕ)) × (length texts ≡ count + 1) × AnswersAllStudies sink manner start texts new (was || is)
next sink manner start old new count was is so_far answered = (
  so_far.0 ++ answered.0 ∷ [],
  length-append so_far.0 (answered.0 ∷ []) ∙ ap (λ n. n + 1) so_far.1,
  one_more so_far.0 answered.0 old new was is so_far.2 answered.1,
)

pub loop-file-init : goal.loop-file-init
loop-file-init g c = ([], refl, none)

pub loop-file-preserved : goal.loop-file-preserved
loop-file-preserved g c =
    let l = c.loop-file in
    next g.W.Sink (manner_of c.args.manner) c.args.writer.now l.writer c.answer_file.new.writer l.file-index l.is_refused c.in_ok-is_refused.field-0 l.invariant c.in_ok-is_refused.ensures
