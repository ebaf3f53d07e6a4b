use Rattle.std.proofs.Common.{◌≡◌, ◌-◌, ◌++◌, List, ℕ, length, take, inl, inr, refl, ap, ◌∙◌}
use Rattle.desk_lines.specs.Telling.{with_line_feed}
use Rattle.riichi_study.specs.Lines.{study_of}
use Rattle.desk_study.specs.Answers.{studied}
use Rattle.desk_study.specs.declared.form.StudiesForm.TheVariants.{Objects}
use Rattle.std.specs.Prelude.{None}
use Rattle.riichi_desk_c.proofs.StudyLemmas.{object_end}
use Rattle.riichi_desk_c.proofs.study.riichi_study.Goals as goal

pub returns-in-Ok : goal.returns-in-Ok
returns-in-Ok c =
    let answer = studied Objects None (study_of c.args.line.now) in
    let bytes = c.as_slice.ensures ∙ c.in-Ok.ensures.put ∙ ap (λ (front : List ℕ). front ++ with_line_feed answer) c.new-outbox.ensures in (
      c.without_end.result.now,
      inl (c.without_end.ensures ∙ object_end answer c.as_slice.result.now bytes),
      record { needed_is = c.place.ensures.needed; fits = c.place.ensures.fits; untouched = c.place.ensures.untouched },
    )

pub returns-in-Err : goal.returns-in-Err
returns-in-Err c = (
  _,
  inr (record { text_is = refl; many = c.in-Err.ensures.many.1 }),
  record { needed_is = c.place-in-Err.ensures.needed; fits = c.place-in-Err.ensures.fits; untouched = c.place-in-Err.ensures.untouched },
)
