use Rattle.std.proofs.Common.{rules, ◌≡◌, ap, subst, sym, ◌∙◌, refl, ℕ, Option, List}
use Rattle.std.specs.Prelude.{Some, None}
use Rattle.std.proofs.Output.{has_written_of_eq}
use Rattle.desk_io.specs.Reached.{reached_text, shown_text}
use Rattle.desk_io.proofs.reached.ReachedDisplay.fmt.Goals as goal

pub returns-in-Some-clause-writes : goal.returns-in-Some-clause-writes
returns-in-Some-clause-writes g c = λ plain ok.
    let self = c.args.self.now in
    let rate = c.lines_a_second-rate.ensures in
    let share = c.share_done-share.ensures in
    let left = c.seconds_left.ensures in
    has_written_of_eq _ _ _ _ _ (search (rules, rate, share, left) ∙ ap (λ (w : Option ℕ). shown_text self.lines self.millis self.done w) (sym c.in-Some.is)) (c.write.ensures.writes plain ok)

pub returns-in-None-clause-writes : goal.returns-in-None-clause-writes
returns-in-None-clause-writes g c = λ plain ok.
    let self = c.args.self.now in
    let rate = c.lines_a_second-rate.ensures in
    has_written_of_eq _ _ _ _ _ (search (rules, rate) ∙ ap (λ (w : Option ℕ). shown_text self.lines self.millis self.done w) (sym c.in-None.is)) (c.write-in-None.ensures.writes plain ok)
