use Rattle.std.proofs.Common.{◌≡◌, ◌+◌, List, [], ◌∷◌, drop, map, refl, ap, inl, inr, arith}
use Rattle.std.proofs.lemmas.Bool.{false≢true}
use Rattle.desk_core.specs.contracts.lane.Lane.{the_view}
use Rattle.desk_core.specs.Entry.{job_with_arrival}
use Rattle.desk_core.specs.LaneState.{LaneState, PassesWithdrawn}
use Rattle.desk_core.specs.declared.entry.Entry.{Entry}
use Rattle.desk_core.specs.declared.entry.Entry.TheVariants as entry
use Rattle.desk_core.proofs.Lists.{first_is, nil_is}
use Rattle.desk_core.proofs.Steps.{IsStep_from_own, take_answer, take_waiting, take_open, take_finished}
use Rattle.desk_core.proofs.lane.Lane.take.Goals as goal

pub returns-in-Some-Scored : goal.returns-in-Some-Scored
returns-in-Some-Scored c =
    let lane = the_view c.self.inside in
    let items : List Entry = c.self.inside.window.items in
    let piece = c.in-Some-Scored.piece in
    let front : items ≡ entry.Scored piece ∷ drop 1 items =
    first_is items (entry.Scored piece) (omega (arith, c.in-Some-Scored.ensures.variant.0 refl)) (rw c.in-Some-Scored.field-0-is at c.in-Some-Scored.ensures.lookup) in
    let new = c.pass_withdrawn.new.self in
    let passes : PassesWithdrawn (record lane { next = lane.next + 1; window = map job_with_arrival (drop 1 items) }) new = rw c.pop_front.ensures.rest at c.pass_withdrawn.ensures in
    let same_table : new.table ≡ lane.table = ap (λ (l : LaneState). l.table) passes.new_is in
    let step = IsStep_from_own lane new _ _ refl same_table (take_answer lane new piece.job (map job_with_arrival (drop 1 items)) (ap (map job_with_arrival) front) passes) in
    record {
      step = rw (← c.self.view_is, c.answer-answer.ensures) step;
      first = rw (← c.self.view_is, c.answer-answer.ensures) (piece.job, map job_with_arrival (drop 1 items), ap (map job_with_arrival) front, refl, refl, passes);
    }

pub returns-in-Some-Waiting : goal.returns-in-Some-Waiting
returns-in-Some-Waiting c =
    let lane = the_view c.self.inside in
    let items : List Entry = c.self.inside.window.items in
    let job = c.in-Some-Waiting.field-0-0 in
    let front : items ≡ entry.Waiting job ∷ drop 1 items =
    first_is items (entry.Waiting job) (omega (arith, c.in-Some-Waiting.ensures.variant.0 refl)) (rw c.in-Some-Waiting.field-0-is at c.in-Some-Waiting.ensures.lookup) in
    let step = IsStep_from_own lane _ _ _ refl refl (take_waiting lane job (map job_with_arrival (drop 1 items)) (ap (map job_with_arrival) front)) in
    record { step = rw (← c.self.view_is) step; first = rw (← c.self.view_is) (inl (job, map job_with_arrival (drop 1 items), ap (map job_with_arrival) front), refl) }

pub returns-in-None : goal.returns-in-None
returns-in-None c =
    let lane = the_view c.self.inside in
    let none : c.self.inside.window.items ≡ [] = nil_is _ (λ more. false≢true (c.in-None.ensures.variant.1 (omega arith))) in
    record { step = rw (← c.self.view_is) (IsStep_from_own lane _ _ _ refl refl (take_finished lane (ap (map job_with_arrival) none) c.if-self.true)); first = rw (← c.self.view_is) (ap (map job_with_arrival) none, c.if-self.true, refl) }

pub returns-in-None-2 : goal.returns-in-None-2
returns-in-None-2 c =
    let lane = the_view c.self.inside in
    let none : c.self.inside.window.items ≡ [] = nil_is _ (λ more. false≢true (c.in-None.ensures.variant.1 (omega arith))) in
    record { step = rw (← c.self.view_is) (IsStep_from_own lane _ _ _ refl refl (take_open lane (ap (map job_with_arrival) none) c.if-self.false)); first = rw (← c.self.view_is) (inr (ap (map job_with_arrival) none, c.if-self.false), refl) }
