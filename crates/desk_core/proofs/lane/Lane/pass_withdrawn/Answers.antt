use Rattle.std.proofs.Common.{◌≡◌, ◌<◌, List, length, true, false, refl, sym, ap, ◌∙◌, subst, ⊎_elim, arith, deque_len}
use Rattle.std.specs.Prelude.{◌==◌}
use Rattle.std.proofs.lemmas.Bool.{cases_eq, false≢true}
use Rattle.std.proofs.lemmas.List.{length-map, drop-map}
use Rattle.desk_core.specs.contracts.lane.Lane.{the_view}
use Rattle.desk_core.specs.Entry.{job_with_arrival}
use Rattle.desk_core.specs.LaneState.{LaneState, is_among}
use Rattle.desk_core.specs.declared.entry.Entry.{Entry}
use Rattle.desk_core.proofs.Passing.{HasPassed, HasPassed-one}
use Rattle.desk_core.proofs.lane.Lane.pass_withdrawn.Goals as goal

pub loop-self-preserved : goal.loop-self-preserved
loop-self-preserved c =
    let mid : LaneState = the_view c.self.inside in
    let items : List Entry = c.self.inside.window.items in
    let passed = subst (HasPassed _) (sym c.self.view_is) c.loop-self.invariant in
    let gone : is_among mid.withdrawn mid.next ≡ true =
    ap (λ (l : LaneState). is_among l.withdrawn c.self.inside.next) c.self.view_is ∙ sym c.is_withdrawn.ensures ∙ c.if-is_withdrawn.true in
    let some_left : (deque_len c.self.inside.window == 0) ≡ false = sym c.is_empty.ensures ∙ c.loop-self-test.true in
    let held : 0 < length items =
    ⊎_elim (λ none. let is_none : (deque_len c.self.inside.window == 0) ≡ true = rw none refl in absurd (false≢true (sym some_left ∙ is_none)))
    (λ some. omega (arith, some)) (cases_eq (deque_len c.self.inside.window) 0) in
    let more : 0 < length mid.window = omega (arith, held, length-map items job_with_arrival) in
    rw (c.pop_front-passed.ensures.rest, ← drop-map) (HasPassed-one _ mid passed more gone)
