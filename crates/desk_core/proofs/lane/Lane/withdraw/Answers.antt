use Rattle.std.proofs.Common.{◌≡◌, length, map, Bool, true, false, not, refl, sym, ap, ◌∙◌, arith}
use Rattle.std.proofs.lemmas.Bool.{false≢true}
use Rattle.std.proofs.lemmas.List.{length-map}
use Rattle.desk_core.specs.contracts.lane.Lane.{the_view}
use Rattle.desk_core.specs.Entry.{job_with_arrival}
use Rattle.desk_core.specs.LaneState.{LaneState, is_among, CanTakeBack, TakesBack}
use Rattle.desk_core.proofs.Passing.{among-added, not-among}
use Rattle.desk_core.proofs.Steps.{IsStep_from_own, withdraw_refused, withdraw_without_memory, withdraw_done}
use Rattle.desk_core.proofs.lane.Lane.withdraw.Goals as goal
use Rattle.desk_core.proofs.lane.Lane.withdraw.Goals.{then-seq-self-via-then-seq-self, then-seq-self-via-else-seq-self+then-submitted-seq}

pub returns-then-seq-self-clause-step : goal.returns-then-seq-self-clause-step
returns-then-seq-self-clause-step c =
    let lane = the_view c.self.inside in
    let held : c.len.result ≡ length (map job_with_arrival c.self.inside.window.items) = omega (arith, c.len.ensures, length-map c.self.inside.window.items job_with_arrival) in
    let cannot : ¬ CanTakeBack lane c.args.seq = elim c.then-seq-self.branch [
      | then-seq-self-via-then-seq-self w ↦ λ can. absurd (omega (arith, can.not_given, w.if-seq-self.true))
      | then-seq-self-via-else-seq-self+then-submitted-seq w ↦ λ can. absurd (omega (arith, can.given_out, w.if-submitted-seq.true, held))
    ] in
    rw (← c.self.view_is) (IsStep_from_own lane lane _ _ refl refl (withdraw_refused lane c.args.seq cannot))

taken_back : (c : goal.After-pass_withdrawn) → TakesBack (the_view c.self.inside) c.args.seq c.pass_withdrawn.new.self
taken_back c = record {
  numbers = c.insert.new.self.keys;
  added = among-added c.self.inside.withdrawn.keys c.insert.new.self.keys c.args.seq c.in-Ok-true.ensures.updates.0;
  passes = c.pass_withdrawn.ensures;
}

pub returns-in-Ok-true-clause-done : goal.returns-in-Ok-true-clause-done
returns-in-Ok-true-clause-done c = λ same. rw (← c.self.view_is) (taken_back c)

is_false : (b : Bool) → true ≡ not b → b ≡ false
is_false true same = cc
is_false false same = refl

is_true : (b : Bool) → false ≡ not b → b ≡ true
is_true true same = refl
is_true false same = cc

pub returns-in-Ok-true-clause-step : goal.returns-in-Ok-true-clause-step
returns-in-Ok-true-clause-step c =
    let lane = the_view c.self.inside in
    let takes : TakesBack lane c.args.seq c.pass_withdrawn.new.self = taken_back c in
    let held : c.len.result ≡ length (map job_with_arrival c.self.inside.window.items) = omega (arith, c.len.ensures, length-map c.self.inside.window.items job_with_arrival) in
    let can : CanTakeBack lane c.args.seq = record {
      given_out = omega (arith, c.if-submitted-seq.false, held);
      not_given = omega (arith, c.if-seq-self.false);
      first_time = not-among false c.self.inside.withdrawn.keys c.args.seq (is_false _ (sym c.in-Ok-true.field-0-test ∙ c.in-Ok-true.ensures.added));
    } in
    let same_table : c.pass_withdrawn.new.self.table ≡ lane.table = ap (λ (l : LaneState). l.table) takes.passes.new_is in
    rw (← c.self.view_is) (IsStep_from_own lane c.pass_withdrawn.new.self _ _ refl same_table (withdraw_done lane c.args.seq c.pass_withdrawn.new.self can takes))

pub returns-in-Ok-false-clause-step : goal.returns-in-Ok-false-clause-step
returns-in-Ok-false-clause-step c =
    let lane = the_view c.self.inside in
    let gone : is_among c.self.inside.withdrawn.keys c.args.seq ≡ true = not-among true c.self.inside.withdrawn.keys c.args.seq (is_true _ (sym c.in-Ok-false.field-0-test ∙ c.in-Ok-false.ensures.added)) in
    let cannot : ¬ CanTakeBack lane c.args.seq = λ can. false≢true (sym can.first_time ∙ gone) in
    let same : c.insert.new.self.keys ≡ c.self.inside.withdrawn.keys = rw c.in-Ok-false.field-0-test at c.in-Ok-false.ensures.unchanged in
    rw (same, ← c.self.view_is) (IsStep_from_own lane lane _ _ refl refl (withdraw_refused lane c.args.seq cannot))

pub returns-in-Err-clause-step : goal.returns-in-Err-clause-step
returns-in-Err-clause-step c =
    let lane = the_view c.self.inside in
    let held : c.len.result ≡ length (map job_with_arrival c.self.inside.window.items) = omega (arith, c.len.ensures, length-map c.self.inside.window.items job_with_arrival) in
    let can : CanTakeBack lane c.args.seq = record {
      given_out = omega (arith, c.if-submitted-seq.false, held);
      not_given = omega (arith, c.if-seq-self.false);
      first_time = not-among false c.self.inside.withdrawn.keys c.args.seq c.in-Err.ensures.absent;
    } in
    rw (c.in-Err.ensures.err, ← c.self.view_is) (IsStep_from_own lane lane _ _ refl refl (withdraw_without_memory lane c.args.seq can))
