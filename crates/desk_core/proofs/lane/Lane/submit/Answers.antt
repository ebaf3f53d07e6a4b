use Rattle.std.proofs.Common.{◌≡◌, ◌+◌, false, length, map, refl, sym, subst, arith, ◌∙◌}
use Rattle.desk_core.specs.LaneState.{LaneState, AcceptsJob}
use Rattle.std.specs.Prelude.{◌≢◌}
use Rattle.std.proofs.lemmas.Bool.{false≢true}
use Rattle.std.proofs.lemmas.List.{length-map, map-append}
use Rattle.desk_core.specs.contracts.lane.Lane.{the_view}
use Rattle.desk_core.specs.Entry.{job_with_arrival}
use Rattle.desk_core.proofs.Steps.{IsStep_from_own, submit_after_close, submit_over_limit, submit_without_memory, submit_accepted}
use Rattle.desk_core.proofs.lane.Lane.submit.Goals as goal
use Rattle.desk_core.proofs.lane.Lane.submit.Goals.{in-Ok, in-Err}

pub returns-then-self-clause-step : goal.returns-then-self-clause-step
returns-then-self-clause-step c =
    let lane = the_view c.self.inside in
    rw (← c.self.view_is) (IsStep_from_own lane _ _ _ refl refl (submit_after_close lane c.args.job c.if-self.true))

pub returns-then-full-clause-step : goal.returns-then-full-clause-step
returns-then-full-clause-step c =
    let lane = the_view c.self.inside in
    let full : lane.next + length lane.window ≡ 1000000 =
    subst (λ (l : LaneState). l.next + length l.window ≡ 1000000) (sym c.self.view_is) (c.full.ensures.value.0 c.if-full.true) in
    rw (← c.self.view_is) (IsStep_from_own lane _ _ _ refl refl (submit_over_limit lane c.args.job c.if-self.false full))

pub returns-clause-step : goal.returns-clause-step
returns-clause-step c =
    let lane = the_view c.self.inside in
    let room : lane.next + length lane.window ≢ 1000000 =
    subst (λ (l : LaneState). l.next + length l.window ≢ 1000000) (sym c.self.view_is) (λ full. false≢true (sym c.if-full.false ∙ c.full.ensures.value.1 full)) in
    elim c.match-push_back.branch [
      | in-Ok w ↦
          let count : c.len.result ≡ length (map job_with_arrival c.self.inside.window.items) = omega (arith, c.len.ensures, length-map c.self.inside.window.items job_with_arrival) in
          rw (← c.self.view_is, w.result-is, w.in-Ok.ensures.items, map-append, count, c.waiting.ensures)
          (IsStep_from_own lane _ _ _ refl refl (submit_accepted lane c.args.job c.if-self.false room))
      | in-Err w ↦
          rw (← c.self.view_is, w.result-is, w.in-Err.ensures.items)
          (IsStep_from_own lane _ _ _ refl refl (submit_without_memory lane c.args.job c.if-self.false room))
    ]

-- the table has not closed, and may submit more
accepts : (lane now : LaneState) → lane ≡ now → lane.closed ≡ false → now.next + length now.window ≢ 1000000 → AcceptsJob now
accepts lane now is not_closed room = (subst (λ (l : LaneState). l.closed ≡ false) is not_closed, room)

pub returns-clause-fault : goal.returns-clause-fault
returns-clause-fault c =
    let room : c.args.self.now.next + length c.args.self.now.window ≢ 1000000 = λ full. false≢true (sym c.if-full.false ∙ c.full.ensures.value.1 full) in
    let free = accepts (the_view c.self.inside) c.args.self.now c.self.view_is c.if-self.false room in
    elim c.match-push_back.branch [
      | in-Ok w ↦ rw w.result-is tt
      | in-Err w ↦ rw w.result-is free
    ]

pub returns-clause-accepts : goal.returns-clause-accepts
returns-clause-accepts c =
    let room : c.args.self.now.next + length c.args.self.now.window ≢ 1000000 = λ full. false≢true (sym c.if-full.false ∙ c.full.ensures.value.1 full) in
    let free = accepts (the_view c.self.inside) c.args.self.now c.self.view_is c.if-self.false room in
    elim c.match-push_back.branch [
      | in-Ok w ↦ rw w.result-is free
      | in-Err w ↦ rw w.result-is tt
    ]
