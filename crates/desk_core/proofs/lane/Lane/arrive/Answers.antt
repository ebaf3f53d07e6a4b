use Rattle.std.proofs.Common.{◌≡◌, ℕ, ◌+◌, ◌-◌, ◌<◌, ◌≤◌, List, map, length, Bool, Some, true, false, refl, sym, ap, ◌∙◌, arith}
use Rattle.std.proofs.lemmas.Option.{same_Some, slice_get_within, slice_get-map, slice_get_read}
use Rattle.riichi_hand.specs.declared.job.Job.{Job}
use Rattle.std.specs.Prelude.{slice_get, option_map}
use Rattle.std.proofs.lemmas.Bool.{false≢true}
use Rattle.std.proofs.lemmas.List.{length-map, map-set}
use Rattle.desk_core.specs.LaneState.{LaneState, is_among}
use Rattle.desk_core.specs.Entry.{job_with_arrival, TakesIn}
use Rattle.desk_core.specs.declared.arrived.Arrived.{Arrived}
use Rattle.desk_core.specs.declared.arrived.Arrived.TheVariants as arrived
use Rattle.desk_core.specs.declared.ticket.Ticket.{Ticket}
use Rattle.desk_core.specs.declared.entry.Entry.{Entry}
use Rattle.desk_core.proofs.Lists.{not_lt}
use Rattle.desk_core.specs.contracts.lane.Lane.{the_view}
use Rattle.desk_core.proofs.Steps.{IsStep_from_own, arrive_withdrawn, arrive_given, arrive_unknown, arrive_in_window}
use Rattle.desk_core.proofs.lane.Lane.arrive.Goals as goal
use Rattle.desk_core.proofs.lane.Lane.arrive.Goals.{in-None, in-Some}

pub returns-then-ticket-self-2-clause-step : goal.returns-then-ticket-self-2-clause-step
returns-then-ticket-self-2-clause-step c = λ own.
    let lane = the_view c.self.inside in
    let about : c.args.piece.ticket.table ≡ c.self.inside.table = own ∙ ap (λ l. l.table) (sym c.self.view_is) in
    let before : c.args.piece.ticket.seq < c.self.inside.next = rw (← c.ticket-ticket.ensures) c.if-ticket-self-2.true in
    let stays : is_among lane.withdrawn c.args.piece.ticket.seq ≡ false =
    ap (λ (l : LaneState). is_among l.withdrawn c.args.piece.ticket.seq) c.self.view_is
    ∙ ap (λ (t : Ticket). is_among c.args.self.now.withdrawn t.seq) (sym c.ticket-ticket.ensures)
    ∙ sym c.is_withdrawn.ensures ∙ c.if-is_withdrawn.false in
    rw (← c.self.view_is) (IsStep_from_own lane _ _ _ about refl (arrive_given lane c.args.piece stays before))

pub returns-then-is_withdrawn-clause-step : goal.returns-then-is_withdrawn-clause-step
returns-then-is_withdrawn-clause-step c = λ own.
    let lane = the_view c.self.inside in
    let about : c.args.piece.ticket.table ≡ c.self.inside.table = own ∙ ap (λ l. l.table) (sym c.self.view_is) in
    let gone : is_among lane.withdrawn c.args.piece.ticket.seq ≡ true =
    ap (λ (l : LaneState). is_among l.withdrawn c.args.piece.ticket.seq) c.self.view_is
    ∙ ap (λ (t : Ticket). is_among c.args.self.now.withdrawn t.seq) (sym c.ticket-ticket.ensures)
    ∙ sym c.is_withdrawn.ensures ∙ c.if-is_withdrawn.true in
    rw (← c.self.view_is) (IsStep_from_own lane _ _ _ about refl (arrive_withdrawn lane c.args.piece gone))

pub returns-clause-step : goal.returns-clause-step
returns-clause-step c = λ own.
    let lane = the_view c.self.inside in
    let items : List Entry = c.self.inside.window.items in
    let k : ℕ = c.ticket-ticket.result.seq - c.self.inside.next in
    let about : c.args.piece.ticket.table ≡ c.self.inside.table = own ∙ ap (λ l. l.table) (sym c.self.view_is) in
    let same_seq : c.ticket-ticket.result.seq ≡ c.args.piece.ticket.seq = ap (λ (t : Ticket). t.seq) c.ticket-ticket.ensures in
    let seq : c.self.inside.next + k ≡ c.args.piece.ticket.seq = omega (arith, c.if-ticket-self-2.false) in
    let stays : is_among lane.withdrawn c.args.piece.ticket.seq ≡ false =
    ap (λ (l : LaneState). is_among l.withdrawn c.args.piece.ticket.seq) c.self.view_is
    ∙ ap (λ (t : Ticket). is_among c.args.self.now.withdrawn t.seq) (sym c.ticket-ticket.ensures)
    ∙ sym c.is_withdrawn.ensures ∙ c.if-is_withdrawn.false in
    elim c.match-get_mut.branch [
      | in-None w ↦
          let past : length items ≤ k = not_lt k (length items) (λ more. false≢true (w.in-None.ensures.variant.1 (omega arith))) in
          let unknown : c.self.inside.next + length (map job_with_arrival items) ≤ c.args.piece.ticket.seq = omega (arith, past, length-map items job_with_arrival) in
          rw (w.self-inside-is, w.result-is, ← c.self.view_is) (IsStep_from_own lane _ _ _ about refl (arrive_unknown lane c.args.piece unknown))
      | in-Some w ↦
          let within : k < length items = omega (arith, w.in-Some.ensures.variant.0 refl) in
          let there : slice_get (map job_with_arrival items) k ≡ Some (job_with_arrival w.in-Some.entry.now) =
          slice_get-map job_with_arrival items k ∙ ap (option_map job_with_arrival) (slice_get_read items (length items) k w.in-Some.entry.now refl within w.in-Some.ensures.value) in
          let step = IsStep_from_own lane _ _ _ about refl (arrive_in_window lane c.args.piece k (job_with_arrival w.in-Some.entry.now) w.arrive.result (job_with_arrival w.arrive.new.self) stays seq there w.arrive.ensures.outcome) in
          rw (w.self-inside-is, w.result-is, ← c.self.view_is, map-set) step
    ]

pub returns-clause-accepted : goal.returns-clause-accepted
returns-clause-accepted c = λ accepted.
    let items : List Entry = c.self.inside.window.items in
    let k : ℕ = c.ticket-ticket.result.seq - c.self.inside.next in
    let same_seq : c.ticket-ticket.result.seq ≡ c.args.piece.ticket.seq = ap (λ (t : Ticket). t.seq) c.ticket-ticket.ensures in
    let seq : c.self.inside.next + k ≡ c.args.piece.ticket.seq = omega (arith, c.if-ticket-self-2.false) in
    elim c.match-get_mut.branch [
      | in-None w ↦ let other : Arrived = c.match-get_mut.result in cc
      | in-Some w ↦
          let within : k < length items = omega (arith, w.in-Some.ensures.variant.0 refl) in
          let result : w.arrive.result ≡ arrived.Accepted = sym w.result-is ∙ accepted in
          let outcome : TakesIn (job_with_arrival w.in-Some.entry.now) c.args.piece.job arrived.Accepted (job_with_arrival w.arrive.new.self) = rw result at w.arrive.ensures.outcome in
          let there : slice_get (map job_with_arrival items) k ≡ Some (c.args.piece.job, false) =
          slice_get-map job_with_arrival items k ∙ ap (option_map job_with_arrival) (slice_get_read items (length items) k w.in-Some.entry.now refl within w.in-Some.ensures.value) ∙ ap Some outcome.0 in
          rw (w.self-inside-is, ← c.self.view_is, map-set, outcome.1) (k, seq, there, refl)
    ]

accepts : (old : Job × Bool) (job : Job) (result : Arrived) (new : Job × Bool) → TakesIn old job result new → old ≡ (job, false) → result ≡ arrived.Accepted
accepts old job arrived.Doubled new taken same = absurd (false≢true (sym (ap (λ e. e.1) same) ∙ taken.0))
accepts old job arrived.Stranger new taken same = absurd (taken.1 (ap (λ e. e.0) same))
accepts old job arrived.Accepted new taken same = refl
accepts old job arrived.Withdrawn new taken same = absurd taken

pub returns-clause-awaited : goal.returns-clause-awaited
returns-clause-awaited c = λ awaited.
    let items : List Entry = c.self.inside.window.items in
    let k : ℕ = c.ticket-ticket.result.seq - c.self.inside.next in
    let same_seq : c.ticket-ticket.result.seq ≡ c.args.piece.ticket.seq = ap (λ (t : Ticket). t.seq) c.ticket-ticket.ensures in
    let seq : c.self.inside.next + awaited.2.0 ≡ c.args.piece.ticket.seq = ap (λ l. l.next + awaited.2.0) c.self.view_is ∙ awaited.2.1 in
    let same_place : awaited.2.0 ≡ k = omega (arith, c.if-ticket-self-2.false) in
    let waits : slice_get (map job_with_arrival items) k ≡ Some (c.args.piece.job, false) =
    ap (λ n. slice_get (map job_with_arrival items) n) (sym same_place) ∙ ap (λ l. slice_get l.window awaited.2.0) c.self.view_is ∙ awaited.2.2 in
    elim c.match-get_mut.branch [
      | in-None w ↦
          let past : length items ≤ k = not_lt k (length items) (λ more. false≢true (w.in-None.ensures.variant.1 (omega arith))) in
          let near : k < length (map job_with_arrival items) = slice_get_within (map job_with_arrival items) k _ waits in
          absurd (omega (arith, length-map items job_with_arrival))
      | in-Some w ↦
          let within : k < length items = omega (arith, w.in-Some.ensures.variant.0 refl) in
          let there : slice_get (map job_with_arrival items) k ≡ Some (job_with_arrival w.in-Some.entry.now) =
          slice_get-map job_with_arrival items k ∙ ap (option_map job_with_arrival) (slice_get_read items (length items) k w.in-Some.entry.now refl within w.in-Some.ensures.value) in
          w.result-is ∙ accepts (job_with_arrival w.in-Some.entry.now) c.args.piece.job w.arrive.result (job_with_arrival w.arrive.new.self) w.arrive.ensures.outcome
          (same_Some _ _ (sym there ∙ waits))
    ]
