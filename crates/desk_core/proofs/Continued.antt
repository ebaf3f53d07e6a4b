-- Each event has a reply, and so each legal history goes on.
use Rattle.std.proofs.Common.{◌≡◌, ℕ, zero, suc, ◌+◌, ◌-◌, ◌<◌, ◌≤◌, ◌⊎◌, Bool, true, false, ltb, eqb, drop, List, [], ◌∷◌, ◌++◌, length, Some, inl, inr, ⊎_elim, refl, sym, ap, ◌∙◌, subst, not, arith, append_assoc, append-nil, add-one}
use Rattle.std.specs.Prelude.{slice_get, slice_set, ◌||◌, ◌≢◌}
use Rattle.std.specs.List.{zip, AllByRecursion}
use Rattle.std.proofs.lemmas.Bool.{cases_lt, cases_eq, lt-ltb, le-ltb, false≢true}
use Rattle.std.proofs.lemmas.List.{length-set, drop_all}
use Rattle.std.proofs.lemmas.List.Elements.{All-from_recursion}
use Rattle.std.proofs.lemmas.Option.{slice_get_cases}
use Rattle.riichi_hand.specs.contracts.job.JobPartialEq.TheImpl.{ghosts as job_eq}
use Rattle.riichi_hand.specs.declared.job.Job.{Job}
use Rattle.riichi_hand.specs.contracts.decided.JobDecided.TheImpl.Laws.{decides-law as job_decides}
use Rattle.desk_core.proofs.Facts.{IsSound, IsSound-IsLegal, IsLegalAfter-split}
use Rattle.desk_core.proofs.Steps.{IsOwnStep, IsStep_from_own, count, submit_after_close, submit_over_limit, submit_without_memory, submit_accepted, arrive_unknown, arrive_withdrawn, arrive_given, arrive_again, arrive_other_job, arrive_accepted, with_piece, close_step, take_waiting, take_open, take_finished, take_answer, withdraw_refused, withdraw_without_memory, withdraw_done, CanTakeBack-from_turns}
use Rattle.desk_core.proofs.Desks.{IsDeskRun-no_table, IsDeskRun-step, IsNewDesk-push, DeskStandsFor-new}
use Rattle.desk_core.proofs.Unique.{desk_reply_unique}
use Rattle.desk_core.specs.Value.{value_of}
use Rattle.desk_core.specs.Ticketed.{Ticketed}
use Rattle.desk_core.specs.LaneState.{LaneState, new_lane, with_job, is_among, PassesWithdrawn, CanTakeBack, IsNewDesk}
use Rattle.desk_core.specs.History.{Turn, table_of, turns_of, ReplyOf, DeskReplyOf, IsLegal, IsLegalAfter}
use Rattle.desk_core.specs.Step.{IsLeftBy}
use Rattle.desk_core.specs.Desk.{DeskStandsFor}
use Rattle.desk_core.specs.Continued.{CanGoOn}
use Rattle.desk_core.specs.declared.ticket.Ticket.{Ticket}
use Rattle.desk_core.specs.declared.event.Event.{Event}
use Rattle.desk_core.specs.declared.event.Event.TheVariants.{Submit, Arrive, Close, Take, Withdraw}
use Rattle.desk_core.specs.declared.reply.Reply.{Reply}
use Rattle.desk_core.specs.declared.reply.Reply.TheVariants as reply
use Rattle.desk_core.specs.declared.refusal.SubmitFault.TheVariants as fault
use Rattle.desk_core.specs.declared.arrived.Arrived.TheVariants as arrived
use Rattle.desk_core.specs.declared.taken.Taken.TheVariants as taken

abbrev want : Reply
want = reply.Refused fault.Memory

-- a reply of a lane that is no want of memory, and the lane after it
record LaneReply (lane : LaneState) (event : Event) : Type 0 where
  pub replied : Reply
  pub new : LaneState
  pub same_table : new.table ≡ lane.table
  pub step : IsOwnStep lane event replied new
  pub ample : replied ≢ want

-- an element, or past the end
found_or_past : {X : Type 0} (xs : List X) (i : ℕ) → ((x : X) × (slice_get xs i ≡ Some x)) ⊎ (length xs ≤ i)
found_or_past xs i = ⊎_elim (λ found. inl (found.0, found.2)) (λ past. inr past.0) (slice_get_cases xs i).1

submits : (lane : LaneState) (job : Job) → LaneReply lane (Submit lane.table job)
submits lane job = by_closed lane.closed refl
  where
    ticket : Ticket
    ticket = record { table = lane.table; seq = lane.next + length lane.window }

    by_full : lane.closed ≡ false → (lane.next + length lane.window ≡ 1000000) ⊎ (lane.next + length lane.window ≢ 1000000) → LaneReply lane (Submit lane.table job)
    by_full is_open (inl full) = record { replied = reply.Refused fault.Limit; new = lane; same_table = refl; step = submit_over_limit lane job is_open full; ample = λ e. cc }
    by_full is_open (inr room) = record { replied = reply.Ticket ticket; new = with_job lane job; same_table = refl; step = submit_accepted lane job is_open room; ample = λ e. cc }

    by_closed : (b : Bool) → lane.closed ≡ b → LaneReply lane (Submit lane.table job)
    by_closed true closed = record { replied = reply.Refused fault.Closed; new = lane; same_table = refl; step = submit_after_close lane job closed; ample = λ e. cc }
    by_closed false is_open = by_full is_open (cases_eq (lane.next + length lane.window) 1000000)

arrives : (lane : LaneState) (piece : Ticketed) → LaneReply lane (Arrive piece)
arrives lane piece = by_withdrawn (is_among lane.withdrawn piece.ticket.seq) refl
  where
    with_job_of : (k : ℕ) (job : Job) → is_among lane.withdrawn piece.ticket.seq ≡ false → lane.next + k ≡ piece.ticket.seq → slice_get lane.window k ≡ Some (job, false) → (b : Bool) → job_eq.eq job piece.job ≡ b → LaneReply lane (Arrive piece)
    with_job_of k job stays seq there true is =
        let same : job ≡ piece.job = (job_decides job piece.job).0 is in
        let there' : slice_get lane.window k ≡ Some (piece.job, false) = there ∙ ap (λ j. Some (j, false)) same in
        record { replied = reply.Arrived arrived.Accepted; new = with_piece lane k piece.job; same_table = refl; step = arrive_accepted lane piece k stays seq there'; ample = λ e. cc }
    with_job_of k job stays seq there false is =
        let other : job ≢ piece.job = λ same. false≢true (sym is ∙ (job_decides job piece.job).1 same) in
        record { replied = reply.Arrived arrived.Stranger; new = lane; same_table = refl; step = arrive_other_job lane piece k job stays seq there other; ample = λ e. cc }

    with_entry : (k : ℕ) (entry : Job × Bool) → is_among lane.withdrawn piece.ticket.seq ≡ false → lane.next + k ≡ piece.ticket.seq → slice_get lane.window k ≡ Some entry → LaneReply lane (Arrive piece)
    with_entry k (job, true) stays seq there = record { replied = reply.Arrived arrived.Doubled; new = lane; same_table = refl; step = arrive_again lane piece k job stays seq there; ample = λ e. cc }
    with_entry k (job, false) stays seq there = with_job_of k job stays seq there (job_eq.eq job piece.job) refl

    at_place : (k : ℕ) → is_among lane.withdrawn piece.ticket.seq ≡ false → lane.next + k ≡ piece.ticket.seq → ((entry : Job × Bool) × (slice_get lane.window k ≡ Some entry)) ⊎ (length lane.window ≤ k) → LaneReply lane (Arrive piece)
    at_place k stays seq (inl found) = with_entry k found.0 stays seq found.1
    at_place k stays seq (inr past) = record { replied = reply.Arrived arrived.Stranger; new = lane; same_table = refl; step = arrive_unknown lane piece (omega arith); ample = λ e. cc }

    by_number : is_among lane.withdrawn piece.ticket.seq ≡ false → (piece.ticket.seq < lane.next) ⊎ (lane.next ≤ piece.ticket.seq) → LaneReply lane (Arrive piece)
    by_number stays (inl before) = record { replied = reply.Arrived arrived.Doubled; new = lane; same_table = refl; step = arrive_given lane piece stays before; ample = λ e. cc }
    by_number stays (inr known) =
        let k : ℕ = piece.ticket.seq - lane.next in
        at_place k stays (omega arith) (found_or_past lane.window k)

    by_withdrawn : (b : Bool) → is_among lane.withdrawn piece.ticket.seq ≡ b → LaneReply lane (Arrive piece)
    by_withdrawn true gone = record { replied = reply.Arrived arrived.Withdrawn; new = lane; same_table = refl; step = arrive_withdrawn lane piece gone; ample = λ e. cc }
    by_withdrawn false stays = by_number stays (cases_lt piece.ticket.seq lane.next)

-- the lane without the withdrawn jobs at its front
record Passed (lane : LaneState) : Type 0 where
  pub new : LaneState
  pub same_table : new.table ≡ lane.table
  pub passes : PassesWithdrawn lane new

abbrev passed_by : LaneState → ℕ → LaneState
passed_by lane n = record lane { next = lane.next + n; window = drop n lane.window }

-- the first n are withdrawn ones
abbrev AreGone : LaneState → ℕ → Type 0
AreGone lane n = (i : ℕ) → i < n → is_among lane.withdrawn (lane.next + i) ≡ true

one_more_gone : (lane : LaneState) (n : ℕ) → AreGone lane n → is_among lane.withdrawn (lane.next + n) ≡ true → AreGone lane (suc n)
one_more_gone lane n each gone = λ i below.
    ⊎_elim (λ before. each i before) (λ last. let same : n ≡ i = omega arith in subst (λ m. is_among lane.withdrawn (lane.next + m) ≡ true) same gone) (cases_lt i n)

pass_one : (lane : LaneState) (n : ℕ) → n ≤ length lane.window → AreGone lane n → (AreGone lane (suc n) → Passed lane) → (b : Bool) → is_among lane.withdrawn (lane.next + n) ≡ b → Passed lane
pass_one lane n within each more true gone = more (one_more_gone lane n each gone)
pass_one lane n within each more false stays = record { new = passed_by lane n; same_table = refl; passes = record { count = n; within = within; each = each; ends = inr stays; new_is = refl } }

pass_from : (lane : LaneState) (more n : ℕ) → n + more ≡ length lane.window → AreGone lane n → Passed lane
pass_from lane zero n whole each =
    record { new = passed_by lane n; same_table = refl; passes = record { count = n; within = omega arith; each = each; ends = inl (drop_all n lane.window (omega arith)); new_is = refl } }
pass_from lane (suc more) n whole each =
    pass_one lane n (omega arith) each (λ gone. pass_from lane more (suc n) (omega arith) gone) (is_among lane.withdrawn (lane.next + n)) refl

passed : (lane : LaneState) → Passed lane
passed lane = pass_from lane (length lane.window) 0 (omega arith) (λ i below. absurd (omega arith))

closes : (lane : LaneState) → LaneReply lane (Close lane.table)
closes lane = record { replied = reply.Closed (not lane.closed); new = record lane { closed = true }; same_table = refl; step = close_step lane; ample = λ e. cc }

takes : (lane : LaneState) → LaneReply lane (Take lane.table)
takes lane = by_window lane.window refl
  where
    by_closed : lane.window ≡ [] → (b : Bool) → lane.closed ≡ b → LaneReply lane (Take lane.table)
    by_closed none true closed = record { replied = reply.Taken taken.Finished; new = lane; same_table = refl; step = take_finished lane none closed; ample = λ e. cc }
    by_closed none false is_open = record { replied = reply.Taken taken.Waiting; new = lane; same_table = refl; step = take_open lane none is_open; ample = λ e. cc }

    by_window : (window : List (Job × Bool)) → lane.window ≡ window → LaneReply lane (Take lane.table)
    by_window [] none = by_closed none lane.closed refl
    by_window ((job, true) ∷ rest) is =
        let on = passed (record lane { next = lane.next + 1; window = rest }) in
        record { replied = reply.Taken (taken.Answer lane.next (value_of job)); new = on.new; same_table = on.same_table; step = take_answer lane on.new job rest is on.passes; ample = λ e. cc }
    by_window ((job, false) ∷ rest) is = record { replied = reply.Taken taken.Waiting; new = lane; same_table = refl; step = take_waiting lane job rest is; ample = λ e. cc }

-- whether a ticket can be taken back
can_or_not : (lane : LaneState) (seq : ℕ) → CanTakeBack lane seq ⊎ (¬ CanTakeBack lane seq)
can_or_not lane seq = by_low (cases_lt seq lane.next)
  where
    by_withdrawn : lane.next ≤ seq → seq < lane.next + length lane.window → (b : Bool) → is_among lane.withdrawn seq ≡ b → CanTakeBack lane seq ⊎ (¬ CanTakeBack lane seq)
    by_withdrawn low high true gone = inr (λ can. false≢true (sym can.first_time ∙ gone))
    by_withdrawn low high false stays = inl (record { given_out = high; not_given = low; first_time = stays })

    by_high : lane.next ≤ seq → (seq < lane.next + length lane.window) ⊎ (lane.next + length lane.window ≤ seq) → CanTakeBack lane seq ⊎ (¬ CanTakeBack lane seq)
    by_high low (inl high) = by_withdrawn low high (is_among lane.withdrawn seq) refl
    by_high low (inr past) = inr (λ can. absurd (omega (arith, can.given_out)))

    by_low : (seq < lane.next) ⊎ (lane.next ≤ seq) → CanTakeBack lane seq ⊎ (¬ CanTakeBack lane seq)
    by_low (inl before) = inr (λ can. absurd (omega (arith, can.not_given)))
    by_low (inr low) = by_high low (cases_lt seq (lane.next + length lane.window))

either_way : (a b : Bool) → (a || b) ≡ (b || a)
either_way true true = refl
either_way false true = refl
either_way _ _ = refl

withdraws : (lane : LaneState) (seq : ℕ) → LaneReply lane (Withdraw (record { table = lane.table; seq = seq }))
withdraws lane seq = by_can (can_or_not lane seq)
  where
    by_can : CanTakeBack lane seq ⊎ (¬ CanTakeBack lane seq) → LaneReply lane (Withdraw (record { table = lane.table; seq = seq }))
    by_can (inl can) =
        let on = passed (record lane { withdrawn = seq ∷ lane.withdrawn }) in
        record { replied = reply.Withdrawn true; new = on.new; same_table = on.same_table; step = withdraw_done lane seq on.new can (record { numbers = seq ∷ lane.withdrawn; added = λ i. either_way (eqb i seq) (is_among lane.withdrawn i); passes = on.passes }); ample = λ e. cc }
    by_can (inr cannot) = record { replied = reply.Withdrawn false; new = lane; same_table = refl; step = withdraw_refused lane seq cannot; ample = λ e. cc }

lane_replies : (lane : LaneState) (event : Event) → table_of event ≡ lane.table → LaneReply lane event
lane_replies lane (Submit table job) about = subst (λ (t : ℕ). LaneReply lane (Submit t job)) (sym about) (submits lane job)
lane_replies lane (Arrive piece) about = arrives lane piece
lane_replies lane (Close table) about = subst (λ (t : ℕ). LaneReply lane (Close t)) (sym about) (closes lane)
lane_replies lane (Take table) about = subst (λ (t : ℕ). LaneReply lane (Take t)) (sym about) (takes lane)
lane_replies lane (Withdraw ticket) about = subst (λ (t : ℕ). LaneReply lane (Withdraw (record { table = t; seq = ticket.seq }))) (sym about) (withdraws lane ticket.seq)

-- a reply of a desk that is no want of memory, and its lanes after it
record DeskReply (lanes : List LaneState) (history : List Turn) (event : Event) : Type 0 where
  pub replied : Reply
  pub new : List LaneState
  pub count : length new ≡ length lanes
  pub stands : DeskStandsFor new (history ++ (event, replied) ∷ [])
  pub ample : replied ≢ want

desk_replies : (lanes : List LaneState) (history : List Turn) (event : Event) → DeskStandsFor lanes history → DeskReply lanes history event
desk_replies lanes history event stands = by_table (found_or_past lanes (table_of event))
  where
    by_table : ((lane : LaneState) × (slice_get lanes (table_of event) ≡ Some lane)) ⊎ (length lanes ≤ table_of event) → DeskReply lanes history event
    by_table (inr past) = record { replied = reply.NoTable; new = lanes; count = refl; stands = IsDeskRun-no_table lanes event past history stands; ample = λ e. cc }
    by_table (inl (lane, there)) =
        let own : lane.table ≡ table_of event = (stands.each (table_of event) lane there).0 in
        let answer = lane_replies lane event (sym own) in
        record {
          replied = answer.replied;
          new = slice_set lanes (table_of event) answer.new;
          count = length-set lanes (table_of event) answer.new;
          stands = IsDeskRun-step lanes (table_of event) lane answer.new event answer.replied there refl answer.same_table
              (λ about. IsStep_from_own lane answer.new event answer.replied about answer.same_table answer.step) history stands;
          ample = answer.ample;
        }

-- the replies to some events, by recursion
record RepliesTo (tables : ℕ) (history : List Turn) (events : List Event) : Type 0 where
  pub replies : List Reply
  pub count : length replies ≡ length events
  pub legal : IsLegal tables (history ++ zip events replies)
  pub ample : AllByRecursion (λ replied. replied ≢ want) replies

replies_to : (tables : ℕ) (lanes : List LaneState) (history : List Turn) (events : List Event) → length lanes ≡ tables → DeskStandsFor lanes history → RepliesTo tables history events
replies_to tables lanes history [] count stands = record {
  replies = [];
  count = refl;
  legal = rw (append-nil history) (subst (λ (n : ℕ). IsLegal n history) count stands.legal);
  ample = tt;
}
replies_to tables lanes history (event ∷ events) count stands =
    let first = desk_replies lanes history event stands in
    let others = replies_to tables first.new (history ++ (event, first.replied) ∷ []) events (first.count ∙ count) first.stands in
    record {
      replies = first.replied ∷ others.replies;
      count = ap suc others.count;
      legal = subst (IsLegal tables) (append_assoc history ((event, first.replied) ∷ []) (zip events others.replies)) others.legal;
      ample = (first.ample, others.ample);
    }

-- a desk in any state that stands for the history can go on
pub CanGoOn-stands : (lanes : List LaneState) (history : List Turn) → DeskStandsFor lanes history → CanGoOn (length lanes) history
CanGoOn-stands lanes history stands = λ events.
    let on = replies_to (length lanes) lanes history events refl stands in
    (on.replies, record { count = on.count; legal = on.legal; ample = All-from_recursion (λ replied. replied ≢ want) on.replies on.ample })

-- the lanes after a turn
record After (lanes : List LaneState) (history : List Turn) (turn : Turn) : Type 0 where
  pub new : List LaneState
  pub count : length new ≡ length lanes
  pub stands : DeskStandsFor new (history ++ turn ∷ [])

-- memory is wanted for a submission or a withdrawal alone
lane_wants : (lane : LaneState) (event : Event) (turns : List Turn) → table_of event ≡ lane.table → IsSound turns → IsLeftBy turns lane → ReplyOf turns event want → IsOwnStep lane event want lane
lane_wants lane (Submit table job) turns about sound left legal =
    let is_open : lane.closed ≡ false = left.closed ∙ legal.0 in
    let room : lane.next + length lane.window ≢ 1000000 = λ full. legal.1 (sym (count turns lane left) ∙ full) in
    subst (λ (t : ℕ). IsOwnStep lane (Submit t job) want lane) (sym about) (submit_without_memory lane job is_open room)
lane_wants lane (Arrive piece) turns about sound left legal = absurd legal
lane_wants lane (Close table) turns about sound left legal = cc
lane_wants lane (Take table) turns about sound left legal = absurd legal
lane_wants lane (Withdraw ticket) turns about sound left legal =
    subst (λ (t : ℕ). IsOwnStep lane (Withdraw (record { table = t; seq = ticket.seq })) want lane) (sym about) (withdraw_without_memory lane ticket.seq (CanTakeBack-from_turns lane turns ticket.seq left legal))

desk_wants : (lanes : List LaneState) (history : List Turn) (event : Event) → DeskStandsFor lanes history → DeskReplyOf (length lanes) history (event, want) → After lanes history (event, want)
desk_wants lanes history event stands legal = by_table (found_or_past lanes (table_of event))
  where
    by_table : ((lane : LaneState) × (slice_get lanes (table_of event) ≡ Some lane)) ⊎ (length lanes ≤ table_of event) → After lanes history (event, want)
    by_table (inr past) = let no_table : want ≡ reply.NoTable = rw (le-ltb (table_of event) (length lanes) past) at legal in cc
    by_table (inl (lane, there)) =
        let own = stands.each (table_of event) lane there in
        let in_range : ltb (table_of event) (length lanes) ≡ true = lt-ltb (table_of event) (length lanes) (omega (arith, own.0, own.1.in_range)) in
        let replied : ReplyOf (turns_of (table_of event) history) event want = rw in_range at legal in
        let sound = IsSound-IsLegal (length lanes) lane.table history own.1.in_range own.1.legal in
        let step = lane_wants lane event (turns_of lane.table history) (sym own.0) sound own.1.state (subst (λ (t : ℕ). ReplyOf (turns_of t history) event want) (sym own.0) replied) in
        record {
          new = slice_set lanes (table_of event) lane;
          count = length-set lanes (table_of event) lane;
          stands = IsDeskRun-step lanes (table_of event) lane lane event want there refl refl (λ about. IsStep_from_own lane lane event want about refl step) history stands;
        }

wants_or_not : (replied : Reply) → (replied ≡ want) ⊎ (replied ≢ want)
wants_or_not (reply.Refused fault.Memory) = inl refl
wants_or_not replied = inr (λ e. cc)

-- the lanes after a legal turn
desk_follows : (lanes : List LaneState) (history : List Turn) (event : Event) (replied : Reply) → DeskStandsFor lanes history → DeskReplyOf (length lanes) history (event, replied) → After lanes history (event, replied)
desk_follows lanes history event replied stands legal = by_reply (wants_or_not replied)
  where
    by_reply : (replied ≡ want) ⊎ (replied ≢ want) → After lanes history (event, replied)
    by_reply (inl is) =
        subst (λ (r : Reply). After lanes history (event, r)) (sym is)
        (desk_wants lanes history event stands (subst (λ (r : Reply). DeskReplyOf (length lanes) history (event, r)) is legal))
    by_reply (inr other) =
        let answer = desk_replies lanes history event stands in
        let all : IsLegal (length lanes) (history ++ (event, answer.replied) ∷ []) = subst (λ (n : ℕ). IsLegal n (history ++ (event, answer.replied) ∷ [])) answer.count answer.stands.legal in
        let own : DeskReplyOf (length lanes) history (event, answer.replied) = (IsLegalAfter-split (length lanes) [] history ((event, answer.replied) ∷ []) all).1.0 in
        let same : answer.replied ≡ replied = desk_reply_unique (length lanes) history event answer.replied replied own legal answer.ample other in
        record { new = answer.new; count = answer.count; stands = subst (λ (r : Reply). DeskStandsFor answer.new (history ++ (event, r) ∷ [])) same answer.stands }

-- the lanes after a history
record Left (tables : ℕ) (history : List Turn) : Type 0 where
  pub lanes : List LaneState
  pub count : length lanes ≡ tables
  pub stands : DeskStandsFor lanes history

new_desk : (tables : ℕ) → (lanes : List LaneState) × IsNewDesk tables lanes
new_desk zero = ([], record { count = refl; each = λ table lane there. cc })
new_desk (suc n) =
    let before = new_desk n in
    (before.0 ++ new_lane n ∷ [], subst (λ (m : ℕ). IsNewDesk m (before.0 ++ new_lane n ∷ [])) (add-one n) (IsNewDesk-push n before.0 before.1))

left_after : (tables : ℕ) (lanes : List LaneState) (history turns : List Turn) → length lanes ≡ tables → DeskStandsFor lanes history → IsLegalAfter tables history turns → Left tables (history ++ turns)
left_after tables lanes history [] count stands legal = record { lanes = lanes; count = count; stands = rw (append-nil history) stands }
left_after tables lanes history ((event, replied) ∷ turns) count stands legal =
    let after = desk_follows lanes history event replied stands (subst (λ (n : ℕ). DeskReplyOf n history (event, replied)) (sym count) legal.0) in
    subst (Left tables) (append_assoc history ((event, replied) ∷ []) turns)
    (left_after tables after.new (history ++ (event, replied) ∷ []) turns (after.count ∙ count) after.stands legal.1)

-- each legal history is that of some lanes, and so can go on
pub CanGoOn_legal : (tables : ℕ) (history : List Turn) → IsLegal tables history → CanGoOn tables history
CanGoOn_legal tables history legal =
    let new = new_desk tables in
    let left = left_after tables new.0 [] history new.1.count (DeskStandsFor-new tables new.0 new.1) legal in
    subst (λ (n : ℕ). CanGoOn n history) left.count (CanGoOn-stands left.lanes history left.stands)
