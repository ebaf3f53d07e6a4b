-- What each call of a lane leaves, after the turns of its table.
use Rattle.std.proofs.Common.{◌≡◌, ℕ, suc, ◌+◌, ◌-◌, ◌<◌, ◌≤◌, ◌⊎◌, Bool, true, false, ltb, eqb, List, [], ◌∷◌, ◌++◌, length, drop, map, Some, None, refl, sym, ap, ◌∙◌, subst, inl, inr, ⊎_elim, arith, not, length-append, length-drop, append-nil, add-one}
use Rattle.std.specs.Prelude.{slice_get, slice_set, option_map, ◌||◌, ◌≢◌, ◌↔◌}
use Rattle.std.proofs.lemmas.List.{map-append, length-map, drop-append-le, drop-drop, drop-map}
use Rattle.std.proofs.lemmas.Option.{same_Some, slice_get_within, slice_get-map}
use Rattle.std.proofs.lemmas.Bool.{cases_lt, cases_eq, eq-eqb, ne_eqb, lt-ltb, false≢true, or_right, or_from, or_parts}
use Rattle.std.proofs.Math.Bool.{or-false, or-true}
use Rattle.desk_core.proofs.Lists.{slice_get-append_left, slice_get-push, slice_get-drop, slice_get-set_same, slice_get-set_other, map-set_same, drop-suc, if-same, set-slice_get}
use Rattle.desk_core.proofs.Histories.{submitted-push, has_closed-push, HasArrived-push, HasArrived-push_cases, HasArrived-within, HasArrived-from_BringsIn, BringsIn, IsQuiet, is_given-same, is_withdrawn-same}
use Rattle.desk_core.proofs.Next.{IsNext, IsNext-next_ticket, IsNext-is}
use Rattle.desk_core.proofs.Facts.{IsSound, IsSound-IsLegal, next-within, next-same, not_given, arrived_before, next_stays, is_given-more, is_withdrawn-more, turns_of-push, IsLegal-push}
use Rattle.desk_core.specs.Value.{value_of}
use Rattle.desk_core.specs.Ticketed.{Ticketed}
use Rattle.desk_core.specs.LaneState.{LaneState, is_among, with_job, PassesWithdrawn, CanTakeBack, TakesBack}
use Rattle.desk_core.specs.History.{Turn, table_of, turns_of, is_close, has_closed, submitted, submitted_job, HasArrived, is_given, is_withdrawn, is_done, next_ticket, CanWithdraw, ReplyOf, DeskReplyOf}
use Rattle.desk_core.specs.Step.{IsLeftBy, IsStep}
use Rattle.desk_core.specs.Entry.{TakesIn}
use Rattle.desk_core.specs.declared.arrived.Arrived.{Arrived}
use Rattle.riichi_hand.specs.declared.job.Job.{Job}
use Rattle.desk_core.specs.declared.ticket.Ticket.{Ticket}
use Rattle.desk_core.specs.declared.event.Event.{Event}
use Rattle.desk_core.specs.declared.event.Event.TheVariants.{Submit, Arrive, Close, Take, Withdraw}
use Rattle.desk_core.specs.declared.reply.Reply.{Reply}
use Rattle.desk_core.specs.declared.reply.Reply.TheVariants as reply
use Rattle.desk_core.specs.declared.refusal.SubmitFault.TheVariants as fault
use Rattle.desk_core.specs.declared.arrived.Arrived.TheVariants as arrived
use Rattle.desk_core.specs.declared.taken.Taken.TheVariants as taken

-- the same step, seen by its table's turns alone
abbrev pub IsOwnStep : LaneState → Event → Reply → LaneState → Type 0
IsOwnStep old event replied new =
    (turns : List Turn) → IsSound turns → IsLeftBy turns old → ReplyOf turns event replied × IsLeftBy (turns ++ (event, replied) ∷ []) new

pub IsStep_from_own : (old new : LaneState) (event : Event) (replied : Reply) → table_of event ≡ old.table → new.table ≡ old.table → IsOwnStep old event replied new → IsStep old event replied new
IsStep_from_own old new event replied about same step = λ tables history stands.
    let turns = turns_of old.table history in
    let turn : Turn = (event, replied) in
    let sound : IsSound turns = IsSound-IsLegal tables old.table history stands.in_range stands.legal in
    let both : ReplyOf turns event replied × IsLeftBy (turns ++ turn ∷ []) new = step turns sound stands.state in
    let in_range : ltb (table_of event) tables ≡ true = lt-ltb (table_of event) tables (omega (arith, stands.in_range)) in
    let own : eqb (table_of event) old.table ≡ true = eq-eqb (table_of event) old.table about in
    let replied_own : ReplyOf (turns_of (table_of event) history) event replied = rw about both.0 in
    let legal : DeskReplyOf tables history turn = rw in_range replied_own in
    let more : turns_of new.table (history ++ turn ∷ []) ≡ turns ++ turn ∷ [] =
    ap (λ t. turns_of t (history ++ turn ∷ [])) same ∙ (turns_of-push old.table history turn ∙ (rw own refl)) in
    record {
      in_range = omega (arith, stands.in_range);
      legal = IsLegal-push tables history turn stands.legal legal;
      state = rw more both.1;
    }

pub count : (turns : List Turn) (lane : LaneState) → IsLeftBy turns lane → lane.next + length lane.window ≡ length (submitted turns)
count turns lane left =
    let whole : length lane.window ≡ length (drop lane.next (submitted turns)) = sym (length-map lane.window (λ (e : Job × Bool). e.0)) ∙ ap length left.jobs in
    omega (arith, length-drop lane.next (submitted turns), next-within turns, left.next)

pub job_at : (turns : List Turn) (lane : LaneState) (k : ℕ) (job : Job) (flag : Bool) → IsLeftBy turns lane → slice_get lane.window k ≡ Some (job, flag) → slice_get (submitted turns) (lane.next + k) ≡ Some job
job_at turns lane k job flag left there =
    sym (slice_get-drop lane.next (submitted turns) k)
    ∙ ap (λ xs. slice_get xs k) (sym left.jobs)
    ∙ slice_get-map (λ (e : Job × Bool). e.0) lane.window k
    ∙ ap (option_map (λ (e : Job × Bool). e.0)) there

-- it brings in no piece of a ticket that was not withdrawn, but one that has arrived
abbrev BringsNothing : List Turn → Turn → Type 0
BringsNothing turns turn = (i : ℕ) → is_withdrawn turns i ≡ false → BringsIn turns turn i → HasArrived turns i

-- what is known of an entry stays known where its ticket was not withdrawn
arrived_on : (turns : List Turn) (turn : Turn) (lane : LaneState) (k : ℕ) (job : Job) (flag : Bool) → IsLeftBy turns lane → is_withdrawn turns (lane.next + k) ≡ false → BringsNothing turns turn → slice_get lane.window k ≡ Some (job, flag) → (flag ≡ true) ↔ HasArrived (turns ++ turn ∷ []) (lane.next + k)
arrived_on turns turn lane k job flag left stays old there =
    let was = left.arrived k job flag there stays in (
      λ holds. HasArrived-push turns turn (lane.next + k) (was.0 holds),
      λ now. was.1 (⊎_elim (λ before. before) (λ brought. old (lane.next + k) stays brought) (HasArrived-push_cases turns turn (lane.next + k) now)),
    )

entry_stays : (turns : List Turn) (turn : Turn) (lane : LaneState) (k : ℕ) (job : Job) (flag : Bool) → IsLeftBy turns lane → IsQuiet turn → BringsNothing turns turn → slice_get lane.window k ≡ Some (job, flag) → is_withdrawn (turns ++ turn ∷ []) (lane.next + k) ≡ false → (flag ≡ true) ↔ HasArrived (turns ++ turn ∷ []) (lane.next + k)
entry_stays turns turn lane k job flag left quiet old there stays =
    arrived_on turns turn lane k job flag left (sym (is_withdrawn-same turns turn (lane.next + k) quiet.1) ∙ stays) old there

-- a turn that gives and withdraws nothing, and brings in nothing new
pub IsLeftBy-kept : (turns : List Turn) (turn : Turn) (lane : LaneState) (closed : Bool) → IsSound turns → IsLeftBy turns lane → IsQuiet turn → submitted (turns ++ turn ∷ []) ≡ submitted turns → BringsNothing turns turn → closed ≡ has_closed (turns ++ turn ∷ []) → IsLeftBy (turns ++ turn ∷ []) (record lane { closed = closed })
IsLeftBy-kept turns turn lane closed sound left quiet jobs old close =
    record {
      next = left.next ∙ sym (next-same turns turn sound quiet);
      jobs = left.jobs ∙ ap (drop lane.next) (sym jobs);
      arrived = λ k job flag there stays. entry_stays turns turn lane k job flag left quiet old there stays;
      withdrawn = λ i. left.withdrawn i ∙ sym (is_withdrawn-same turns turn i quiet.1);
      closed = close;
    }

pub submits_nothing : (turns : List Turn) (turn : Turn) → submitted_job turn.0 turn.1 ≡ None → submitted (turns ++ turn ∷ []) ≡ submitted turns
submits_nothing turns turn none = submitted-push turns turn ∙ (rw (none, if-same) (append-nil (submitted turns)))

still_closed : (turns : List Turn) (turn : Turn) (lane : LaneState) → IsLeftBy turns lane → is_close turn.0 ≡ false → lane.closed ≡ has_closed (turns ++ turn ∷ [])
still_closed turns turn lane left not_close =
    left.closed ∙ sym (has_closed-push turns turn ∙ (rw not_close (or-false (has_closed turns))))

abbrev is_arrival : Event → Bool
is_arrival (Arrive piece) = true
is_arrival event = false

brings_nothing : (turns : List Turn) (turn : Turn) → is_arrival turn.0 ≡ false → BringsNothing turns turn
brings_nothing turns turn other i stays brought = absurd (false≢true (sym other ∙ ap (λ (t : Turn). is_arrival t.0) brought.turn_is))

-- a turn that gives, withdraws, submits, closes and brings in nothing leaves the lane as it is
abbrev IsIdle : Turn → Type 0
IsIdle turn = IsQuiet turn × (submitted_job turn.0 turn.1 ≡ None) × (is_close turn.0 ≡ false) × (is_arrival turn.0 ≡ false)

idle_kept : (lane : LaneState) (turn : Turn) (turns : List Turn) → IsSound turns → IsLeftBy turns lane → IsIdle turn → IsLeftBy (turns ++ turn ∷ []) lane
idle_kept lane turn turns sound left idle =
    IsLeftBy-kept turns turn lane lane.closed sound left idle.0 (submits_nothing turns turn idle.1) (brings_nothing turns turn idle.3) (still_closed turns turn lane left idle.2)

-- submissions

pub submit_after_close : (lane : LaneState) (job : Job) → lane.closed ≡ true → IsOwnStep lane (Submit lane.table job) (reply.Refused fault.Closed) lane
submit_after_close lane job closed = λ turns sound left.
    let turn : Turn = (Submit lane.table job, reply.Refused fault.Closed) in
    let was : has_closed turns ≡ true = sym left.closed ∙ closed in
    let jobs : submitted (turns ++ turn ∷ []) ≡ submitted turns = submitted-push turns turn ∙ (rw was (append-nil (submitted turns))) in
    (was, IsLeftBy-kept turns turn lane lane.closed sound left (refl, refl) jobs (brings_nothing turns turn refl) (still_closed turns turn lane left refl))

pub submit_over_limit : (lane : LaneState) (job : Job) → lane.closed ≡ false → lane.next + length lane.window ≡ 1000000 → IsOwnStep lane (Submit lane.table job) (reply.Refused fault.Limit) lane
submit_over_limit lane job is_open full = λ turns sound left.
    ((sym left.closed ∙ is_open, omega (arith, count turns lane left)), idle_kept lane (Submit lane.table job, reply.Refused fault.Limit) turns sound left ((refl, refl), refl, refl, refl))

pub submit_without_memory : (lane : LaneState) (job : Job) → lane.closed ≡ false → lane.next + length lane.window ≢ 1000000 → IsOwnStep lane (Submit lane.table job) (reply.Refused fault.Memory) lane
submit_without_memory lane job is_open room = λ turns sound left.
    let below : length (submitted turns) ≢ 1000000 = λ e. room (count turns lane left ∙ e) in
    ((sym left.closed ∙ is_open, below), idle_kept lane (Submit lane.table job, reply.Refused fault.Memory) turns sound left ((refl, refl), refl, refl, refl))

submitted_arrived : (lane : LaneState) (job : Job) (turns : List Turn) (turn : Turn) → IsLeftBy turns lane → lane.next + length lane.window ≡ length (submitted turns) → IsQuiet turn → BringsNothing turns turn → (k : ℕ) (other : Job) (flag : Bool) → slice_get (lane.window ++ (job, false) ∷ []) k ≡ Some (other, flag) → is_withdrawn (turns ++ turn ∷ []) (lane.next + k) ≡ false → (flag ≡ true) ↔ HasArrived (turns ++ turn ∷ []) (lane.next + k)
submitted_arrived lane job turns turn left total quiet old k other flag there stays =
    let inside : k < length (lane.window ++ (job, false) ∷ []) = slice_get_within _ k _ there in
    ⊎_elim (λ here.
    entry_stays turns turn lane k other flag left quiet old (sym (slice_get-append_left lane.window ((job, false) ∷ []) k here) ∙ there) stays)
    (λ past.
    let last : k ≡ length lane.window = omega (arith, length-append lane.window ((job, false) ∷ [])) in
    let there' : slice_get (lane.window ++ (job, false) ∷ []) (length lane.window) ≡ Some (other, flag) = rw last at there in
    let pair : (job, false) ≡ (other, flag) = same_Some _ _ (sym (slice_get-push lane.window (job, false)) ∙ there') in
    let is_false : false ≡ flag = ap (λ (e : Job × Bool). e.1) pair in
    let stayed : is_withdrawn turns (lane.next + k) ≡ false = sym (is_withdrawn-same turns turn (lane.next + k) quiet.1) ∙ stays in (
      λ holds. absurd (false≢true (is_false ∙ holds)),
      λ now.
          let before : HasArrived turns (lane.next + k) = ⊎_elim (λ b. b) (λ brought. old (lane.next + k) stayed brought) (HasArrived-push_cases turns turn (lane.next + k) now) in
          absurd (omega (arith, HasArrived-within turns (lane.next + k) before)),
    ))
    (cases_lt k (length lane.window))

pub submit_accepted : (lane : LaneState) (job : Job) → lane.closed ≡ false → lane.next + length lane.window ≢ 1000000 → IsOwnStep lane (Submit lane.table job) (reply.Ticket (record { table = lane.table; seq = lane.next + length lane.window })) (with_job lane job)
submit_accepted lane job is_open room = λ turns sound left.
    let ticket : Ticket = record { table = lane.table; seq = lane.next + length lane.window } in
    let turn : Turn = (Submit lane.table job, reply.Ticket ticket) in
    let total : lane.next + length lane.window ≡ length (submitted turns) = count turns lane left in
    let below : length (submitted turns) ≢ 1000000 = λ e. room (total ∙ e) in
    let was : has_closed turns ≡ false = sym left.closed ∙ is_open in
    let jobs : submitted (turns ++ turn ∷ []) ≡ submitted turns ++ job ∷ [] = submitted-push turns turn ∙ (rw was refl) in
    let inside : lane.next ≤ length (submitted turns) = omega arith in
    let numbered : ℕ → Ticket = λ n. record { table = lane.table; seq = n } in
    let seq : ticket ≡ numbered (length (submitted turns)) = ap numbered total in (
      (was, below, seq),
      record {
        next = left.next ∙ sym (next-same turns turn sound (refl, refl));
        jobs =
            map-append (λ (e : Job × Bool). e.0) lane.window ((job, false) ∷ [])
            ∙ ap (λ xs. xs ++ job ∷ []) left.jobs
            ∙ sym (drop-append-le lane.next (submitted turns) (job ∷ []) inside)
            ∙ ap (drop lane.next) (sym jobs);
        arrived = submitted_arrived lane job turns turn left total (refl, refl) (brings_nothing turns turn refl);
        withdrawn = λ i. left.withdrawn i ∙ sym (is_withdrawn-same turns turn i refl);
        closed = still_closed turns turn lane left refl;
      },
    )

-- arrivals

-- what a turn that is the arrival of a piece brings in
brought_is : (turns : List Turn) (piece : Ticketed) (replied : Reply) (i : ℕ) → BringsIn turns (Arrive piece, replied) i → (piece.ticket.seq ≡ i) × (slice_get (submitted turns) i ≡ Some piece.job)
brought_is turns piece replied i brought =
    let event : Arrive piece ≡ Arrive brought.piece = ap (λ (t : Turn). t.0) brought.turn_is in
    let same : piece ≡ brought.piece = cc in
    rw same (brought.seq, brought.job)

-- an arrival that brings in nothing new leaves the lane as it is
arrive_kept : (lane : LaneState) (piece : Ticketed) (what : Arrived) (turns : List Turn) → IsSound turns → IsLeftBy turns lane → (is_withdrawn turns piece.ticket.seq ≡ false → slice_get (submitted turns) piece.ticket.seq ≡ Some piece.job → HasArrived turns piece.ticket.seq) → IsLeftBy (turns ++ (Arrive piece, reply.Arrived what) ∷ []) lane
arrive_kept lane piece what turns sound left old =
    let turn : Turn = (Arrive piece, reply.Arrived what) in
    IsLeftBy-kept turns turn lane lane.closed sound left (refl, refl) (submits_nothing turns turn refl)
    (λ i stays brought.
    let is = brought_is turns piece (reply.Arrived what) i brought in
    let there : slice_get (submitted turns) piece.ticket.seq ≡ Some piece.job = rw is.0 is.1 in
    let stayed : is_withdrawn turns piece.ticket.seq ≡ false = rw is.0 stays in
    subst (HasArrived turns) is.0 (old stayed there))
    (still_closed turns turn lane left refl)

pub arrive_unknown : (lane : LaneState) (piece : Ticketed) → lane.next + length lane.window ≤ piece.ticket.seq → IsOwnStep lane (Arrive piece) (reply.Arrived arrived.Stranger) lane
arrive_unknown lane piece past = λ turns sound left.
    let unknown : length (submitted turns) ≤ piece.ticket.seq = omega (arith, count turns lane left) in (
      inl unknown,
      arrive_kept lane piece arrived.Stranger turns sound left
          (λ stays there. absurd (omega (arith, slice_get_within (submitted turns) piece.ticket.seq _ there))),
    )

-- whether a ticket was withdrawn, by the lane and by the turns
pub not_withdrawn : (turns : List Turn) (lane : LaneState) (i : ℕ) → IsLeftBy turns lane → is_among lane.withdrawn i ≡ false → is_withdrawn turns i ≡ false
not_withdrawn turns lane i left stays = sym (left.withdrawn i) ∙ stays

pub arrive_withdrawn : (lane : LaneState) (piece : Ticketed) → is_among lane.withdrawn piece.ticket.seq ≡ true → IsOwnStep lane (Arrive piece) (reply.Arrived arrived.Withdrawn) lane
arrive_withdrawn lane piece gone = λ turns sound left.
    let was : is_withdrawn turns piece.ticket.seq ≡ true = sym (left.withdrawn piece.ticket.seq) ∙ gone in (
      (sound.known piece.ticket.seq was, was),
      arrive_kept lane piece arrived.Withdrawn turns sound left (λ stays there. absurd (false≢true (sym stays ∙ was))),
    )

pub arrive_given : (lane : LaneState) (piece : Ticketed) → is_among lane.withdrawn piece.ticket.seq ≡ false → piece.ticket.seq < lane.next → IsOwnStep lane (Arrive piece) (reply.Arrived arrived.Doubled) lane
arrive_given lane piece stays before = λ turns sound left.
    let stayed : is_withdrawn turns piece.ticket.seq ≡ false = not_withdrawn turns lane piece.ticket.seq left stays in
    let old : HasArrived turns piece.ticket.seq = arrived_before turns piece.ticket.seq sound (omega (arith, left.next)) stayed in
    ((stayed, old), arrive_kept lane piece arrived.Doubled turns sound left (λ same there. old))

pub arrive_again : (lane : LaneState) (piece : Ticketed) (k : ℕ) (job : Job) → is_among lane.withdrawn piece.ticket.seq ≡ false → lane.next + k ≡ piece.ticket.seq → slice_get lane.window k ≡ Some (job, true) → IsOwnStep lane (Arrive piece) (reply.Arrived arrived.Doubled) lane
arrive_again lane piece k job stays seq there = λ turns sound left.
    let stayed : is_withdrawn turns piece.ticket.seq ≡ false = not_withdrawn turns lane piece.ticket.seq left stays in
    let old : HasArrived turns piece.ticket.seq = rw (← seq) ((left.arrived k job true there (rw seq stayed)).0 refl) in
    ((stayed, old), arrive_kept lane piece arrived.Doubled turns sound left (λ same at. old))

not_arrived : (lane : LaneState) (turns : List Turn) (k seq : ℕ) (job : Job) → IsLeftBy turns lane → lane.next + k ≡ seq → is_withdrawn turns seq ≡ false → slice_get lane.window k ≡ Some (job, false) → ¬ HasArrived turns seq
not_arrived lane turns k seq job left at stays there = λ old.
    false≢true ((left.arrived k job false there (rw at stays)).1 (rw at old))

pub arrive_other_job : (lane : LaneState) (piece : Ticketed) (k : ℕ) (job : Job) → is_among lane.withdrawn piece.ticket.seq ≡ false → lane.next + k ≡ piece.ticket.seq → slice_get lane.window k ≡ Some (job, false) → job ≢ piece.job → IsOwnStep lane (Arrive piece) (reply.Arrived arrived.Stranger) lane
arrive_other_job lane piece k job stays seq there other = λ turns sound left.
    let stayed : is_withdrawn turns piece.ticket.seq ≡ false = not_withdrawn turns lane piece.ticket.seq left stays in
    let wanted : slice_get (submitted turns) piece.ticket.seq ≡ Some job = rw (← seq) (job_at turns lane k job false left there) in
    let differ : slice_get (submitted turns) piece.ticket.seq ≢ Some piece.job = λ e. other (same_Some _ _ (sym wanted ∙ e)) in (
      inr (stayed, not_arrived lane turns k piece.ticket.seq job left seq stayed there, differ),
      arrive_kept lane piece arrived.Stranger turns sound left (λ same at. absurd (differ at)),
    )

-- the lane with the piece of place k
abbrev pub with_piece : LaneState → ℕ → Job → LaneState
with_piece lane k job = record lane { window = slice_set lane.window k (job, true) }

accepted_arrived : (lane : LaneState) (piece : Ticketed) (k : ℕ) (turns : List Turn) → IsLeftBy turns lane → lane.next + k ≡ piece.ticket.seq → slice_get lane.window k ≡ Some (piece.job, false) → slice_get (submitted turns) piece.ticket.seq ≡ Some piece.job → (j : ℕ) (job : Job) (flag : Bool) → slice_get (slice_set lane.window k (piece.job, true)) j ≡ Some (job, flag) → is_withdrawn (turns ++ (Arrive piece, reply.Arrived arrived.Accepted) ∷ []) (lane.next + j) ≡ false → (flag ≡ true) ↔ HasArrived (turns ++ (Arrive piece, reply.Arrived arrived.Accepted) ∷ []) (lane.next + j)
accepted_arrived lane piece k turns left seq there wanted j job flag now stays =
    let turn : Turn = (Arrive piece, reply.Arrived arrived.Accepted) in
    let inside : k < length lane.window = slice_get_within lane.window k _ there in
    ⊎_elim (λ here.
    let at : slice_get (slice_set lane.window k (piece.job, true)) k ≡ Some (job, flag) = rw here at now in
    let pair : (piece.job, true) ≡ (job, flag) = same_Some _ _ (sym (slice_get-set_same lane.window k (piece.job, true) inside) ∙ at) in
    let is_true : flag ≡ true = sym (ap (λ (e : Job × Bool). e.1) pair) in
    let number : piece.ticket.seq ≡ lane.next + j = omega arith in
    let brought : BringsIn turns turn (lane.next + j) = record {
      piece = piece;
      reply = reply.Arrived arrived.Accepted;
      turn_is = refl;
      seq = number;
      job = rw (← number) wanted;
    } in
    (λ holds. HasArrived-from_BringsIn turns turn (lane.next + j) brought, λ has. is_true))
    (λ other.
    let stayed : is_withdrawn turns (lane.next + j) ≡ false = sym (is_withdrawn-same turns turn (lane.next + j) refl) ∙ stays in
    let was = left.arrived j job flag (sym (slice_get-set_other lane.window k j (piece.job, true) (λ e. other (sym e))) ∙ now) stayed in (
      λ holds. HasArrived-push turns turn (lane.next + j) (was.0 holds),
      λ has. was.1 (⊎_elim (λ before. before)
          (λ brought.
          let number : piece.ticket.seq ≡ lane.next + j = (brought_is turns piece _ (lane.next + j) brought).0 in
          let same : j ≡ k = omega arith in
          absurd (other same))
          (HasArrived-push_cases turns turn (lane.next + j) has)),
    ))
    (cases_eq j k)

pub arrive_accepted : (lane : LaneState) (piece : Ticketed) (k : ℕ) → is_among lane.withdrawn piece.ticket.seq ≡ false → lane.next + k ≡ piece.ticket.seq → slice_get lane.window k ≡ Some (piece.job, false) → IsOwnStep lane (Arrive piece) (reply.Arrived arrived.Accepted) (with_piece lane k piece.job)
arrive_accepted lane piece k stays seq there = λ turns sound left.
    let turn : Turn = (Arrive piece, reply.Arrived arrived.Accepted) in
    let stayed : is_withdrawn turns piece.ticket.seq ≡ false = not_withdrawn turns lane piece.ticket.seq left stays in
    let wanted : slice_get (submitted turns) piece.ticket.seq ≡ Some piece.job = rw (← seq) (job_at turns lane k piece.job false left there) in (
      (stayed, not_arrived lane turns k piece.ticket.seq piece.job left seq stayed there, wanted),
      record {
        next = left.next ∙ sym (next-same turns turn sound (refl, refl));
        jobs =
            map-set_same (λ (e : Job × Bool). e.0) lane.window k (piece.job, true) (piece.job, false) there refl
            ∙ left.jobs
            ∙ ap (drop lane.next) (sym (submits_nothing turns turn refl));
        arrived = accepted_arrived lane piece k turns left seq there wanted;
        withdrawn = λ i. left.withdrawn i ∙ sym (is_withdrawn-same turns turn i refl);
        closed = still_closed turns turn lane left refl;
      },
    )

-- closing

pub close_step : (lane : LaneState) → IsOwnStep lane (Close lane.table) (reply.Closed (not lane.closed)) (record lane { closed = true })
close_step lane = λ turns sound left.
    let turn : Turn = (Close lane.table, reply.Closed (not lane.closed)) in (
      ap (λ b. reply.Closed (not b)) left.closed,
      IsLeftBy-kept turns turn lane true sound left (refl, refl) (submits_nothing turns turn refl) (brings_nothing turns turn refl)
          (sym (has_closed-push turns turn ∙ or-true (has_closed turns))),
    )

-- takings

-- the first job of a window was not withdrawn
front_stays : (lane : LaneState) (turns : List Turn) → IsLeftBy turns lane → 0 < length lane.window → is_withdrawn turns lane.next ≡ false
front_stays lane turns left more =
    subst (λ n. is_withdrawn turns n ≡ false) (sym left.next) (next_stays turns (omega (arith, count turns lane left, left.next, more)))

pub take_waiting : (lane : LaneState) (job : Job) (rest : List (Job × Bool)) → lane.window ≡ (job, false) ∷ rest → IsOwnStep lane (Take lane.table) (reply.Taken taken.Waiting) lane
take_waiting lane job rest window = λ turns sound left.
    let first : slice_get lane.window 0 ≡ Some (job, false) = ap (λ xs. slice_get xs 0) window in
    let next : lane.next + 0 ≡ next_ticket turns = omega (arith, left.next) in
    let more : 0 < length lane.window = slice_get_within lane.window 0 _ first in
    let stays : is_withdrawn turns (next_ticket turns) ≡ false = subst (λ n. is_withdrawn turns n ≡ false) left.next (front_stays lane turns left more) in (
      (
        not_arrived lane turns 0 (next_ticket turns) job left next stays first,
        λ (closed, all). absurd (omega (arith, count turns lane left, all, left.next)),
      ),
      idle_kept lane (Take lane.table, reply.Taken taken.Waiting) turns sound left ((refl, refl), refl, refl, refl),
    )

none_left : (lane : LaneState) (turns : List Turn) → IsLeftBy turns lane → lane.window ≡ [] → next_ticket turns ≡ length (submitted turns)
none_left lane turns left window =
    omega (arith, count turns lane left, left.next, ap length window)

pub take_open : (lane : LaneState) → lane.window ≡ [] → lane.closed ≡ false → IsOwnStep lane (Take lane.table) (reply.Taken taken.Waiting) lane
take_open lane window is_open = λ turns sound left. (
  (
    λ old. absurd (omega (arith, HasArrived-within turns (next_ticket turns) old, none_left lane turns left window)),
    λ (closed, all). false≢true (sym is_open ∙ (left.closed ∙ closed)),
  ),
  idle_kept lane (Take lane.table, reply.Taken taken.Waiting) turns sound left ((refl, refl), refl, refl, refl),
)

pub take_finished : (lane : LaneState) → lane.window ≡ [] → lane.closed ≡ true → IsOwnStep lane (Take lane.table) (reply.Taken taken.Finished) lane
take_finished lane window closed = λ turns sound left. (
  (
    λ old. absurd (omega (arith, HasArrived-within turns (next_ticket turns) old, none_left lane turns left window)),
    sym left.closed ∙ closed,
    none_left lane turns left window,
  ),
  idle_kept lane (Take lane.table, reply.Taken taken.Finished) turns sound left ((refl, refl), refl, refl, refl),
)

-- what the turns left of a lane whose first jobs may be withdrawn ones

record IsLeftUnpassed (turns : List Turn) (lane : LaneState) : Type 0 where
  pub done : (i : ℕ) → i < lane.next → is_done turns i ≡ true
  pub not_given : (i : ℕ) → lane.next ≤ i → is_given turns i ≡ false
  pub total : lane.next + length lane.window ≡ length (submitted turns)
  pub jobs : map (λ (e : Job × Bool). e.0) lane.window ≡ drop lane.next (submitted turns)
  pub arrived : (k : ℕ) (job : Job) (flag : Bool) → slice_get lane.window k ≡ Some (job, flag) → is_withdrawn turns (lane.next + k) ≡ false → (flag ≡ true) ↔ HasArrived turns (lane.next + k)
  pub withdrawn : (i : ℕ) → is_among lane.withdrawn i ≡ is_withdrawn turns i
  pub closed : lane.closed ≡ has_closed turns

passed_is_next : (turns : List Turn) (lane : LaneState) (n : ℕ) → IsLeftUnpassed turns lane → n ≤ length lane.window → ((i : ℕ) → i < n → is_among lane.withdrawn (lane.next + i) ≡ true) → (lane.next + n ≡ length (submitted turns)) ⊎ (is_among lane.withdrawn (lane.next + n) ≡ false) → IsNext turns (lane.next + n)
passed_is_next turns lane n left within each ends =
    record {
      within = omega (arith, left.total, within);
      before = λ i below. ⊎_elim (λ early. left.done i early)
          (λ late.
          let k : ℕ = i - lane.next in
          let same : lane.next + k ≡ i = omega arith in
          let gone : is_among lane.withdrawn (lane.next + k) ≡ true = each k (omega arith) in
          or_right (is_given turns i) (is_withdrawn turns i) (sym (left.withdrawn i) ∙ subst (λ m. is_among lane.withdrawn m ≡ true) same gone))
          (cases_lt i lane.next);
      stops = λ below. ⊎_elim (λ past. absurd (omega (arith, past)))
          (λ stays. or_from (is_given turns (lane.next + n)) (is_withdrawn turns (lane.next + n)) (left.not_given (lane.next + n) (omega arith)) (sym (left.withdrawn (lane.next + n)) ∙ stays)) ends;
    }

left_passed : (turns : List Turn) (lane new : LaneState) → IsLeftUnpassed turns lane → PassesWithdrawn lane new → IsLeftBy turns new
left_passed turns lane new left passes =
    let n = passes.count in
    let window : List (Job × Bool) = drop n lane.window in
    let next_is : new.next ≡ lane.next + n = ap (λ (l : LaneState). l.next) passes.new_is in
    let window_is : new.window ≡ window = ap (λ (l : LaneState). l.window) passes.new_is in
    let ends : (lane.next + n ≡ length (submitted turns)) ⊎ (is_among lane.withdrawn (lane.next + n) ≡ false) =
    ⊎_elim (λ none. inl (omega (arith, left.total, passes.within, length-drop n lane.window, ap length (sym window_is ∙ none)))) (λ stays. inr (subst (λ m. is_among lane.withdrawn m ≡ false) next_is stays)) passes.ends in
    rw passes.new_is (record {
      next = IsNext-is turns (lane.next + n) (passed_is_next turns lane n left passes.within passes.each ends);
      jobs = sym (drop-map (λ (e : Job × Bool). e.0) n lane.window) ∙ ap (drop n) left.jobs ∙ drop-drop n lane.next (submitted turns);
      arrived = λ k job flag there stays.
          let same : lane.next + (n + k) ≡ lane.next + n + k = omega arith in
          let at : slice_get lane.window (n + k) ≡ Some (job, flag) = sym (slice_get-drop n lane.window k) ∙ there in
          subst (λ m. (flag ≡ true) ↔ HasArrived turns m) same (left.arrived (n + k) job flag at (rw same stays));
      withdrawn = left.withdrawn;
      closed = left.closed;
    })

-- the lane after its first answer, before the withdrawn jobs behind it are passed
abbrev without_first : LaneState → List (Job × Bool) → LaneState
without_first lane rest = record lane { next = lane.next + 1; window = rest }

left_without_first : (lane : LaneState) (job : Job) (rest : List (Job × Bool)) (turns : List Turn) → lane.window ≡ (job, true) ∷ rest → IsSound turns → IsLeftBy turns lane → IsLeftUnpassed (turns ++ (Take lane.table, reply.Taken (taken.Answer lane.next (value_of job))) ∷ []) (without_first lane rest)
left_without_first lane job rest turns window sound left =
    let turn : Turn = (Take lane.table, reply.Taken (taken.Answer lane.next (value_of job))) in
    let after : List Turn = turns ++ turn ∷ [] in
    let gone : (i : ℕ) → is_withdrawn after i ≡ is_withdrawn turns i = λ i. is_withdrawn-same turns turn i refl in
    let now_given : (i : ℕ) → is_given after i ≡ (is_given turns i || eqb lane.next i) = λ i. is_given-more turns turn lane.next (value_of job) i refl in
    let jobs : submitted after ≡ submitted turns = submits_nothing turns turn refl in
    record {
      done = λ i below. ⊎_elim
          (λ early.
          let was : is_done turns i ≡ true = (IsNext-next_ticket turns).before i (omega (arith, left.next)) in
          rw (now_given i, gone i) (still_done (is_given turns i) (eqb lane.next i) (is_withdrawn turns i) was))
          (λ late.
          let here : lane.next ≡ i = omega arith in
          rw (now_given i, eq-eqb lane.next i here) (now_done (is_given turns i) (is_withdrawn after i)))
          (cases_lt i lane.next);
      not_given = λ i past. now_given i ∙ (rw (not_given turns i sound (omega (arith, left.next)), ne_eqb lane.next i (λ e. absurd (omega arith))) refl);
      total = omega (arith, count turns lane left, ap length window, ap length jobs);
      jobs = rw add-one (
          sym (drop-suc lane.next (submitted turns) job (map (λ (e : Job × Bool). e.0) rest) (sym left.jobs ∙ ap (map (λ (e : Job × Bool). e.0)) window))
          ∙ ap (drop (suc lane.next)) (sym jobs));
      arrived = λ k other flag there stays.
          let at : slice_get lane.window (suc k) ≡ Some (other, flag) = ap (λ xs. slice_get xs (suc k)) window ∙ there in
          let number : lane.next + suc k ≡ lane.next + 1 + k = omega arith in
          subst (λ m. (flag ≡ true) ↔ HasArrived after m) number
          (arrived_on turns turn lane (suc k) other flag left (sym (gone (lane.next + suc k)) ∙ rw number stays) (brings_nothing turns turn refl) at);
      withdrawn = λ i. left.withdrawn i ∙ sym (gone i);
      closed = still_closed turns turn lane left refl;
    }
  where
    still_done : (a b c : Bool) → (a || c) ≡ true → ((a || b) || c) ≡ true
    still_done true b c done = refl
    still_done false true c done = refl
    still_done false false c done = done

    now_done : (a c : Bool) → ((a || true) || c) ≡ true
    now_done true c = refl
    now_done false c = refl

pub take_answer : (lane new : LaneState) (job : Job) (rest : List (Job × Bool)) → lane.window ≡ (job, true) ∷ rest → PassesWithdrawn (record lane { next = lane.next + 1; window = rest }) new → IsOwnStep lane (Take lane.table) (reply.Taken (taken.Answer lane.next (value_of job))) new
take_answer lane new job rest window passes = λ turns sound left.
    let first : slice_get lane.window 0 ≡ Some (job, true) = ap (λ xs. slice_get xs 0) window in
    let here : lane.next + 0 ≡ lane.next = omega arith in
    let stays : is_withdrawn turns (lane.next + 0) ≡ false = rw here (front_stays lane turns left (slice_get_within lane.window 0 _ first)) in
    let old : HasArrived turns lane.next = subst (HasArrived turns) here ((left.arrived 0 job true first stays).0 refl) in
    let wanted : slice_get (submitted turns) lane.next ≡ Some job = rw here at (job_at turns lane 0 job true left first) in (
      (left.next, old, ap (option_map value_of) wanted),
      left_passed _ (without_first lane rest) new (left_without_first lane job rest turns window sound left) passes,
    )

-- withdrawals

-- what the lane and the turns say of whether a ticket can be withdrawn
CanWithdraw-from_lane : (lane : LaneState) (turns : List Turn) (seq : ℕ) → IsSound turns → IsLeftBy turns lane → CanTakeBack lane seq → CanWithdraw turns seq
CanWithdraw-from_lane lane turns seq sound left can =
    let unused : is_given turns seq ≡ false = not_given turns seq sound (omega (arith, left.next, can.not_given)) in
    let stays : is_withdrawn turns seq ≡ false = not_withdrawn turns lane seq left can.first_time in
    (omega (arith, count turns lane left, can.given_out), rw (unused, stays) refl)

pub CanTakeBack-from_turns : (lane : LaneState) (turns : List Turn) (seq : ℕ) → IsLeftBy turns lane → CanWithdraw turns seq → CanTakeBack lane seq
CanTakeBack-from_turns lane turns seq left can =
    record {
      given_out = omega (arith, count turns lane left, can.0);
      not_given = ⊎_elim (λ below. absurd (false≢true (sym can.1 ∙ (IsNext-next_ticket turns).before seq (omega (arith, left.next, below))))) (λ past. past) (cases_lt seq lane.next);
      first_time = left.withdrawn seq ∙ second_false (is_given turns seq) (is_withdrawn turns seq) can.1;
    }
  where
    second_false : (a b : Bool) → (a || b) ≡ false → b ≡ false
    second_false true b neither = cc
    second_false false b neither = neither

abbrev ticket_of : LaneState → ℕ → Ticket
ticket_of lane seq = record { table = lane.table; seq = seq }

pub withdraw_refused : (lane : LaneState) (seq : ℕ) → ¬ CanTakeBack lane seq → IsOwnStep lane (Withdraw (ticket_of lane seq)) (reply.Withdrawn false) lane
withdraw_refused lane seq cannot = λ turns sound left. (
  λ can. cannot (CanTakeBack-from_turns lane turns seq left can),
  idle_kept lane (Withdraw (ticket_of lane seq), reply.Withdrawn false) turns sound left ((refl, refl), refl, refl, refl),
)

pub withdraw_without_memory : (lane : LaneState) (seq : ℕ) → CanTakeBack lane seq → IsOwnStep lane (Withdraw (ticket_of lane seq)) (reply.Refused fault.Memory) lane
withdraw_without_memory lane seq can = λ turns sound left. (
  CanWithdraw-from_lane lane turns seq sound left can,
  idle_kept lane (Withdraw (ticket_of lane seq), reply.Refused fault.Memory) turns sound left ((refl, refl), refl, refl, refl),
)

left_taken_back : (lane : LaneState) (seq : ℕ) (numbers : List ℕ) (turns : List Turn) → ((i : ℕ) → is_among numbers i ≡ (is_among lane.withdrawn i || eqb i seq)) → IsSound turns → IsLeftBy turns lane → IsLeftUnpassed (turns ++ (Withdraw (ticket_of lane seq), reply.Withdrawn true) ∷ []) (record lane { withdrawn = numbers })
left_taken_back lane seq numbers turns added sound left =
    let turn : Turn = (Withdraw (ticket_of lane seq), reply.Withdrawn true) in
    let after : List Turn = turns ++ turn ∷ [] in
    let same_given : (i : ℕ) → is_given after i ≡ is_given turns i = λ i. is_given-same turns turn i refl in
    let gone : (i : ℕ) → is_withdrawn after i ≡ (is_withdrawn turns i || eqb i seq) = λ i. is_withdrawn-more turns turn seq i refl in
    let jobs : submitted after ≡ submitted turns = submits_nothing turns turn refl in
    record {
      done = λ i below.
          let was : is_done turns i ≡ true = (IsNext-next_ticket turns).before i (omega (arith, left.next)) in
          rw (same_given i, gone i) (still_done (is_given turns i) (is_withdrawn turns i) (eqb i seq) was);
      not_given = λ i past. same_given i ∙ not_given turns i sound (omega (arith, left.next));
      total = count turns lane left ∙ ap length (sym jobs);
      jobs = left.jobs ∙ ap (drop lane.next) (sym jobs);
      arrived = λ k job flag there stays.
          let stayed : is_withdrawn turns (lane.next + k) ≡ false = (or_parts (is_withdrawn turns (lane.next + k)) (eqb (lane.next + k) seq) (sym (gone (lane.next + k)) ∙ stays)).0 in
          arrived_on turns turn lane k job flag left stayed (brings_nothing turns turn refl) there;
      withdrawn = λ i. added i ∙ ap (λ b. b || eqb i seq) (left.withdrawn i) ∙ sym (gone i);
      closed = still_closed turns turn lane left refl;
    }
  where
    still_done : (a b c : Bool) → (a || b) ≡ true → (a || (b || c)) ≡ true
    still_done true b c done = refl
    still_done false true c done = refl
    still_done false false c done = cc

pub withdraw_done : (lane : LaneState) (seq : ℕ) (new : LaneState) → CanTakeBack lane seq → TakesBack lane seq new → IsOwnStep lane (Withdraw (ticket_of lane seq)) (reply.Withdrawn true) new
withdraw_done lane seq new can takes = λ turns sound left. (
  CanWithdraw-from_lane lane turns seq sound left can,
  left_passed _ (record lane { withdrawn = takes.numbers }) new (left_taken_back lane seq takes.numbers turns takes.added sound left) takes.passes,
)

-- a piece for a ticket of the window
pub arrive_in_window : (lane : LaneState) (piece : Ticketed) (k : ℕ) (old : Job × Bool) (result : Arrived) (new : Job × Bool) → is_among lane.withdrawn piece.ticket.seq ≡ false → lane.next + k ≡ piece.ticket.seq → slice_get lane.window k ≡ Some old → TakesIn old piece.job result new → IsOwnStep lane (Arrive piece) (reply.Arrived result) (record lane { window = slice_set lane.window k new })
arrive_in_window lane piece k (job, flag) arrived.Doubled new stays seq there takes =
    let same : slice_set lane.window k new ≡ lane.window = rw takes.1 (set-slice_get lane.window k (job, flag) there) in
    let there' : slice_get lane.window k ≡ Some (job, true) = there ∙ ap (λ b. Some (job, b)) takes.0 in
    rw same (arrive_again lane piece k job stays seq there')
arrive_in_window lane piece k (job, flag) arrived.Stranger new stays seq there takes =
    let same : slice_set lane.window k new ≡ lane.window = rw takes.2 (set-slice_get lane.window k (job, flag) there) in
    let there' : slice_get lane.window k ≡ Some (job, false) = there ∙ ap (λ b. Some (job, b)) takes.0 in
    rw same (arrive_other_job lane piece k job stays seq there' takes.1)
arrive_in_window lane piece k old arrived.Accepted new stays seq there takes =
    rw takes.1 (arrive_accepted lane piece k stays seq (there ∙ ap Some takes.0))
arrive_in_window lane piece k old arrived.Withdrawn new stays seq there takes = absurd takes

pub ruleset arrive_facts = (IsStep_from_own, arrive_withdrawn, arrive_given, arrive_unknown, arrive_in_window)
