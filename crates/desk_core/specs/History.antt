-- What the events of a desk and their replies so far say of each table.
use Rattle.std.specs.Prelude.{◌≡◌, ◌≢◌, ℕ, ◌<◌, ◌≤◌, ◌==◌, ◌⊎◌, ◌||◌, Bool, true, false, not, nat_lt, List, [], ◌∷◌, ◌++◌, length, take, map, filter, Option, Some, None, option_map, slice_get, MatchBool}
use Rattle.std.specs.List.{list_any, filter_map, take_while, enumerate_from}
use Rattle.desk_core.specs.LaneState.{is_among}
use Rattle.desk_core.specs.Value.{value_of}
use Rattle.desk_core.specs.Ticketed.{Ticketed}
use Rattle.riichi_hand.specs.declared.job.Job.{Job}
use Rattle.desk_core.specs.declared.answer.Answer.{Answer}
use Rattle.desk_core.specs.declared.event.Event.{Event}
use Rattle.desk_core.specs.declared.event.Event.TheVariants.{Submit, Arrive, Close, Take, Withdraw}
use Rattle.desk_core.specs.declared.reply.Reply.{Reply}
use Rattle.desk_core.specs.declared.reply.Reply.TheVariants as reply
use Rattle.desk_core.specs.declared.refusal.SubmitFault.TheVariants as fault
use Rattle.desk_core.specs.declared.arrived.Arrived.TheVariants as arrived
use Rattle.desk_core.specs.declared.taken.Taken.TheVariants as taken
use Rattle.desk_core.specs.declared.lane.TheConstants.{LIMIT}

-- an event with its reply; a history is the list of the turns so far, the oldest first
abbrev pub Turn : Type 0
Turn = Event × Reply

-- the table that an event is about
abbrev pub table_of : Event → ℕ
table_of (Submit table job) = table
table_of (Arrive piece) = piece.ticket.table
table_of (Close table) = table
table_of (Take table) = table
table_of (Withdraw ticket) = ticket.table

-- the turns of one table
abbrev pub turns_of : ℕ → List Turn → List Turn
turns_of table history = filter (λ turn. table_of turn.0 == table) history

-- The definitions below are on the turns of one table.

abbrev pub is_close : Event → Bool
is_close (Close table) = true
is_close (Submit table job) = false
is_close (Arrive piece) = false
is_close (Take table) = false
is_close (Withdraw ticket) = false

-- the job of a submission that was not refused for want of memory or by the limit
abbrev pub submitted_job : Event → Reply → Option Job
submitted_job (Submit table job) (reply.Refused fault.Memory) = None
submitted_job (Submit table job) (reply.Refused fault.Limit) = None
submitted_job (Submit table job) reply = Some job
submitted_job event reply = None

-- the jobs submitted before the table closed, in order
abbrev pub submitted : List Turn → List Job
submitted turns = filter_map (λ turn. submitted_job turn.0 turn.1) (take_while (λ turn. not (is_close turn.0)) turns)

-- whether the table has closed
abbrev pub has_closed : List Turn → Bool
has_closed turns = list_any (λ turn. is_close turn.0) turns

-- at place q a piece came for ticket i with the job submitted under it, after that ticket was given out
pub record ArrivedAt (turns : List Turn) (i q : ℕ) : Type 0 where
  pub piece : Ticketed
  pub reply : Reply
  pub turn : slice_get turns q ≡ Some (Arrive piece, reply)
  pub seq : piece.ticket.seq ≡ i
  pub job : slice_get (submitted turns) i ≡ Some piece.job
  pub known : i < length (submitted (take q turns))

-- the piece of ticket i has arrived
abbrev pub HasArrived : List Turn → ℕ → Type 0
HasArrived turns i = (q : ℕ) × ArrivedAt turns i q

abbrev pub answer_in : Reply → Option (ℕ × Answer)
answer_in (reply.Taken (taken.Answer seq answer)) = Some (seq, answer)
answer_in reply = None

-- the answers that the table was given, with their numbers, in order
abbrev pub given : List Turn → List (ℕ × Answer)
given turns = filter_map (λ turn. answer_in turn.1) turns

-- the number that a withdrawal took back
abbrev pub withdrawn_in : Event → Reply → Option ℕ
withdrawn_in (Withdraw ticket) (reply.Withdrawn true) = Some ticket.seq
withdrawn_in event reply = None

-- the numbers that the table withdrew, in order
abbrev pub withdrawn : List Turn → List ℕ
withdrawn turns = filter_map (λ turn. withdrawn_in turn.0 turn.1) turns

-- whether ticket i was withdrawn
abbrev pub is_withdrawn : List Turn → ℕ → Bool
is_withdrawn turns i = is_among (withdrawn turns) i

-- whether the answer of ticket i was given
abbrev pub is_given : List Turn → ℕ → Bool
is_given turns i = list_any (λ answer. answer.0 == i) (given turns)

-- whether ticket i awaits nothing more: its answer was given, or it was withdrawn
abbrev pub is_done : List Turn → ℕ → Bool
is_done turns i = is_given turns i || is_withdrawn turns i

-- the ticket whose answer is given next: the least that was neither given nor withdrawn, and the
-- number of tickets where there is none
abbrev pub next_ticket : List Turn → ℕ
next_ticket turns =
    length (take_while (λ numbered. is_done turns numbered.0) (enumerate_from 0 (submitted turns)))

-- each ticket was given or withdrawn
abbrev pub AllDone : List Turn → Type 0
AllDone turns = next_ticket turns ≡ length (submitted turns)

-- the reply to a submission: closed, over the limit, want of memory, or the next number
abbrev pub SubmitReply : List Turn → ℕ → Reply → Type 0
SubmitReply turns table (reply.Refused fault.Closed) = has_closed turns ≡ true
SubmitReply turns table (reply.Refused fault.Limit) = (has_closed turns ≡ false) × (length (submitted turns) ≡ LIMIT)
SubmitReply turns table (reply.Refused fault.Memory) = (has_closed turns ≡ false) × (length (submitted turns) ≢ LIMIT)
SubmitReply turns table (reply.Ticket ticket) =
    (has_closed turns ≡ false) × (length (submitted turns) ≢ LIMIT)
    × (ticket ≡ record { table = table; seq = length (submitted turns) })
SubmitReply turns table reply = ⊥

-- the reply to a piece: a stranger where the ticket was not given out, withdrawn where the ticket
-- was, doubled where its piece has arrived, a stranger where the job is another, and accepted
abbrev pub ArriveReply : List Turn → Ticketed → Reply → Type 0
ArriveReply turns piece (reply.Arrived arrived.Stranger) =
    (length (submitted turns) ≤ piece.ticket.seq)
    ⊎ ((is_withdrawn turns piece.ticket.seq ≡ false) × (¬ HasArrived turns piece.ticket.seq)
    × (slice_get (submitted turns) piece.ticket.seq ≢ Some piece.job))
ArriveReply turns piece (reply.Arrived arrived.Withdrawn) =
    (piece.ticket.seq < length (submitted turns)) × (is_withdrawn turns piece.ticket.seq ≡ true)
ArriveReply turns piece (reply.Arrived arrived.Doubled) =
    (is_withdrawn turns piece.ticket.seq ≡ false) × HasArrived turns piece.ticket.seq
ArriveReply turns piece (reply.Arrived arrived.Accepted) =
    (is_withdrawn turns piece.ticket.seq ≡ false) × (¬ HasArrived turns piece.ticket.seq)
    × (slice_get (submitted turns) piece.ticket.seq ≡ Some piece.job)
ArriveReply turns piece reply = ⊥

-- the reply to a taking: the answer of the next ticket where its piece has arrived, the end where
-- the table has closed and each ticket was given or withdrawn, and else to wait
abbrev pub TakeReply : List Turn → Reply → Type 0
TakeReply turns (reply.Taken (taken.Answer seq answer)) =
    (seq ≡ next_ticket turns) × HasArrived turns seq
    × (option_map value_of (slice_get (submitted turns) seq) ≡ Some answer)
TakeReply turns (reply.Taken taken.Finished) =
    (¬ HasArrived turns (next_ticket turns)) × (has_closed turns ≡ true) × AllDone turns
TakeReply turns (reply.Taken taken.Waiting) =
    (¬ HasArrived turns (next_ticket turns)) × (¬ ((has_closed turns ≡ true) × AllDone turns))
TakeReply turns reply = ⊥

-- the ticket was given out, and neither given nor withdrawn
abbrev pub CanWithdraw : List Turn → ℕ → Type 0
CanWithdraw turns seq = (seq < length (submitted turns)) × (is_done turns seq ≡ false)

-- the reply to a withdrawal: whether the ticket could be withdrawn, or want of memory where it could
abbrev pub WithdrawReply : List Turn → ℕ → Reply → Type 0
WithdrawReply turns seq (reply.Withdrawn true) = CanWithdraw turns seq
WithdrawReply turns seq (reply.Withdrawn false) = ¬ CanWithdraw turns seq
WithdrawReply turns seq (reply.Refused fault.Memory) = CanWithdraw turns seq
WithdrawReply turns seq reply = ⊥

-- the reply to an event, after these turns of its table
abbrev pub ReplyOf : List Turn → Event → Reply → Type 0
ReplyOf turns (Submit table job) replied = SubmitReply turns table replied
ReplyOf turns (Arrive piece) replied = ArriveReply turns piece replied
ReplyOf turns (Close table) replied = replied ≡ reply.Closed (not (has_closed turns))
ReplyOf turns (Take table) replied = TakeReply turns replied
ReplyOf turns (Withdraw ticket) replied = WithdrawReply turns ticket.seq replied

-- the same at a desk of so many tables
abbrev pub DeskReplyOf : ℕ → List Turn → Turn → Type 0
DeskReplyOf tables history turn =
    MatchBool (nat_lt (table_of turn.0) tables) (ReplyOf (turns_of (table_of turn.0) history) turn.0 turn.1) (turn.1 ≡ reply.NoTable)

-- after the history, each of these turns has the reply that it must have
abbrev pub IsLegalAfter : ℕ → List Turn → List Turn → Type 0
IsLegalAfter tables history [] = Unit {0}
IsLegalAfter tables history (turn ∷ turns) = DeskReplyOf tables history turn × IsLegalAfter tables (history ++ turn ∷ []) turns

abbrev pub IsLegal : ℕ → List Turn → Type 0
IsLegal tables history = IsLegalAfter tables [] history

-- the answers that are due to the table, with their numbers: the values of the jobs that it submitted
-- before closing and did not withdraw, in order
abbrev pub answers_due : List Turn → List (ℕ × Answer)
answers_due turns =
    filter (λ answer. not (is_withdrawn turns answer.0)) (enumerate_from 0 (map value_of (submitted turns)))

-- the answers given are the first of those that are due, each with its number
abbrev pub GivenInOrder : List Turn → Type 0
GivenInOrder turns = given turns ≡ take (length (given turns)) (answers_due turns)
