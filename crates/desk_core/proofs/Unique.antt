-- Without want of memory the replies are determined by the events.
use Rattle.std.proofs.Common.{◌≡◌, ℕ, Bool, true, false, ltb, List, [], ◌∷◌, ◌++◌, length, Some, refl, sym, ap, ◌∙◌, subst, inl, inr, arith}
use Rattle.std.specs.Prelude.{slice_get, option_map, MatchBool}
use Rattle.std.specs.List.{zip, AllByRecursion}
use Rattle.std.proofs.lemmas.Bool.{false≢true}
use Rattle.std.proofs.lemmas.Option.{slice_get_within}
use Rattle.desk_core.proofs.Histories.{HasArrived-within}
use Rattle.desk_core.specs.Value.{value_of}
use Rattle.desk_core.specs.Ticketed.{Ticketed}
use Rattle.desk_core.specs.History.{Turn, table_of, turns_of, submitted, HasArrived, SubmitReply, ArriveReply, TakeReply, WithdrawReply, ReplyOf, DeskReplyOf, IsLegalAfter}
use Rattle.desk_core.specs.declared.event.Event.{Event}
use Rattle.desk_core.specs.declared.event.Event.TheVariants.{Submit, Arrive, Close, Take, Withdraw}
use Rattle.desk_core.specs.declared.reply.Reply.{Reply}
use Rattle.desk_core.specs.declared.reply.Reply.TheVariants as reply
use Rattle.desk_core.specs.declared.refusal.SubmitFault.TheVariants as fault
use Rattle.desk_core.specs.declared.arrived.Arrived.{Arrived}
use Rattle.desk_core.specs.declared.arrived.Arrived.TheVariants as arrived
use Rattle.desk_core.specs.declared.taken.Taken.{Taken}
use Rattle.desk_core.specs.declared.taken.Taken.TheVariants as taken

abbrev NoMemory : Reply → Type 0
NoMemory replied = replied ≡ reply.Refused fault.Memory

submit_unique : (turns : List Turn) (table : ℕ) (a b : Reply) → SubmitReply turns table a → SubmitReply turns table b → ¬ NoMemory a → ¬ NoMemory b → a ≡ b
submit_unique turns table (reply.Refused fault.Memory) b first second differ other = absurd (differ refl)
submit_unique turns table a (reply.Refused fault.Memory) first second differ other = absurd (other refl)
submit_unique turns table (reply.Refused fault.Closed) (reply.Refused fault.Closed) first second differ other = refl
submit_unique turns table (reply.Refused fault.Closed) (reply.Refused fault.Limit) first second differ other = absurd (false≢true (sym second.0 ∙ first))
submit_unique turns table (reply.Refused fault.Closed) (reply.Ticket ticket) first second differ other = absurd (false≢true (sym second.0 ∙ first))
submit_unique turns table (reply.Refused fault.Closed) b first second differ other = absurd second
submit_unique turns table (reply.Refused fault.Limit) (reply.Refused fault.Closed) first second differ other = absurd (false≢true (sym first.0 ∙ second))
submit_unique turns table (reply.Refused fault.Limit) (reply.Refused fault.Limit) first second differ other = refl
submit_unique turns table (reply.Refused fault.Limit) (reply.Ticket ticket) first second differ other = absurd (second.1 first.1)
submit_unique turns table (reply.Refused fault.Limit) b first second differ other = absurd second
submit_unique turns table (reply.Ticket ticket) (reply.Refused fault.Closed) first second differ other = absurd (false≢true (sym first.0 ∙ second))
submit_unique turns table (reply.Ticket ticket) (reply.Refused fault.Limit) first second differ other = absurd (first.1 second.1)
submit_unique turns table (reply.Ticket ticket) (reply.Ticket same) first second differ other = ap reply.Ticket (first.2 ∙ sym second.2)
submit_unique turns table (reply.Ticket ticket) b first second differ other = absurd second
submit_unique turns table a b first second differ other = absurd first

-- a piece that is answered as a stranger has no other answer
stranger_alone : (turns : List Turn) (piece : Ticketed) (b : Arrived) → ArriveReply turns piece (reply.Arrived arrived.Stranger) → ArriveReply turns piece (reply.Arrived b) → arrived.Stranger ≡ b
stranger_alone turns piece arrived.Stranger first second = refl
stranger_alone turns piece arrived.Doubled (inl past) second = absurd (omega (arith, HasArrived-within turns piece.ticket.seq second.1))
stranger_alone turns piece arrived.Doubled (inr other) second = absurd (other.1 second.1)
stranger_alone turns piece arrived.Accepted (inl past) second = absurd (omega (arith, slice_get_within (submitted turns) piece.ticket.seq _ second.2))
stranger_alone turns piece arrived.Accepted (inr other) second = absurd (other.2 second.2)
stranger_alone turns piece arrived.Withdrawn (inl past) second = absurd (omega (arith, past, second.0))
stranger_alone turns piece arrived.Withdrawn (inr other) second = absurd (false≢true (sym other.0 ∙ second.1))

arrive_unique : (turns : List Turn) (piece : Ticketed) (a b : Arrived) → ArriveReply turns piece (reply.Arrived a) → ArriveReply turns piece (reply.Arrived b) → a ≡ b
arrive_unique turns piece arrived.Stranger b first second = stranger_alone turns piece b first second
arrive_unique turns piece a arrived.Stranger first second = sym (stranger_alone turns piece a second first)
arrive_unique turns piece arrived.Withdrawn arrived.Withdrawn first second = refl
arrive_unique turns piece arrived.Withdrawn b first second = absurd (false≢true (sym second.0 ∙ first.1))
arrive_unique turns piece a arrived.Withdrawn first second = absurd (false≢true (sym first.0 ∙ second.1))
arrive_unique turns piece arrived.Doubled arrived.Doubled first second = refl
arrive_unique turns piece arrived.Doubled arrived.Accepted first second = absurd (second.1 first.1)
arrive_unique turns piece arrived.Accepted arrived.Doubled first second = absurd (first.1 second.1)
arrive_unique turns piece arrived.Accepted arrived.Accepted first second = refl

take_unique : (turns : List Turn) (a b : Taken) → TakeReply turns (reply.Taken a) → TakeReply turns (reply.Taken b) → a ≡ b
take_unique turns (taken.Answer m x) (taken.Answer n y) first second =
    let seq : m ≡ n = first.0 ∙ sym second.0 in
    let some : Some x ≡ Some y = sym first.2 ∙ ap (λ k. option_map value_of (slice_get (submitted turns) k)) seq ∙ second.2 in
    let answer : x ≡ y = cc in
    ap (λ k. taken.Answer k x) seq ∙ ap (taken.Answer n) answer
take_unique turns (taken.Answer m x) b first second = absurd (second.0 (subst (HasArrived turns) first.0 first.1))
take_unique turns a (taken.Answer n y) first second = absurd (first.0 (subst (HasArrived turns) second.0 second.1))
take_unique turns taken.Waiting taken.Waiting first second = refl
take_unique turns taken.Finished taken.Finished first second = refl
take_unique turns taken.Waiting taken.Finished first second = absurd (first.1 (second.1, second.2))
take_unique turns taken.Finished taken.Waiting first second = absurd (second.1 (first.1, first.2))

withdraw_unique : (turns : List Turn) (seq : ℕ) (a b : Bool) → WithdrawReply turns seq (reply.Withdrawn a) → WithdrawReply turns seq (reply.Withdrawn b) → a ≡ b
withdraw_unique turns seq true true first second = refl
withdraw_unique turns seq false false first second = refl
withdraw_unique turns seq true false first second = absurd (second first)
withdraw_unique turns seq false true first second = absurd (first second)

reply_unique : (turns : List Turn) (event : Event) (a b : Reply) → ReplyOf turns event a → ReplyOf turns event b → ¬ NoMemory a → ¬ NoMemory b → a ≡ b
reply_unique turns (Submit table job) a b first second differ other = submit_unique turns table a b first second differ other
reply_unique turns (Arrive piece) (reply.Arrived a) (reply.Arrived b) first second differ other = ap reply.Arrived (arrive_unique turns piece a b first second)
reply_unique turns (Arrive piece) (reply.Arrived a) b first second differ other = absurd second
reply_unique turns (Arrive piece) a b first second differ other = absurd first
reply_unique turns (Close table) a b first second differ other = first ∙ sym second
reply_unique turns (Take table) (reply.Taken a) (reply.Taken b) first second differ other = ap reply.Taken (take_unique turns a b first second)
reply_unique turns (Take table) (reply.Taken a) b first second differ other = absurd second
reply_unique turns (Take table) a b first second differ other = absurd first
reply_unique turns (Withdraw ticket) (reply.Refused fault.Memory) b first second differ other = absurd (differ refl)
reply_unique turns (Withdraw ticket) a (reply.Refused fault.Memory) first second differ other = absurd (other refl)
reply_unique turns (Withdraw ticket) (reply.Withdrawn a) (reply.Withdrawn b) first second differ other = ap reply.Withdrawn (withdraw_unique turns ticket.seq a b first second)
reply_unique turns (Withdraw ticket) (reply.Withdrawn a) b first second differ other = absurd second
reply_unique turns (Withdraw ticket) a b first second differ other = absurd first

pub desk_reply_unique : (tables : ℕ) (history : List Turn) (event : Event) (a b : Reply) → DeskReplyOf tables history (event, a) → DeskReplyOf tables history (event, b) → ¬ NoMemory a → ¬ NoMemory b → a ≡ b
desk_reply_unique tables history event a b first second differ other = by_range (ltb (table_of event) tables) refl first second
  where
    by_range : (r : Bool) → ltb (table_of event) tables ≡ r → MatchBool (ltb (table_of event) tables) (ReplyOf (turns_of (table_of event) history) event a) (a ≡ reply.NoTable) → MatchBool (ltb (table_of event) tables) (ReplyOf (turns_of (table_of event) history) event b) (b ≡ reply.NoTable) → a ≡ b
    by_range true e p q = reply_unique (turns_of (table_of event) history) event a b (rw e at p) (rw e at q) differ other
    by_range false e p q =
        let none : a ≡ reply.NoTable = rw e at p in
        let same : b ≡ reply.NoTable = rw e at q in
        none ∙ sym same

-- the same events have the same replies, where none is a want of memory
pub replies_unique : (tables : ℕ) (history : List Turn) (events : List Event) (a b : List Reply) → length a ≡ length events → length b ≡ length events → IsLegalAfter tables history (zip events a) → IsLegalAfter tables history (zip events b) → AllByRecursion (λ r. ¬ NoMemory r) a → AllByRecursion (λ r. ¬ NoMemory r) b → a ≡ b
replies_unique tables history [] [] [] p q first second differ other = refl
replies_unique tables history [] (x ∷ a) b p q first second differ other = absurd (omega arith)
replies_unique tables history [] [] (y ∷ b) p q first second differ other = absurd (omega arith)
replies_unique tables history (event ∷ events) [] b p q first second differ other = absurd (omega arith)
replies_unique tables history (event ∷ events) (x ∷ a) [] p q first second differ other = absurd (omega arith)
replies_unique tables history (event ∷ events) (x ∷ a) (y ∷ b) p q first second differ other =
    let head : x ≡ y = desk_reply_unique tables history event x y first.0 second.0 differ.0 other.0 in
    let rest : IsLegalAfter tables (history ++ (event, x) ∷ []) (zip events b) = rw head second.1 in
    let tail : a ≡ b = replies_unique tables (history ++ (event, x) ∷ []) events a b (omega arith) (omega arith) first.1 rest differ.1 other.1 in
    ap (λ r. r ∷ a) head ∙ ap (λ rs. y ∷ rs) tail
