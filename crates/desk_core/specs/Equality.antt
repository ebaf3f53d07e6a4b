-- What taking answers is the same where the number and the answer are; a reply where what it says is.
use Rattle.std.specs.Prelude.{◌≡◌, true}
use Rattle.std.proofs.Common.{ap, refl}
use Rattle.std.specs.Bool.{Decides}
use Rattle.std.specs.Cmp.{booleans_Decides}
use Rattle.std.proofs.lemmas.Bool.{and_parts, eqb-true, false≢true}
use Rattle.desk_core.specs.declared.taken.Taken.{Taken}
use Rattle.desk_core.specs.declared.taken.Taken.TheVariants.{Answer, Waiting, Finished}
use Rattle.desk_core.specs.contracts.taken.TakenPartialEq.TheImpl.{ghosts as taken}
use Rattle.desk_core.specs.contracts.taken.TakenEq.TheImpl.Laws.{laws-law as equiv}
use Rattle.desk_core.specs.contracts.decided.AnswerDecided.TheImpl.Laws.{decides-law as answers_decide}
use Rattle.desk_core.specs.declared.reply.Reply.{Reply}
use Rattle.desk_core.specs.declared.reply.Reply.TheVariants as reply
use Rattle.desk_core.specs.contracts.reply.ReplyPartialEq.TheImpl.{ghosts as replies}
use Rattle.desk_core.specs.contracts.reply.ReplyEq.TheImpl.Laws.{laws-law as replies_equiv}
use Rattle.desk_core.specs.contracts.decided.ArrivedDecided.TheImpl.Laws.{decides-law as arrived_decide}
use Rattle.desk_core.specs.contracts.decided.SubmitFaultDecided.TheImpl.Laws.{decides-law as faults_decide}
use Rattle.desk_core.specs.contracts.decided.TicketDecided.TheImpl.Laws.{decides-law as tickets_decide}

same_taken : (a b : Taken) → taken.eq a b ≡ true → a ≡ b
same_taken (Answer seq answer) (Answer other_seq other) h =
    let both = and_parts _ _ h in
    λ i. Answer (eqb-true seq other_seq both.0 i) ((answers_decide answer other).0 both.1 i)
same_taken Waiting Waiting h = refl
same_taken Finished Finished h = refl
same_taken a b h = absurd (false≢true h)

pub taken_decide : (a b : Taken) → Decides (taken.eq a b) (a ≡ b)
taken_decide a b = (same_taken a b, λ same. rw same (equiv.refl b))

same_reply : (a b : Reply) → replies.eq a b ≡ true → a ≡ b
same_reply reply.NoTable reply.NoTable h = refl
same_reply (reply.Ticket a) (reply.Ticket b) h = ap reply.Ticket ((tickets_decide a b).0 h)
same_reply (reply.Refused a) (reply.Refused b) h = ap reply.Refused ((faults_decide a b).0 h)
same_reply (reply.Arrived a) (reply.Arrived b) h = ap reply.Arrived ((arrived_decide a b).0 h)
same_reply (reply.Closed a) (reply.Closed b) h = ap reply.Closed ((booleans_Decides a b).0 h)
same_reply (reply.Taken a) (reply.Taken b) h = ap reply.Taken (same_taken a b h)
same_reply (reply.Withdrawn a) (reply.Withdrawn b) h = ap reply.Withdrawn ((booleans_Decides a b).0 h)
same_reply a b h = absurd (false≢true h)

pub replies_decide : (a b : Reply) → Decides (replies.eq a b) (a ≡ b)
replies_decide a b = (same_reply a b, λ same. rw same (replies_equiv.refl b))
