-- What holds of the turns of each table of a legal history.
use Rattle.std.proofs.Common.{◌≡◌, ℕ, ◌<◌, ◌≤◌, ◌⊎◌, Bool, true, false, cond, ltb, eqb, List, [], ◌∷◌, ◌++◌, length, map, Some, None, refl, sym, ap, ◌∙◌, subst, inl, inr, ⊎_elim, arith, append_assoc, append-nil}
use Rattle.std.specs.Prelude.{slice_get, if◌then◌else◌, option_map, ◌||◌, ◌≢◌}
use Rattle.std.specs.List.{list_any}
use Rattle.std.proofs.lemmas.List.{map-append, length-map}
use Rattle.std.proofs.lemmas.List.Elements.{filter-append}
use Rattle.std.proofs.lemmas.List.Folds.{list_any-append}
use Rattle.std.proofs.lemmas.Bool.{cases_lt, eqb-true, eq-eqb, ne_eqb, lt-ltb, false≢true, false_from_ne_true, or_cases, or_from, or_parts}
use Rattle.std.proofs.lemmas.Option.{slice_get-map}
use Rattle.desk_core.proofs.Lists.{append-cond}
use Rattle.desk_core.proofs.Due.{due, due-more, due-below, due-after_answer, due-after_withdrawal, due-front}
use Rattle.desk_core.proofs.Next.{IsNext, IsNext-next_ticket, IsNext-is}
use Rattle.std.proofs.Math.Bool.{or-false}
use Rattle.desk_core.proofs.Histories.{IsQuiet, submitted-push, given-push, given_same, withdrawn-push, withdrawn_same, is_given-same, is_withdrawn-same, length-submitted-push, HasArrived-push, HasArrived-within, slice_get-submitted-push}
use Rattle.desk_core.specs.Value.{value_of}
use Rattle.desk_core.specs.LaneState.{is_among}
use Rattle.desk_core.specs.History.{Turn, table_of, turns_of, submitted, HasArrived, given, answer_in, withdrawn, withdrawn_in, is_given, is_withdrawn, is_done, next_ticket, CanWithdraw, ReplyOf, DeskReplyOf, IsLegalAfter, IsLegal, GivenInOrder}
use Rattle.desk_core.specs.declared.answer.Answer.{Answer}
use Rattle.desk_core.specs.declared.event.Event.{Event}
use Rattle.desk_core.specs.declared.event.Event.TheVariants.{Submit, Arrive, Close, Take, Withdraw}
use Rattle.desk_core.specs.declared.reply.Reply.{Reply}
use Rattle.desk_core.specs.declared.reply.Reply.TheVariants as reply
use Rattle.desk_core.specs.declared.refusal.SubmitFault.TheVariants as fault
use Rattle.desk_core.specs.declared.taken.Taken.TheVariants as taken

-- the values of the jobs before ticket n that were not withdrawn, each with its number
abbrev pub due_before : List Turn → ℕ → List (ℕ × Answer)
due_before turns n = due (is_withdrawn turns) n (map value_of (submitted turns))

-- the answers given are those due before the next ticket; a ticket whose answer was given has
-- arrived; and a withdrawn one was given out
pub record IsSound (turns : List Turn) : Type 0 where
  pub values : given turns ≡ due_before turns (next_ticket turns)
  pub arrived : (i : ℕ) → is_given turns i ≡ true → HasArrived turns i
  pub known : (i : ℕ) → is_withdrawn turns i ≡ true → i < length (submitted turns)

pub next-within : (turns : List Turn) → next_ticket turns ≤ length (submitted turns)
next-within turns = (IsNext-next_ticket turns).within

pub length-values : (turns : List Turn) → length (map value_of (submitted turns)) ≡ length (submitted turns)
length-values turns = length-map (submitted turns) value_of

-- no ticket from the next one on was given
pub not_given : (turns : List Turn) (i : ℕ) → IsSound turns → next_ticket turns ≤ i → is_given turns i ≡ false
not_given turns i sound past =
    ap (list_any (λ (answer : ℕ × Answer). eqb answer.0 i)) sound.values
    ∙ due-below (is_withdrawn turns) (next_ticket turns) (map value_of (submitted turns)) i (omega (arith, next-within turns, length-values turns)) past

-- a ticket from the next one on that is done was withdrawn
withdrawn-done : (turns : List Turn) (i : ℕ) → is_given turns i ≡ false → is_done turns i ≡ true → is_withdrawn turns i ≡ true
withdrawn-done turns i not_one done = ⊎_elim (λ given_one. absurd (false≢true (sym not_one ∙ given_one))) (λ gone. gone) (or_cases (is_given turns i) (is_withdrawn turns i) done)

-- each ticket before the next one that was not withdrawn has arrived
pub arrived_before : (turns : List Turn) (i : ℕ) → IsSound turns → i < next_ticket turns → is_withdrawn turns i ≡ false → HasArrived turns i
arrived_before turns i sound before stays =
    ⊎_elim (λ given_one. sound.arrived i given_one) (λ gone. absurd (false≢true (sym stays ∙ gone)))
    (or_cases (is_given turns i) (is_withdrawn turns i) ((IsNext-next_ticket turns).before i before))

-- the next ticket was not withdrawn, where it was given out
pub next_stays : (turns : List Turn) → next_ticket turns < length (submitted turns) → is_withdrawn turns (next_ticket turns) ≡ false
next_stays turns within =
    (or_parts (is_given turns (next_ticket turns)) (is_withdrawn turns (next_ticket turns)) ((IsNext-next_ticket turns).stops within)).1

-- what was given is a front of what is due
pub in_order : (turns : List Turn) → IsSound turns → GivenInOrder turns
in_order turns sound =
    let front = due-front (is_withdrawn turns) (next_ticket turns) (map value_of (submitted turns)) in
    rw sound.values (sym front)

-- turns that give and withdraw nothing more

next-is : (turns : List Turn) (turn : Turn) → IsSound turns → IsQuiet turn → IsNext (turns ++ turn ∷ []) (next_ticket turns)
next-is turns turn sound quiet =
    let old = IsNext-next_ticket turns in
    let n = next_ticket turns in
    let done : (i : ℕ) → is_done (turns ++ turn ∷ []) i ≡ is_done turns i = λ i.
    rw (is_given-same turns turn i quiet.0, is_withdrawn-same turns turn i quiet.1) refl in
    let unknown : length (submitted turns) ≤ n → is_withdrawn turns n ≡ false = λ past.
    false_from_ne_true (is_withdrawn turns n) (λ gone. absurd (omega (arith, sound.known n gone))) in
    record {
      within = omega (arith, old.within, length-submitted-push turns turn);
      before = λ i below. done i ∙ old.before i below;
      stops = λ below. done n ∙ ⊎_elim (λ here. old.stops here)
          (λ past. or_from (is_given turns n) (is_withdrawn turns n) (not_given turns n sound (omega arith)) (unknown past))
          (cases_lt n (length (submitted turns)));
    }

pub next-same : (turns : List Turn) (turn : Turn) → IsSound turns → IsQuiet turn → next_ticket (turns ++ turn ∷ []) ≡ next_ticket turns
next-same turns turn sound quiet = sym (IsNext-is (turns ++ turn ∷ []) (next_ticket turns) (next-is turns turn sound quiet))

-- the jobs before a known ticket stay, so what is due of them stays
due-push : (gone : ℕ → Bool) (turns : List Turn) (turn : Turn) (n : ℕ) → n ≤ length (submitted turns) → due gone n (map value_of (submitted (turns ++ turn ∷ []))) ≡ due gone n (map value_of (submitted turns))
due-push gone turns turn n within =
    rw (submitted-push turns turn, map-append)
    (due-more gone n (map value_of (submitted turns)) _ (omega (arith, within, length-values turns)))

IsSound-push_same : (turns : List Turn) (turn : Turn) → IsSound turns → IsQuiet turn → IsSound (turns ++ turn ∷ [])
IsSound-push_same turns turn sound quiet =
    let after : List Turn = turns ++ turn ∷ [] in
    let gone : is_withdrawn after ≡ is_withdrawn turns = ap is_among (withdrawn_same turns turn quiet.1) in
    record {
      values =
          given_same turns turn quiet.0 ∙ sound.values
          ∙ sym (due-push (is_withdrawn turns) turns turn (next_ticket turns) (next-within turns))
          ∙ ap (λ n. due (is_withdrawn turns) n (map value_of (submitted after))) (sym (next-same turns turn sound quiet))
          ∙ ap (λ g. due g (next_ticket after) (map value_of (submitted after))) (sym gone);
      arrived = λ i given_one. HasArrived-push turns turn i (sound.arrived i (sym (is_given-same turns turn i quiet.0) ∙ given_one));
      known = λ i gone_one. omega (arith, sound.known i (sym (is_withdrawn-same turns turn i quiet.1) ∙ gone_one), length-submitted-push turns turn);
    }

-- a turn that gives the next answer

-- an answer that is given is that of the next ticket, which has arrived
pub record IsNextAnswer (turns : List Turn) (turn : Turn) (seq : ℕ) (answer : Answer) : Type 0 where
  pub gives : answer_in turn.1 ≡ Some (seq, answer)
  pub stays : withdrawn_in turn.0 turn.1 ≡ None
  pub next : seq ≡ next_ticket turns
  pub arrived : HasArrived turns seq
  pub answer_is : option_map value_of (slice_get (submitted turns) seq) ≡ Some answer

pub given_more : (turns : List Turn) (turn : Turn) (seq : ℕ) (answer : Answer) → answer_in turn.1 ≡ Some (seq, answer) → given (turns ++ turn ∷ []) ≡ given turns ++ (seq, answer) ∷ []
given_more turns turn seq answer some = given-push turns turn ∙ (rw some refl)

pub is_given-more : (turns : List Turn) (turn : Turn) (seq : ℕ) (answer : Answer) (i : ℕ) → answer_in turn.1 ≡ Some (seq, answer) → is_given (turns ++ turn ∷ []) i ≡ (is_given turns i || eqb seq i)
is_given-more turns turn seq answer i some =
    ap (list_any (λ (numbered : ℕ × Answer). eqb numbered.0 i)) (given_more turns turn seq answer some)
    ∙ list_any-append (λ (numbered : ℕ × Answer). eqb numbered.0 i) (given turns) ((seq, answer) ∷ [])
    ∙ ap (λ b. is_given turns i || b) (or-false (eqb seq i))

-- the numbers between the answered ticket and the next one were withdrawn
gone_between : (turns : List Turn) (turn : Turn) (seq : ℕ) (answer : Answer) → IsSound turns → IsNextAnswer turns turn seq answer → (i : ℕ) → seq < i → i < next_ticket (turns ++ turn ∷ []) → is_withdrawn turns i ≡ true
gone_between turns turn seq answer sound is_next i low high =
    let after : List Turn = turns ++ turn ∷ [] in
    let other : is_given after i ≡ false =
    is_given-more turns turn seq answer i is_next.gives
    ∙ or_from (is_given turns i) (eqb seq i) (not_given turns i sound (omega (arith, is_next.next))) (ne_eqb seq i (λ e. absurd (omega arith))) in
    let gone : is_withdrawn after i ≡ true = withdrawn-done after i other ((IsNext-next_ticket after).before i high) in
    sym (is_withdrawn-same turns turn i is_next.stays) ∙ gone

later_next : (turns : List Turn) (turn : Turn) (seq : ℕ) (answer : Answer) → IsSound turns → IsNextAnswer turns turn seq answer → seq < next_ticket (turns ++ turn ∷ [])
later_next turns turn seq answer sound is_next =
    let after : List Turn = turns ++ turn ∷ [] in
    let now = IsNext-next_ticket after in
    let m = next_ticket after in
    let size : length (submitted turns) ≤ length (submitted after) = length-submitted-push turns turn in
    let inside : seq < length (submitted turns) = HasArrived-within turns seq is_next.arrived in
    ⊎_elim (λ above. above) (λ past.
    let open_one : is_done after m ≡ false = now.stops (omega (arith, past, size, inside)) in
    let parts = or_parts (is_given after m) (is_withdrawn after m) open_one in
    let was_given = or_parts (is_given turns m) (eqb seq m) (sym (is_given-more turns turn seq answer m is_next.gives) ∙ parts.0) in
    let other : seq ≢ m = λ same. false≢true (sym was_given.1 ∙ eq-eqb seq m same) in
    let below : m < next_ticket turns = omega (arith, past, is_next.next, other) in
    let was_gone : is_withdrawn turns m ≡ false = sym (is_withdrawn-same turns turn m is_next.stays) ∙ parts.1 in
    absurd (false≢true (sym (or_from (is_given turns m) (is_withdrawn turns m) was_given.0 was_gone) ∙ (IsNext-next_ticket turns).before m below)))
    (cases_lt seq m)

IsSound-push_next : (turns : List Turn) (turn : Turn) (seq : ℕ) (answer : Answer) → IsSound turns → IsNextAnswer turns turn seq answer → IsSound (turns ++ turn ∷ [])
IsSound-push_next turns turn seq answer sound is_next =
    let after : List Turn = turns ++ turn ∷ [] in
    let jobs = map value_of (submitted after) in
    let gone : is_withdrawn after ≡ is_withdrawn turns = ap is_among (withdrawn_same turns turn is_next.stays) in
    let inside : seq < length (submitted turns) = HasArrived-within turns seq is_next.arrived in
    let there : slice_get jobs seq ≡ Some answer =
    slice_get-map value_of (submitted after) seq ∙ ap (option_map value_of) (slice_get-submitted-push turns turn seq inside) ∙ is_next.answer_is in
    let open_one : is_withdrawn turns seq ≡ false =
    subst (λ n. is_withdrawn turns n ≡ false) (sym is_next.next) (next_stays turns (omega (arith, is_next.next, inside))) in
    let later : due (is_withdrawn turns) (next_ticket after) jobs ≡ due (is_withdrawn turns) seq jobs ++ (seq, answer) ∷ [] =
    due-after_answer (is_withdrawn turns) seq (next_ticket after) jobs answer there open_one (later_next turns turn seq answer sound is_next)
    (omega (arith, next-within after, length-values after)) (gone_between turns turn seq answer sound is_next) in
    record {
      values =
          given_more turns turn seq answer is_next.gives
          ∙ ap (λ xs. xs ++ (seq, answer) ∷ []) (
          sound.values
          ∙ sym (due-push (is_withdrawn turns) turns turn (next_ticket turns) (next-within turns))
          ∙ ap (λ n. due (is_withdrawn turns) n jobs) (sym is_next.next))
          ∙ sym later
          ∙ ap (λ g. due g (next_ticket after) jobs) (sym gone);
      arrived = λ i given_one.
          ⊎_elim (λ earlier. HasArrived-push turns turn i (sound.arrived i earlier))
          (λ now. HasArrived-push turns turn i (subst (HasArrived turns) (eqb-true seq i now) is_next.arrived))
          (or_cases (is_given turns i) (eqb seq i) (sym (is_given-more turns turn seq answer i is_next.gives) ∙ given_one));
      known = λ i gone_one. omega (arith, sound.known i (sym (ap (λ g. g i) gone) ∙ gone_one), length-submitted-push turns turn);
    }

-- a turn that withdraws a ticket

-- the ticket that is withdrawn could be
pub record IsWithdrawal (turns : List Turn) (turn : Turn) (seq : ℕ) : Type 0 where
  pub gone : withdrawn_in turn.0 turn.1 ≡ Some seq
  pub none : answer_in turn.1 ≡ None
  pub can : CanWithdraw turns seq

pub is_withdrawn-more : (turns : List Turn) (turn : Turn) (seq i : ℕ) → withdrawn_in turn.0 turn.1 ≡ Some seq → is_withdrawn (turns ++ turn ∷ []) i ≡ (is_withdrawn turns i || eqb i seq)
is_withdrawn-more turns turn seq i gone =
    let more : withdrawn (turns ++ turn ∷ []) ≡ withdrawn turns ++ seq ∷ [] = withdrawn-push turns turn ∙ (rw gone refl) in
    ap (λ w. is_among w i) more
    ∙ list_any-append (λ n. eqb i n) (withdrawn turns) (seq ∷ [])
    ∙ ap (λ b. is_withdrawn turns i || b) (or-false (eqb i seq))

-- the next ticket doesn't go back
no_earlier : (turns : List Turn) (turn : Turn) (seq : ℕ) → IsWithdrawal turns turn seq → next_ticket turns ≤ next_ticket (turns ++ turn ∷ [])
no_earlier turns turn seq is =
    let after : List Turn = turns ++ turn ∷ [] in
    let m = next_ticket after in
    ⊎_elim (λ below.
    let open_one : is_done after m ≡ false = (IsNext-next_ticket after).stops (omega (arith, below, next-within turns, length-submitted-push turns turn)) in
    let parts = or_parts (is_given after m) (is_withdrawn after m) open_one in
    let was_given : is_given turns m ≡ false = sym (is_given-same turns turn m is.none) ∙ parts.0 in
    let was_gone = or_parts (is_withdrawn turns m) (eqb m seq) (sym (is_withdrawn-more turns turn seq m is.gone) ∙ parts.1) in
    absurd (false≢true (sym (or_from (is_given turns m) (is_withdrawn turns m) was_given was_gone.0) ∙ (IsNext-next_ticket turns).before m below)))
    (λ past. past) (cases_lt m (next_ticket turns))

IsSound-push_withdrawal : (turns : List Turn) (turn : Turn) (seq : ℕ) → IsSound turns → IsWithdrawal turns turn seq → IsSound (turns ++ turn ∷ [])
IsSound-push_withdrawal turns turn seq sound is =
    let after : List Turn = turns ++ turn ∷ [] in
    let jobs = map value_of (submitted after) in
    let more : (i : ℕ) → is_withdrawn after i ≡ (is_withdrawn turns i || eqb i seq) = λ i. is_withdrawn-more turns turn seq i is.gone in
    let not_done : next_ticket turns ≤ seq =
    ⊎_elim (λ below. absurd (false≢true (sym is.can.1 ∙ (IsNext-next_ticket turns).before seq below))) (λ past. past) (cases_lt seq (next_ticket turns)) in
    let same : (i : ℕ) → i < next_ticket turns → is_withdrawn turns i ≡ is_withdrawn after i = λ i below.
    let other : eqb i seq ≡ false = ne_eqb i seq (λ e. absurd (omega arith)) in
    sym (more i ∙ ap (λ b. is_withdrawn turns i || b) other ∙ or-false (is_withdrawn turns i)) in
    let gone : (i : ℕ) → next_ticket turns ≤ i → i < next_ticket after → is_withdrawn after i ≡ true = λ i low high.
    let other : is_given after i ≡ false = is_given-same turns turn i is.none ∙ not_given turns i sound low in
    withdrawn-done after i other ((IsNext-next_ticket after).before i high) in
    record {
      values =
          given_same turns turn is.none ∙ sound.values
          ∙ sym (due-push (is_withdrawn turns) turns turn (next_ticket turns) (next-within turns))
          ∙ sym (due-after_withdrawal (is_withdrawn turns) (is_withdrawn after) (next_ticket turns) (next_ticket after) jobs same (no_earlier turns turn seq is)
          (omega (arith, next-within after, length-values after)) gone);
      arrived = λ i given_one. HasArrived-push turns turn i (sound.arrived i (sym (is_given-same turns turn i is.none) ∙ given_one));
      known = λ i gone_one.
          ⊎_elim (λ before. omega (arith, sound.known i before, length-submitted-push turns turn))
          (λ now. let here : i ≡ seq = eqb-true i seq now in omega (arith, here, is.can.0, length-submitted-push turns turn))
          (or_cases (is_withdrawn turns i) (eqb i seq) (sym (more i) ∙ gone_one));
    }

-- what a legal turn is

-- one that gives and withdraws nothing, one that gives the next answer, or a withdrawal
abbrev TurnKind : List Turn → Turn → Type 0
TurnKind turns turn =
    IsQuiet turn
    ⊎ (((seq : ℕ) × (answer : Answer) × IsNextAnswer turns turn seq answer) ⊎ ((seq : ℕ) × IsWithdrawal turns turn seq))

turn_kind : (turns : List Turn) (event : Event) (replied : Reply) → ReplyOf turns event replied → TurnKind turns (event, replied)
turn_kind turns (Take table) (reply.Taken (taken.Answer seq answer)) legal =
    inr (inl (seq, answer, record { gives = refl; stays = refl; next = legal.0; arrived = legal.1; answer_is = legal.2 }))
turn_kind turns (Take table) (reply.Taken what) legal = inl (refl, refl)
turn_kind turns (Take table) replied legal = absurd legal
turn_kind turns (Withdraw ticket) (reply.Withdrawn true) legal = inr (inr (ticket.seq, record { gone = refl; none = refl; can = legal }))
turn_kind turns (Withdraw ticket) (reply.Withdrawn false) legal = inl (refl, refl)
turn_kind turns (Withdraw ticket) (reply.Refused fault.Memory) legal = inl (refl, refl)
turn_kind turns (Withdraw ticket) replied legal = absurd legal
turn_kind turns (Submit table job) (reply.Ticket ticket) legal = inl (refl, refl)
turn_kind turns (Submit table job) (reply.Refused what) legal = inl (refl, refl)
turn_kind turns (Submit table job) replied legal = absurd legal
turn_kind turns (Arrive piece) (reply.Arrived what) legal = inl (refl, refl)
turn_kind turns (Arrive piece) replied legal = absurd legal
turn_kind turns (Close table) (reply.Closed first) legal = inl (refl, refl)
turn_kind turns (Close table) replied legal = cc

pub IsSound-push : (turns : List Turn) (event : Event) (replied : Reply) → IsSound turns → ReplyOf turns event replied → IsSound (turns ++ (event, replied) ∷ [])
IsSound-push turns event replied sound legal = by_kind (turn_kind turns event replied legal)
  where
    by_kind : TurnKind turns (event, replied) → IsSound (turns ++ (event, replied) ∷ [])
    by_kind (inl quiet) = IsSound-push_same turns (event, replied) sound quiet
    by_kind (inr (inl (seq, answer, is_next))) = IsSound-push_next turns (event, replied) seq answer sound is_next
    by_kind (inr (inr (seq, is))) = IsSound-push_withdrawal turns (event, replied) seq sound is

pub turns_of-push : (table : ℕ) (history : List Turn) (turn : Turn) → turns_of table (history ++ turn ∷ []) ≡ (if eqb (table_of turn.0) table then turns_of table history ++ turn ∷ [] else turns_of table history)
turns_of-push table history turn =
    filter-append (λ t. eqb (table_of t.0) table) history (turn ∷ [])
    ∙ append-cond (eqb (table_of turn.0) table) (turns_of table history) turn

-- a turn of a table has the reply that is due after the table's own turns
own_reply : (tables table : ℕ) (history : List Turn) (turn : Turn) → table < tables → eqb (table_of turn.0) table ≡ true → DeskReplyOf tables history turn → ReplyOf (turns_of table history) turn.0 turn.1
own_reply tables table history turn within own legal =
    let same : table_of turn.0 ≡ table = eqb-true (table_of turn.0) table own in
    let in_range : ltb (table_of turn.0) tables ≡ true = lt-ltb (table_of turn.0) tables (omega arith) in
    let replied : ReplyOf (turns_of (table_of turn.0) history) turn.0 turn.1 = rw in_range at legal in
    subst (λ t. ReplyOf (turns_of t history) turn.0 turn.1) same replied

pub IsSound-nil : IsSound []
IsSound-nil = record { values = refl; arrived = λ i none. cc; known = λ i none. cc }

pub IsLegalAfter-append : (tables : ℕ) (history turns more : List Turn) → IsLegalAfter tables history turns → IsLegalAfter tables (history ++ turns) more → IsLegalAfter tables history (turns ++ more)
IsLegalAfter-append tables history [] more legal rest = rw append-nil at rest
IsLegalAfter-append tables history (turn ∷ turns) more legal rest =
    (legal.0, IsLegalAfter-append tables (history ++ turn ∷ []) turns more legal.1 (rw append_assoc rest))

pub IsLegal-push : (tables : ℕ) (history : List Turn) (turn : Turn) → IsLegal tables history → DeskReplyOf tables history turn → IsLegal tables (history ++ turn ∷ [])
IsLegal-push tables history turn legal replied = IsLegalAfter-append tables [] history (turn ∷ []) legal (replied, tt)

-- the part before some turns, and those turns after it
pub IsLegalAfter-split : (tables : ℕ) (history turns more : List Turn) → IsLegalAfter tables history (turns ++ more) → IsLegalAfter tables history turns × IsLegalAfter tables (history ++ turns) more
IsLegalAfter-split tables history [] more legal = (tt, rw append-nil legal)
IsLegalAfter-split tables history (turn ∷ turns) more legal =
    let parts = IsLegalAfter-split tables (history ++ turn ∷ []) turns more legal.1 in
    let rest : IsLegalAfter tables (history ++ (turn ∷ turns)) more = rw append_assoc at parts.1 in
    ((legal.0, parts.0), rest)

-- after some turns of a table, each of these turns of it has the reply that it must have
abbrev pub AreOwnReplies : List Turn → List Turn → Type 0
AreOwnReplies before [] = Unit {0}
AreOwnReplies before (turn ∷ turns) = ReplyOf before turn.0 turn.1 × AreOwnReplies (before ++ turn ∷ []) turns

AreOwnReplies-from_legal : (tables table : ℕ) (history rest : List Turn) → table < tables → IsLegalAfter tables history rest → AreOwnReplies (turns_of table history) (turns_of table rest)
AreOwnReplies-from_legal tables table history [] within legal = tt
AreOwnReplies-from_legal tables table history (turn ∷ rest) within legal =
    by_table (eqb (table_of turn.0) table) refl
    (subst (λ turns. AreOwnReplies turns (turns_of table rest)) (turns_of-push table history turn)
    (AreOwnReplies-from_legal tables table (history ++ turn ∷ []) rest within legal.1))
  where
    by_table : (b : Bool) → eqb (table_of turn.0) table ≡ b → AreOwnReplies (if b then turns_of table history ++ turn ∷ [] else turns_of table history) (turns_of table rest) → AreOwnReplies (turns_of table history) (cond b (turn ∷ turns_of table rest) (turns_of table rest))
    by_table false other after = after
    by_table true own after = (own_reply tables table history turn within own legal.0, after)

-- each turn of a table in a legal history has the reply that is due after those of the table before it
pub AreOwnReplies-IsLegal : (tables table : ℕ) (history : List Turn) → table < tables → IsLegal tables history → AreOwnReplies [] (turns_of table history)
AreOwnReplies-IsLegal tables table history within legal = AreOwnReplies-from_legal tables table [] history within legal

pub IsSound-replies : (before turns : List Turn) → IsSound before → AreOwnReplies before turns → IsSound (before ++ turns)
IsSound-replies before [] sound legal = rw (append-nil before) sound
IsSound-replies before (turn ∷ turns) sound legal =
    rw (← append_assoc before (turn ∷ []) turns) (IsSound-replies (before ++ turn ∷ []) turns (IsSound-push before turn.0 turn.1 sound legal.0) legal.1)

-- each table of a legal history was given the values of its jobs in order
pub IsSound-IsLegal : (tables table : ℕ) (history : List Turn) → table < tables → IsLegal tables history → IsSound (turns_of table history)
IsSound-IsLegal tables table history within legal = IsSound-replies [] (turns_of table history) IsSound-nil (AreOwnReplies-IsLegal tables table history within legal)

-- the same of a table's turns
pub AreOwnReplies-split : (before turns more : List Turn) → AreOwnReplies before (turns ++ more) → AreOwnReplies before turns × AreOwnReplies (before ++ turns) more
AreOwnReplies-split before [] more legal = (tt, rw append-nil legal)
AreOwnReplies-split before (turn ∷ turns) more legal =
    let parts = AreOwnReplies-split (before ++ turn ∷ []) turns more legal.1 in
    let rest : AreOwnReplies (before ++ (turn ∷ turns)) more = rw append_assoc at parts.1 in
    ((legal.0, parts.0), rest)
