-- The promise of a whole run.
use Rattle.std.proofs.Common.{◌≡◌, ℕ, suc, ◌<◌, List, [], ◌∷◌, ◌++◌, length, take, drop, map, Some, refl, sym, ap, ◌∙◌, ⊎_elim, arith, not, filter, length-append, length-drop}
use Rattle.std.specs.Prelude.{slice_get, option_map}
use Rattle.std.specs.List.{enumerate_from}
use Rattle.std.proofs.lemmas.Bool.{cases_lt}
use Rattle.std.proofs.lemmas.List.{nil_from_length}
use Rattle.desk_core.proofs.Lists.{drop-get}
use Rattle.desk_core.proofs.Due.{due-all}
use Rattle.desk_core.proofs.Histories.{HasArrived-push, withdrawn_same}
use Rattle.desk_core.proofs.Facts.{IsSound, IsSound-IsLegal, IsSound-replies, IsSound-push, IsSound-nil, in_order, next_stays, given_more, length-values, AreOwnReplies, AreOwnReplies-IsLegal, AreOwnReplies-split}
use Rattle.desk_core.proofs.Steps.{submits_nothing}
use Rattle.desk_core.specs.Value.{value_of}
use Rattle.desk_core.specs.LaneState.{is_among}
use Rattle.desk_core.specs.History.{Turn, turns_of, submitted, is_withdrawn, HasArrived, given, answer_in, answers_due, next_ticket, TakeReply, IsLegal}
use Rattle.desk_core.specs.Desk.{AllArrived, answers_left, takings, KeepsItsPromise}
use Rattle.desk_core.specs.declared.answer.Answer.{Answer}
use Rattle.desk_core.specs.declared.event.Event.TheVariants.{Take}
use Rattle.desk_core.specs.declared.reply.Reply.{Reply}
use Rattle.desk_core.specs.declared.reply.Reply.TheVariants as reply
use Rattle.desk_core.specs.declared.taken.Taken.TheVariants as taken

abbrev answered : ℕ × Answer → Reply
answered answer = reply.Taken (taken.Answer answer.0 answer.1)

-- a taking where a piece has arrived answers
answer-from_arrived : (turns : List Turn) (replied : Reply) → HasArrived turns (next_ticket turns) → TakeReply turns replied → (answer : Answer) × (replied ≡ answered (next_ticket turns, answer)) × (option_map value_of (slice_get (submitted turns) (next_ticket turns)) ≡ Some answer)
answer-from_arrived turns (reply.Taken (taken.Answer seq answer)) has legal =
    (answer, ap (λ n. answered (n, answer)) legal.0, rw (← legal.0) legal.2)
answer-from_arrived turns (reply.Taken what) has legal = absurd (legal.0 has)
answer-from_arrived turns replied has legal = absurd legal

-- where answers are left, the next ticket was given out
next_is_there : (turns : List Turn) → IsSound turns → 0 < length (answers_left turns) → next_ticket turns < length (submitted turns)
next_is_there turns sound more =
    ⊎_elim (λ here. here) (λ past.
    let all : given turns ≡ answers_due turns =
    sound.values ∙ due-all (is_withdrawn turns) (next_ticket turns) (map value_of (submitted turns)) (omega (arith, past, length-values turns)) in
    absurd (omega (arith, more, length-drop (length (given turns)) (answers_due turns), ap length all)))
    (cases_lt (next_ticket turns) (length (submitted turns)))

-- an element of a front of a list stands there in the list
front_get : {X : Type 0} (xs ys : List X) (x : X) → xs ++ x ∷ [] ≡ take (length (xs ++ x ∷ [])) ys → slice_get ys (length xs) ≡ Some x
front_get [] [] x same = cc
front_get [] (y ∷ ys) x same = cc
front_get (z ∷ xs) [] x same = cc
front_get (z ∷ xs) (y ∷ ys) x same = front_get xs ys x (tail_same same)
  where
    tail_same : {Y : Type 0} {u v : Y} {us vs : List Y} → u ∷ us ≡ v ∷ vs → us ≡ vs
    tail_same e = cc

takings_answer : (table : ℕ) (before : List Turn) (replies : List Reply) → IsSound before → AreOwnReplies before (takings table replies) → AllArrived before → length replies ≡ length (answers_left before) → replies ≡ map answered (answers_left before)
takings_answer table before [] sound legal all count =
    ap (map answered) (sym (nil_from_length (answers_left before) (sym count)))
takings_answer table before (replied ∷ replies) sound legal all count =
    let turn : Turn = (Take table, replied) in
    let after : List Turn = before ++ turn ∷ [] in
    let next = next_ticket before in
    let inside : next < length (submitted before) = next_is_there before sound (omega (arith, count)) in
    let has : HasArrived before next = all next inside (next_stays before inside) in
    let found = answer-from_arrived before replied has legal.0 in
    let answer : Answer = found.0 in
    let jobs : submitted after ≡ submitted before = submits_nothing before turn refl in
    let gone : is_withdrawn after ≡ is_withdrawn before = ap is_among (withdrawn_same before turn refl) in
    let due : answers_due after ≡ answers_due before =
    ap (λ g. filter (λ (n : ℕ × Answer). not (g n.0)) (enumerate_from 0 (map value_of (submitted after)))) gone
    ∙ ap (λ xs. filter (λ (n : ℕ × Answer). not (is_withdrawn before n.0)) (enumerate_from 0 (map value_of xs))) jobs in
    let some : answer_in replied ≡ Some (next, answer) = ap answer_in found.1 in
    let more : given after ≡ given before ++ (next, answer) ∷ [] = given_more before turn next answer some in
    let sound' : IsSound after = IsSound-push before (Take table) replied sound legal.0 in
    let front : given before ++ (next, answer) ∷ [] ≡ take (length (given before ++ (next, answer) ∷ [])) (answers_due before) =
    sym more ∙ in_order after sound' ∙ ap (λ g. take (length g) (answers_due after)) more ∙ ap (take (length (given before ++ (next, answer) ∷ []))) due in
    let there : slice_get (answers_due before) (length (given before)) ≡ Some (next, answer) = front_get (given before) (answers_due before) (next, answer) front in
    let rest : answers_left before ≡ (next, answer) ∷ drop (suc (length (given before))) (answers_due before) =
    drop-get (length (given before)) (answers_due before) (next, answer) there in
    let longer : length (given after) ≡ suc (length (given before)) = ap length more ∙ (rw length-append (omega arith)) in
    let left : answers_left after ≡ drop (suc (length (given before))) (answers_due before) =
    ap (λ n. drop n (answers_due after)) longer ∙ ap (drop (suc (length (given before)))) due in
    let all' : AllArrived after = λ i below stays.
    HasArrived-push before turn i (all i (omega (arith, below, ap length jobs)) (sym (ap (λ g. g i) gone) ∙ stays)) in
    let count' : length replies ≡ length (answers_left after) = omega (arith, count, ap length rest, ap length left) in
    let later : replies ≡ map answered (answers_left after) = takings_answer table after replies sound' legal.1 all' count' in
    ap (λ r. r ∷ replies) found.1
    ∙ ap (λ rs. answered (next, answer) ∷ rs) (later ∙ ap (map answered) left)
    ∙ ap (map answered) (sym rest)

pub KeepsItsPromise_IsLegal : (tables : ℕ) (history : List Turn) → IsLegal tables history → KeepsItsPromise tables history
KeepsItsPromise_IsLegal tables history legal =
    record {
      legal = legal;
      in_order = λ table within. in_order (turns_of table history) (IsSound-IsLegal tables table history within legal);
      gives_all = λ table within before replies rest same all count.
          let own : AreOwnReplies [] (turns_of table history) = AreOwnReplies-IsLegal tables table history within legal in
          let whole : AreOwnReplies [] ((before ++ takings table replies) ++ rest) = rw same own in
          let front = AreOwnReplies-split [] (before ++ takings table replies) rest whole in
          let parts = AreOwnReplies-split [] before (takings table replies) front.0 in
          takings_answer table before replies (IsSound-replies [] before IsSound-nil parts.0) parts.1 all count;
    }
