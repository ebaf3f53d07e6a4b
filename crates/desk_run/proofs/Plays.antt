-- What each step of a table leaves of its play.
use Rattle.std.proofs.Common.{◌≡◌, ℕ, zero, suc, ◌+◌, ◌<◌, ◌≤◌, Bool, true, false, List, [], ◌∷◌, ◌++◌, length, take, drop, set, get_or, sym, refl, ap, ◌∙◌, subst, arith, length-append, append_assoc}
use Rattle.std.proofs.lemmas.Bool.{false≢true}
use Rattle.std.proofs.lemmas.List.{length-map, append-nil, nil_from_length}
use mathlib.Core.Option.{some, some-injective}
use lib.ListN.{get_elem?}
use Rattle.desk_core.specs.Value.{value_of}
use Rattle.desk_core.specs.LaneState.{LaneState, is_among, TakesInPiece, PassesWithdrawn}
use Rattle.desk_core.specs.GivesFirst.{GivesFirst}
use Rattle.desk_core.specs.Ticketed.{Ticketed}
use Rattle.desk_core.specs.declared.answer.Answer.{Answer}
use Rattle.desk_core.specs.declared.taken.Taken.TheVariants as taken
use Rattle.riichi_hand.specs.declared.job.Job.{Job}
use Rattle.desk_run.specs.Played.{IsPlayed, values, window_jobs}
use Rattle.desk_core.specs.Step.{IsStep}
use Rattle.desk_core.specs.declared.arrived.Arrived.TheVariants as arrived
use Rattle.desk_core.specs.declared.event.Event.TheVariants.{Arrive}
use Rattle.desk_core.specs.declared.reply.Reply.TheVariants as reply
use Rattle.std.specs.Prelude.{MatchBool}
use Rattle.desk_run.specs.LanePlaces.{lane_withdrew}
use Rattle.desk_run.specs.Sitting.{Receives, AreFetched, Collects}
use Rattle.desk_run.specs.declared.place_state.PlaceState.{PlaceState}
use Rattle.desk_run.specs.declared.place_state.PlaceState.TheVariants.{Vacant}
use Rattle.desk_run.proofs.LanePlaces.{some_at}

pub take-next : {A : Type 0} (n : ℕ) (list : List A) (a : A) → n < length list → a ≡ get_or list n a → take (n + 1) list ≡ take n list ++ a ∷ []
take-next zero [] a h e = absurd (omega arith)
take-next zero (x ∷ xs) a h e = ap (λ y. y ∷ []) (sym e)
take-next (suc n) [] a h e = absurd (omega arith)
take-next (suc n) (x ∷ xs) a h e = let same : suc n + 1 ≡ suc (n + 1) = omega arith in
    ap (λ (m : ℕ). take m (x ∷ xs)) same ∙ ap (λ l. x ∷ l) (take-next n xs a (omega arith) e)

pub take-whole : {A : Type 0} (list : List A) → take (length list) list ≡ list
take-whole [] = refl
take-whole (x ∷ xs) = ap (λ l. x ∷ l) (take-whole xs)

pub played_same : (lane new : LaneState) (jobs : List Job) (n : ℕ) (answers : List Answer) → new ≡ lane → IsPlayed lane jobs n answers → IsPlayed new jobs n answers
played_same lane new jobs n answers same b = subst (λ (l : LaneState). IsPlayed l jobs n answers) (sym same) b

jobs-set : (window : List (Job × Bool)) (i : ℕ) (job : Job) (a b : Bool) → get_elem? window i ≡ some (job, a) → window_jobs (set window i (job, b)) ≡ window_jobs window
jobs-set [] i job a b e = refl
jobs-set (x ∷ xs) zero job a b e = ap (λ (y : Job × Bool). y.0 ∷ window_jobs xs) (sym (some-injective x (job, a) e))
jobs-set (x ∷ xs) (suc i) job a b e = ap (λ (l : List Job). x.0 ∷ l) (jobs-set xs i job a b e)

played_taken_in : (lane new : LaneState) (jobs : List Job) (n : ℕ) (answers : List Answer) (piece : Ticketed) → TakesInPiece lane piece new → IsPlayed lane jobs n answers → IsPlayed new jobs n answers
played_taken_in lane new jobs n answers piece t b = subst (λ (l : LaneState). IsPlayed l jobs n answers) (sym t.3) (record {
  given = ap (λ (l : List Job). answers ++ values l) (jobs-set lane.window t.0 piece.job false true (some_at lane.window t.0 (piece.job, false) t.2)) ∙ b.given;
  within = b.within;
  none_withdrawn = b.none_withdrawn;
  all = b.all;
})

-- where none was withdrawn, each piece is accepted
played_received : (lane new : LaneState) (jobs : List Job) (n : ℕ) (answers : List Answer) (piece : Ticketed) → Receives lane piece new → IsPlayed lane jobs n answers → IsPlayed new jobs n answers
played_received lane new jobs n answers piece r b =
    let live : lane_withdrew lane piece.ticket.seq ≡ false = ap (λ (l : List ℕ). is_among l piece.ticket.seq) b.none_withdrawn in
    let accepted = subst (λ (gone : Bool). MatchBool gone ((new ≡ lane) × IsStep lane (Arrive piece) (reply.Arrived arrived.Withdrawn) new) (TakesInPiece lane piece new × IsStep lane (Arrive piece) (reply.Arrived arrived.Accepted) new)) live r in
    played_taken_in lane new jobs n answers piece accepted.0 b

played_fetched : (ps : List Ticketed) (lane new : LaneState) (states more : List PlaceState) (jobs : List Job) (n : ℕ) (answers : List Answer) → AreFetched ps lane states new more → IsPlayed lane jobs n answers → IsPlayed new jobs n answers
played_fetched [] lane new states more jobs n answers f b = played_same lane new jobs n answers f.0 b
played_fetched (p ∷ ps) lane new states more jobs n answers f b = played_fetched ps f.1 new (set states f.0 Vacant) more jobs n answers f.4 (played_received lane f.1 jobs n answers p f.3 b)

pub played_collected : (count : ℕ) (lane new : LaneState) (states more : List PlaceState) (jobs : List Job) (n : ℕ) (answers : List Answer) → Collects count lane states new more → IsPlayed lane jobs n answers → IsPlayed new jobs n answers
played_collected count lane new states more jobs n answers c b = played_fetched c.0 lane new states more jobs n answers c.2 b

no_count : (count : ℕ) (lane : LaneState) → lane.withdrawn ≡ [] → ((i : ℕ) → i < count → is_among lane.withdrawn (lane.next + i) ≡ true) → count ≡ 0
no_count zero lane none each = refl
no_count (suc count) lane none each = absurd (false≢true (sym (ap (λ (l : List ℕ). is_among l (lane.next + 0)) none) ∙ each 0 (omega arith)))

-- where none was withdrawn, none is passed
none_passed : (lane new : LaneState) → lane.withdrawn ≡ [] → PassesWithdrawn lane new → new ≡ lane
none_passed lane new none p = let n : ℕ = lane.next in let zero_more : n + 0 ≡ n = omega arith in
    p.new_is ∙ ap (λ (c : ℕ). record lane { next = n + c; window = drop c lane.window }) (no_count p.count lane none p.each) ∙ ap (λ (m : ℕ). record lane { next = m }) zero_more

pub played_given : (lane new : LaneState) (jobs : List Job) (n seq : ℕ) (answers more : List Answer) (answer : Answer) → GivesFirst lane (taken.Answer seq answer) new → more ≡ answers ++ answer ∷ []
    → IsPlayed lane jobs n answers → IsPlayed new jobs n more
played_given lane new jobs n seq answers more answer g e b = subst (λ (l : List Answer). IsPlayed new jobs n l) (sym e) (subst (λ (l : LaneState). IsPlayed l jobs n (answers ++ answer ∷ []))
    (sym (none_passed (record lane { next = lane.next + 1; window = g.1 }) new b.none_withdrawn g.5)) (record {
      given = append_assoc answers (answer ∷ []) (values (window_jobs g.1)) ∙ ap (λ (a : Answer). answers ++ a ∷ values (window_jobs g.1)) g.4
          ∙ ap (λ (l : List (Job × Bool)). answers ++ values (window_jobs l)) (sym g.2) ∙ b.given;
      within = b.within;
      none_withdrawn = b.none_withdrawn;
      all = b.all;
    }))

length-taken : (n : ℕ) (jobs : List Job) → n ≤ length jobs → length (take n jobs) ≡ n
length-taken zero jobs h = refl
length-taken (suc n) [] h = absurd (omega arith)
length-taken (suc n) (x ∷ xs) h = ap suc (length-taken n xs (omega arith))

-- where an answer is given, there was one to come
pub room_for : (lane new : LaneState) (jobs : List Job) (n seq : ℕ) (answers : List Answer) (answer : Answer) → GivesFirst lane (taken.Answer seq answer) new → IsPlayed lane jobs n answers → length answers < length jobs
room_for lane new jobs n seq answers answer g b =
    let first : answers ++ value_of g.0 ∷ values (window_jobs g.1) ≡ values (take n jobs) = ap (λ (l : List (Job × Bool)). answers ++ values (window_jobs l)) (sym g.2) ∙ b.given in
    let long : length (answers ++ value_of g.0 ∷ values (window_jobs g.1)) ≡ length (values (take n jobs)) = ap (λ (l : List Answer). length l) first in
    let a = length-append answers (value_of g.0 ∷ values (window_jobs g.1)) in let m = length-map (take n jobs) value_of in let l = length-taken n jobs b.within in let w = b.within in omega arith

-- a table that has as many answers as it has jobs was given them all
pub all_given : (lane : LaneState) (jobs : List Job) (next : ℕ) (answers : List Answer) → IsPlayed lane jobs next answers → length answers ≡ length jobs → answers ≡ values jobs
all_given lane jobs next answers p same =
    let left : List Answer = values (window_jobs lane.window) in
    let lengths = ap length p.given in let parts = length-append answers left in let each = length-map (take next jobs) value_of in
    let first = length-taken next jobs p.within in let within = p.within in
    let none : left ≡ [] = nil_from_length left (omega arith) in
    let all : next ≡ length jobs = omega arith in
    sym (append-nil answers) ∙ ap (λ (l : List Answer). answers ++ l) (sym none) ∙ p.given ∙ ap (λ (n : ℕ). values (take n jobs)) all ∙ ap values (take-whole jobs)
