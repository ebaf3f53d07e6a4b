-- The players of a run: how they are made, play in turn, and are let go.
use Rattle.std.proofs.Common.{◌≡◌, ℕ, ◌+◌, ◌-◌, ◌<◌, ◌≤◌, List, [], ◌∷◌, ◌++◌, length, map, take, set, get_or, reverse, sym, refl, ap, ◌∙◌, subst, arith, ⊎_elim, append-nil, append_assoc, length-append}
use Rattle.std.proofs.lemmas.List.{map_push, reverse-append, length-map, length-reverse}
use lib.ListN.{get_elem?}
use Rattle.std.specs.Global.{Vec}
use Rattle.atomic_table.proofs.Lists.{at_set, at_last, at_longer}
use Rattle.desk_core.specs.declared.answer.Answer.{Answer}
use Rattle.riichi_hand.specs.declared.job.Job.{Job}
use Rattle.desk_run.specs.Played.{values}
use Rattle.desk_run.specs.Players.{job_lists, AreDone}
use Rattle.desk_run.specs.declared.player.Player.{Player}
use Rattle.desk_run.proofs.Plays.{take-next, take-whole}
use Rattle.desk_run.proofs.WorkerThreads.{reversed_more}

-- the lists of these tables
abbrev items_of : List (Vec Job) → List (List Job)
items_of jobs = map (λ list. list.items) jobs

pub seated_none : (jobs : List (Vec Job)) (players : List Player) → players ≡ [] → items_of (take (length jobs) jobs) ++ reverse (job_lists players) ≡ items_of jobs
seated_none jobs players none = ap (λ (l : List Player). items_of (take (length jobs) jobs) ++ reverse (job_lists l)) none ∙ append-nil (items_of (take (length jobs) jobs)) ∙ ap items_of (take-whole jobs)

pub seated_more : (jobs : List (Vec Job)) (t : ℕ) (all : List (List Job)) (players more : List Player) (player : Player) (list : Vec Job) → 0 < t → t ≤ length jobs → list ≡ get_or jobs (t - 1) list
    → player.jobs.now ≡ list.items → more ≡ players ++ player ∷ [] → items_of (take t jobs) ++ reverse (job_lists players) ≡ all → items_of (take (t - 1) jobs) ++ reverse (job_lists more) ≡ all
seated_more jobs t all players more player list some_left near at is e b =
    let same : t ≡ t - 1 + 1 = omega arith in
    let last : items_of (take t jobs) ≡ items_of (take (t - 1) jobs) ++ list.items ∷ []
    = ap (λ (m : ℕ). items_of (take m jobs)) same ∙ ap items_of (take-next (t - 1) jobs list (omega arith) at) ∙ map_push (λ (v : Vec Job). v.items) (take (t - 1) jobs) list in
    reversed_more (λ (p : Player). p.jobs.now) (items_of (take t jobs)) (items_of (take (t - 1) jobs)) all players more list.items player last is e b

pub seated_all : (jobs : List (Vec Job)) (t : ℕ) (rest all : List (List Job)) → t ≡ 0 → items_of (take t jobs) ++ rest ≡ all → rest ≡ all
seated_all jobs t rest all none b = ap (λ (m : ℕ). items_of (take m jobs) ++ rest) (sym none) ∙ b

pub done_none : (players : List Player) → AreDone 0 players
done_none players i player lt at = absurd (omega arith)

pub done_more : (n : ℕ) (players more : List Player) (player : Player) → AreDone n players → more ≡ set players n player → player.answers.items ≡ values player.jobs.now → AreDone (n + 1) more
done_more n players more player old e new i p lt at = ⊎_elim (λ h. subst (λ (x : Player). x.answers.items ≡ values x.jobs.now) h.1 new)
    (λ h. let other = h.0 in old i p (omega arith) h.1) (at_set players n i player p (ap (λ (l : List Player). get_elem? l i) (sym e) ∙ at))

pub done_last : (players fewer : List Player) (player : Player) → players ≡ fewer ++ player ∷ [] → AreDone (length players) players → player.answers.items ≡ values player.jobs.now
done_last players fewer player e done = let long = ap (λ (l : List Player). length l) e in let sum = length-append fewer (player ∷ []) in
    done (length fewer) player (omega arith) (ap (λ (l : List Player). get_elem? l (length fewer)) e ∙ at_last fewer player (length fewer) refl)

pub done_fewer : (players fewer : List Player) (player : Player) → players ≡ fewer ++ player ∷ [] → AreDone (length players) players → AreDone (length fewer) fewer
done_fewer players fewer player e done i p lt at = let long = ap (λ (l : List Player). length l) e in let sum = length-append fewer (player ∷ []) in
    done i p (omega arith) (ap (λ (l : List Player). get_elem? l i) e ∙ at_longer fewer (player ∷ []) i p at)

-- the last player was let go, and its answers put after those of the players after it
pub given_more : (answers more : List (Vec Answer)) (players fewer : List Player) (player : Player) (given : Vec Answer) (all : List (List Answer)) → players ≡ fewer ++ player ∷ []
    → more ≡ answers ++ given ∷ [] → given.items ≡ values player.jobs.now → map (λ v. v.items) answers ++ reverse (map values (job_lists players)) ≡ all
    → map (λ v. v.items) more ++ reverse (map values (job_lists fewer)) ≡ all
given_more answers more players fewer player given all e m is b =
    let rest : List (List Answer) = reverse (map values (job_lists fewer)) in
    let front : List (List Answer) = map (λ (v : Vec Answer). v.items) answers in
    let back : front ++ reverse (map values (job_lists players)) ≡ front ++ values player.jobs.now ∷ rest
    = ap (λ (l : List Player). front ++ reverse (map values (job_lists l))) e
    ∙ ap (λ (l : List (List Job)). front ++ reverse (map values l)) (map_push (λ (p : Player). p.jobs.now) fewer player)
    ∙ ap (λ (l : List (List Answer)). front ++ reverse l) (map_push values (job_lists fewer) player.jobs.now)
    ∙ ap (λ (l : List (List Answer)). front ++ l) (reverse-append (map values (job_lists fewer)) (values player.jobs.now ∷ [])) in
    ap (λ (l : List (Vec Answer)). map (λ v. v.items) l ++ rest) m
    ∙ ap (λ (l : List (List Answer)). l ++ rest) (map_push (λ (v : Vec Answer). v.items) answers given)
    ∙ append_assoc front (given.items ∷ []) rest
    ∙ ap (λ (a : List Answer). front ++ a ∷ rest) is
    ∙ sym back ∙ b

pub given_out : (answers : List (List Answer)) (players : List Player) (all : List (List Answer)) → length players ≡ 0 → answers ++ reverse (map values (job_lists players)) ≡ all → answers ≡ all
given_out answers [] all none b = sym (append-nil answers) ∙ b
given_out answers (x ∷ xs) all none b = absurd (omega arith)

reverse-map : {A B : Type 0} (f : A → B) (list : List A) → reverse (map f list) ≡ map f (reverse list)
reverse-map f [] = refl
reverse-map f (x ∷ xs) = reverse-append (f x ∷ []) (map f xs) ∙ ap (λ l. l ++ f x ∷ []) (reverse-map f xs) ∙ sym (map_push f (reverse xs) x) ∙ ap (map f) (sym (reverse-append (x ∷ []) xs))

values-items : (jobs : List (Vec Job)) → map values (items_of jobs) ≡ map (λ list. values list.items) jobs
values-items [] = refl
values-items (x ∷ xs) = ap (λ l. values x.items ∷ l) (values-items xs)

-- what the players were given is what the tables had to be given
pub given_all : (jobs : List (Vec Job)) (players seated : List Player) → reverse (job_lists seated) ≡ items_of jobs → job_lists players ≡ job_lists seated
    → reverse (map values (job_lists players)) ≡ map (λ list. values list.items) jobs
given_all jobs players seated all same = reverse-map values (job_lists players) ∙ ap (λ (l : List (List Job)). map values (reverse l)) same ∙ ap (map values) all ∙ values-items jobs

pub as_many : (jobs : List (Vec Job)) (players seated : List Player) → reverse (job_lists seated) ≡ items_of jobs → job_lists players ≡ job_lists seated → length players ≡ length jobs
as_many jobs players seated all same =
    let a = ap (λ (l : List (List Job)). length l) all in let b = ap (λ (l : List (List Job)). length l) same in
    let c = length-reverse (job_lists seated) in let d = length-map jobs (λ (v : Vec Job). v.items) in let e = length-map players (λ (p : Player). p.jobs.now) in omega arith
