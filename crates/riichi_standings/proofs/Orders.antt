-- The order of results changes nothing.
use Rattle.std.proofs.Common.{◌≡◌, ◌∙◌, ℕ, ◌+◌, suc, List, [], ◌∷◌, length, map, Bool, true, false, cond, refl, sym, ap, arith}
use Rattle.std.specs.Prelude.{All, IsPermutation, fold, sum_by, count_by, ◌&&◌, ◌==◌, int_lt, ℤ, pos, negsuc, ◌+ℤ◌, ◌-ℤ◌, ◌≤ℤ◌}
use Rattle.std.specs.List.{range_with_len}
use Rattle.std.proofs.lemmas.Int.{ints}
use Rattle.std.proofs.lemmas.List.Elements.{All-head, All-tail, All-cons, All-nil}
use Rattle.std.proofs.lemmas.List.Sorted.{All-permutation, IsPermutation-sym, sum_by-IsPermutation}
use Rattle.std.proofs.lemmas.List.Sums.{sum_by_from}
use Rattle.riichi_standings.specs.Laws.{OrderOfResultsIsFree}
use Rattle.riichi_standings.specs.Standings.{each_standing}
use Rattle.riichi_standings.specs.Tallies.{is_of, points_for, total_points_of, better_of, best_points_of, results_tally}
use Rattle.riichi_standings.specs.declared.result.SeatResult.{SeatResult}

-- ---- totals

-- how far a number is above 0, and how far below
abbrev plus : ℤ → ℕ
plus (pos n) = n
plus (negsuc n) = 0

abbrev minus : ℤ → ℕ
minus (pos n) = 0
minus (negsuc n) = suc n

split : (z : ℤ) → z ≡ pos (plus z) -ℤ pos (minus z)
split (pos n) = omega (arith, ints)
split (negsuc n) = omega (arith, ints)

fold_split : {X : Type 0} (f : X → ℤ) (a : ℤ) (xs : List X) →
    fold (λ (total : ℤ) (x : X). total +ℤ f x) a xs ≡ (a +ℤ pos (sum_by (λ (x : X). plus (f x)) xs)) -ℤ pos (sum_by (λ (x : X). minus (f x)) xs)
fold_split f a [] = omega (arith, ints)
fold_split {X} f a (x ∷ xs) =
    let up = sum_by_from (λ (x : X). plus (f x)) (0 + plus (f x)) xs in
    let down = sum_by_from (λ (x : X). minus (f x)) (0 + minus (f x)) xs in
    let own = split (f x) in
    fold_split f (a +ℤ f x) xs ∙ omega (arith, ints)

total_order : (player : ℕ) (one other : List SeatResult) → IsPermutation one other → total_points_of player one ≡ total_points_of player other
total_order player one other same =
    let f = λ (seat : SeatResult). points_for player seat in
    let up = sum_by-IsPermutation (λ (seat : SeatResult). plus (points_for player seat)) one other same in
    let down = sum_by-IsPermutation (λ (seat : SeatResult). minus (points_for player seat)) one other same in
    fold_split (points_for player) (pos 0) one
    ∙ ap (λ (n : ℕ). (pos 0 +ℤ pos n) -ℤ pos (sum_by (λ (seat : SeatResult). minus (points_for player seat)) one)) (sym up)
    ∙ ap (λ (n : ℕ). (pos 0 +ℤ pos (sum_by (λ (seat : SeatResult). plus (points_for player seat)) other)) -ℤ pos n) (sym down)
    ∙ sym (fold_split (points_for player) (pos 0) other)

count_order : (test : SeatResult → Bool) (one other : List SeatResult) → IsPermutation one other → count_by test one ≡ count_by test other
count_order test one other same = sym (sum_by-IsPermutation (λ (seat : SeatResult). cond (test seat) 1 0) one other same)

-- ---- the best game

abbrev IsWithin : ℕ → ℤ → SeatResult → Type 0
IsWithin player most seat = is_of player seat ≡ true → seat.points ≤ℤ most

better_within : (player : ℕ) (best most : ℤ) (seat : SeatResult) → best ≤ℤ most → IsWithin player most seat → better_of player best seat ≤ℤ most
better_within player best most seat least within =
    elim (is_of player seat) as (λ (own : Bool). (own ≡ true → seat.points ≤ℤ most) → cond (own && int_lt best seat.points) seat.points best ≤ℤ most) [
      | true ↦ λ h. elim (int_lt best seat.points) as (λ (more : Bool). cond more seat.points best ≤ℤ most) [ true ↦ h refl | false ↦ least ]
      | false ↦ λ h. least
    ] within

best_within : (player : ℕ) (best most : ℤ) (results : List SeatResult) → best ≤ℤ most → All (IsWithin player most) results → fold (better_of player) best results ≤ℤ most
best_within player best most [] least all = least
best_within player best most (seat ∷ results) least all =
    best_within player (better_of player best seat) most results (better_within player best most seat least (All-head (IsWithin player most) seat results all)) (All-tail (IsWithin player most) seat results all)

more_than : (best points : ℤ) (more : Bool) → int_lt best points ≡ more → (best ≤ℤ cond more points best) × (points ≤ℤ cond more points best)
more_than best points true is = (grind (arith, ints), omega (arith, ints))
more_than best points false is = (omega (arith, ints), grind (arith, ints))

better_than : (player : ℕ) (best : ℤ) (seat : SeatResult) → (best ≤ℤ better_of player best seat) × IsWithin player (better_of player best seat) seat
better_than player best seat =
    elim (is_of player seat) as (λ (own : Bool). (best ≤ℤ cond (own && int_lt best seat.points) seat.points best) × (own ≡ true → seat.points ≤ℤ cond (own && int_lt best seat.points) seat.points best)) [
      | true ↦ let more = more_than best seat.points (int_lt best seat.points) refl in (more.0, λ _. more.1)
      | false ↦ (omega (arith, ints), λ no. cc)
    ]

best_than : (player : ℕ) (best : ℤ) (results : List SeatResult) → (best ≤ℤ fold (better_of player) best results) × All (IsWithin player (fold (better_of player) best results)) results
best_than player best [] = (omega (arith, ints), All-nil (IsWithin player best))
best_than player best (seat ∷ results) =
    let now = better_of player best seat in
    let most = fold (better_of player) now results in
    let own = better_than player best seat in
    let rest = best_than player now results in (
      (let first = own.0 in let later_session = rest.0 in omega (arith, ints)),
      All-cons (IsWithin player most) seat results (λ is. let first = own.1 is in let later_session = rest.0 in omega (arith, ints)) rest.1,
    )

best_no_less : (player : ℕ) (one other : List SeatResult) → IsPermutation other one → best_points_of player one ≤ℤ best_points_of player other
best_no_less player one other same =
    let than = best_than player (negsuc 2147483647) other in
    best_within player (negsuc 2147483647) (best_points_of player other) one than.0 (All-permutation (IsWithin player (best_points_of player other)) other one same than.1)

best_order : (player : ℕ) (one other : List SeatResult) → IsPermutation one other → best_points_of player one ≡ best_points_of player other
best_order player one other same =
    let less = best_no_less player one other (IsPermutation-sym one other same) in
    let more = best_no_less player other one same in
    omega (arith, ints)

-- ---- together

pub tally_order : (one other : List SeatResult) → IsPermutation one other → (player : ℕ) → results_tally player one ≡ results_tally player other
tally_order one other same player =
    let total = total_order player one other same in
    let games = count_order (is_of player) one other same in
    let firsts = count_order (λ (seat : SeatResult). is_of player seat && seat.place == 1) one other same in
    let best = best_order player one other same in
    cc

tallies_order : (one other : List SeatResult) → IsPermutation one other → (players : List ℕ) → map (λ (player : ℕ). results_tally player one) players ≡ map (λ (player : ℕ). results_tally player other) players
tallies_order one other same [] = refl
tallies_order one other same (player ∷ players) =
    let own = tally_order one other same player in
    let rest = tallies_order one other same players in
    cc

pub order_is_free : OrderOfResultsIsFree
order_is_free ties names one other same = ap (each_standing ties names) (tallies_order one other same (range_with_len 0 (length names)))
