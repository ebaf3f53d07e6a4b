-- Totals as sums.
use Rattle.std.proofs.Common.{◌≡◌, ◌∙◌, ◌⊎◌, inl, inr, ℕ, ◌+◌, ◌<◌, ◌≤◌, ◌==◌, zero, suc, List, [], ◌∷◌, Bool, true, false, cond, refl, sym, ap, arith}
use Rattle.std.specs.Prelude.{All, filter, fold, ℤ, pos, ◌+ℤ◌}
use Rattle.std.specs.List.{range_with_len}
use Rattle.std.proofs.lemmas.Int.{ints}
use Rattle.std.proofs.lemmas.List.Elements.{All-head, All-tail}
use Rattle.riichi_standings.specs.Laws.{sum_of, TotalIsTheSum, TotalsAreAllPoints}
use Rattle.riichi_standings.specs.Tallies.{is_of, points_for, total_points_of}
use Rattle.riichi_standings.specs.declared.result.SeatResult.{SeatResult}

-- a fold that adds up
pub fold_sum : {X : Type 0} (f : X → ℤ) (a : ℤ) (xs : List X) → fold (λ (total : ℤ) (x : X). total +ℤ f x) a xs ≡ a +ℤ sum_of f xs
fold_sum f a [] = omega (arith, ints)
fold_sum f a (x ∷ xs) =
    let rest = fold_sum f (a +ℤ f x) xs in
    rest ∙ omega (arith, ints)

pub total_sum : (player : ℕ) (results : List SeatResult) → total_points_of player results ≡ sum_of (points_for player) results
total_sum player results =
    let sum = fold_sum (points_for player) (pos 0) results in
    sum ∙ omega (arith, ints)

own_points : (player : ℕ) (seat : SeatResult) (rest : List SeatResult) (b : Bool) → cond b seat.points (pos 0) +ℤ sum_of (λ (one : SeatResult). one.points) rest ≡ sum_of (λ (one : SeatResult). one.points) (cond b (seat ∷ rest) rest)
own_points player seat rest true = refl
own_points player seat rest false = omega (arith, ints)

own_sum : (player : ℕ) (results : List SeatResult) → sum_of (points_for player) results ≡ sum_of (λ (seat : SeatResult). seat.points) (filter (is_of player) results)
own_sum player [] = refl
own_sum player (seat ∷ results) = ap (λ (rest : ℤ). points_for player seat +ℤ rest) (own_sum player results) ∙ own_points player seat (filter (is_of player) results) (is_of player seat)

pub total_is_the_sum : TotalIsTheSum
total_is_the_sum player results = total_sum player results ∙ own_sum player results

-- ---- all players together

nat_cases : (from player : ℕ) → from ≤ player → (from ≡ player) ⊎ (from < player)
nat_cases from player least = grind arith

sum_none : (ps : List ℕ) → sum_of (λ (player : ℕ). pos 0) ps ≡ pos 0
sum_none [] = refl
sum_none (p ∷ ps) = let rest = sum_none ps in omega (arith, ints)

sum_both : (f g : ℕ → ℤ) (ps : List ℕ) → sum_of (λ (p : ℕ). f p +ℤ g p) ps ≡ sum_of f ps +ℤ sum_of g ps
sum_both f g [] = omega (arith, ints)
sum_both f g (p ∷ ps) = let rest = sum_both f g ps in omega (arith, ints)

sum_same : (f g : ℕ → ℤ) → ((p : ℕ) → f p ≡ g p) → (ps : List ℕ) → sum_of f ps ≡ sum_of g ps
sum_same f g same [] = refl
sum_same f g same (p ∷ ps) = let rest = sum_same f g same ps in let one = same p in omega (arith, ints)

-- one value among zeros
abbrev at : ℕ → ℤ → ℕ → ℤ
at player points p = cond (player == p) points (pos 0)

other_at : (player p : ℕ) (points : ℤ) → player < p → at player points p ≡ pos 0
other_at player p points less = grind arith

later_at : (player p : ℕ) (points : ℤ) → p < player → at player points p ≡ pos 0
later_at player p points less = grind arith

own_at : (player p : ℕ) (points : ℤ) → player ≡ p → at player points p ≡ points
own_at player p points same = grind arith

sum_below : (player : ℕ) (points : ℤ) (from count : ℕ) → player < from → sum_of (at player points) (range_with_len from count) ≡ pos 0
sum_below player points from zero less = refl
sum_below player points from (suc count) less =
    let rest = sum_below player points (from + 1) count (omega arith) in
    let none = other_at player from points less in
    omega (arith, ints)

sum_one : (player : ℕ) (points : ℤ) (from count : ℕ) → from ≤ player → player < from + count → sum_of (at player points) (range_with_len from count) ≡ points
sum_one player points from zero least most = absurd (omega arith)
sum_one player points from (suc count) least most =
    elim (nat_cases from player least) [
      | inl same ↦
          let own = own_at player from points (sym same) in
          let rest = sum_below player points (from + 1) count (omega (arith, same)) in
          omega (arith, ints)
      | inr less ↦
          let none = later_at player from points less in
          let rest = sum_one player points (from + 1) count (omega (arith, less)) (omega arith) in
          omega (arith, ints)
    ]

totals_by_seat : (players : ℕ) (results : List SeatResult) → All (λ (seat : SeatResult). seat.player < players) results
    → sum_of (λ (player : ℕ). sum_of (points_for player) results) (range_with_len 0 players) ≡ sum_of (λ (seat : SeatResult). seat.points) results
totals_by_seat players [] all = sum_none (range_with_len 0 players)
totals_by_seat players (seat ∷ results) all =
    let ps = range_with_len 0 players in
    let both = sum_both (at seat.player seat.points) (λ (player : ℕ). sum_of (points_for player) results) ps in
    let own = sum_one seat.player seat.points 0 players (omega arith) (omega (arith, All-head (λ (one : SeatResult). one.player < players) seat results all)) in
    let rest = totals_by_seat players results (All-tail (λ (one : SeatResult). one.player < players) seat results all) in
    both ∙ omega (arith, ints)

pub totals_are_all_points : TotalsAreAllPoints
totals_are_all_points players results all =
    sum_same (λ (player : ℕ). total_points_of player results) (λ (player : ℕ). sum_of (points_for player) results) (λ (player : ℕ). total_sum player results) (range_with_len 0 players)
    ∙ totals_by_seat players results all
