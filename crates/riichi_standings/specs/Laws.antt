-- What holds of all standings.
use Rattle.std.specs.Prelude.{◌≡◌, ℕ, ◌<◌, List, [], ◌∷◌, length, map, All, filter, IsPermutation, Option, ℤ, pos, ◌+ℤ◌}
use Rattle.std.specs.List.{range_with_len, slice_index_or}
use Rattle.riichi_standings.specs.Places.{standing_place}
use Rattle.riichi_standings.specs.Standings.{standings_of, tallies_of, names_before}
use Rattle.riichi_standings.specs.Tallies.{is_of, total_points_of, results_tally}
use Rattle.riichi_standings.specs.declared.places.TieBreak.{TieBreak}
use Rattle.riichi_standings.specs.declared.result.SeatResult.{SeatResult}

abbrev pub sum_of : {X : Type 0} → (X → ℤ) → List X → ℤ
sum_of f [] = pos 0
sum_of f (x ∷ xs) = f x +ℤ sum_of f xs

-- the total of a player is the sum of the final points of the player's own results
abbrev pub TotalIsTheSum : Type 0
TotalIsTheSum = (player : ℕ) (results : List SeatResult) →
    total_points_of player results ≡ sum_of (λ (seat : SeatResult). seat.points) (filter (is_of player) results)

-- where all results are of so many players, the totals of these are together the final points of all results
abbrev pub TotalsAreAllPoints : Type 0
TotalsAreAllPoints = (players : ℕ) (results : List SeatResult) → All (λ (seat : SeatResult). seat.player < players) results →
    sum_of (λ player. total_points_of player results) (range_with_len 0 players) ≡ sum_of (λ (seat : SeatResult). seat.points) results

-- results in another order make the same standings
abbrev pub OrderOfResultsIsFree : Type 0
OrderOfResultsIsFree = (ties : TieBreak) (names : List (List ℕ)) (one other : List SeatResult) → IsPermutation one other →
    standings_of ties names one ≡ standings_of ties names other

-- ---- players by their names

-- what a player has of a game, by the player's name
pub record NamedResult : Type 0 where
  pub name : List ℕ
  pub session : Option ℕ
  pub place : ℕ
  pub points : ℤ

abbrev pub name_at : List (List ℕ) → ℕ → List ℕ
name_at names player = slice_index_or names player []

abbrev pub with_its_name : List (List ℕ) → SeatResult → NamedResult
with_its_name names seat = record { name = name_at names seat.player; session = seat.session; place = seat.place; points = seat.points }

-- Each player has one name, and each result is of one of the players.
pub record AreResultsOf (names : List (List ℕ)) (results : List SeatResult) : Type 0 where
  pub once : (one other : ℕ) → one < length names → other < length names → name_at names one ≡ name_at names other → one ≡ other
  pub players : All (λ (seat : SeatResult). seat.player < length names) results

-- A player stands as one of another tournament does: with the same tally, at the same place, behind as many names.
pub record StandAlike (ties : TieBreak) (names : List (List ℕ)) (results : List SeatResult) (player : ℕ) (others : List (List ℕ)) (other_results : List SeatResult) (other : ℕ) : Type 0 where
  pub tally : results_tally player results ≡ results_tally other other_results
  pub place : standing_place ties (tallies_of (length names) results) (results_tally player results) ≡ standing_place ties (tallies_of (length others) other_results) (results_tally other other_results)
  pub names_before : names_before names player ≡ names_before others other

-- the same names and the same results of them, each in another order and the players numbered otherwise, make the same standings
abbrev pub OrderOfGamesIsFree : Type 0
OrderOfGamesIsFree = (ties : TieBreak) (names others : List (List ℕ)) (results other_results : List SeatResult) →
    AreResultsOf names results → AreResultsOf others other_results → IsPermutation names others → IsPermutation (map (with_its_name names) results) (map (with_its_name others) other_results) →
    (player other : ℕ) → player < length names → other < length others → name_at names player ≡ name_at others other →
    StandAlike ties names results player others other_results other
