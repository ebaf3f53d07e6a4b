-- Players by their names: how they are numbered changes nothing.
use Rattle.std.proofs.Common.{◌≡◌, ◌≢◌, ◌∙◌, ℕ, ◌+◌, ◌<◌, ◌≤◌, ◌==◌, zero, suc, List, [], ◌∷◌, length, map, Bool, true, false, cond, refl, sym, ap, subst, arith, get_or, Some}
use Rattle.std.specs.Prelude.{All, IsPermutation, fold, count_by, ◌&&◌, int_lt, ℤ, pos, negsuc, ◌+ℤ◌, sum_by}
use Rattle.std.specs.List.{range_with_len, slice_index_or}
use Rattle.std.specs.Ordering.{is_lt, nat_cmp}
use Rattle.std.specs.Cmp.Lexicographic.{slice_cmp}
use Rattle.std.specs.Str.{bytes_eq}
use Rattle.std.proofs.lemmas.Bool.Decides.{nat_tests, not_from_Decides}
use Rattle.std.proofs.lemmas.List.{get_or_default}
use Rattle.std.proofs.lemmas.List.Elements.{All-head, All-tail, All-cons, All-nil}
use Rattle.std.proofs.lemmas.List.Sorted.{IsPermutation-map, sum_by-IsPermutation}
use Rattle.std.proofs.lemmas.Option.{slice_get_read}
use Rattle.std.proofs.lemmas.Slice.Eq.{bytes_eq-Decides}
use Rattle.riichi_standings.specs.Laws.{NamedResult, name_at, with_its_name, AreResultsOf, StandAlike, OrderOfGamesIsFree}
use Rattle.riichi_standings.specs.Places.{standing_place, stands_ahead}
use Rattle.riichi_standings.specs.Standings.{tallies_of, names_before, before_name}
use Rattle.riichi_standings.specs.Tallies.{is_of, points_for, better_of, results_tally}
use Rattle.riichi_standings.specs.declared.places.TieBreak.{TieBreak}
use Rattle.riichi_standings.specs.declared.result.SeatResult.{SeatResult}
use Rattle.riichi_standings.specs.declared.tally.Tally.{Tally}
use Rattle.riichi_standings.proofs.Orders.{tally_order}

-- ---- one player among the named

-- a named result, as of player 0 where it has this name, and else of player 1
abbrev relabel : List ℕ → NamedResult → SeatResult
relabel name seat = record { player = cond (bytes_eq name seat.name) 0 1; session = seat.session; place = seat.place; points = seat.points }

abbrev named_tally : List NamedResult → List ℕ → Tally
named_tally all name = results_tally 0 (map (relabel name) all)

-- the results are of the same player
abbrev IsSame : List (List ℕ) → ℕ → SeatResult → Type 0
IsSame names player seat = is_of player seat ≡ is_of 0 (relabel (name_at names player) (with_its_name names seat))

same_player : (names : List (List ℕ)) (player own : ℕ) → ((one other : ℕ) → one < length names → other < length names → name_at names one ≡ name_at names other → one ≡ other)
    → player < length names → own < length names → (own == player) ≡ (cond (bytes_eq (name_at names player) (name_at names own)) 0 1 == 0)
same_player names player own once inside within = by_test (bytes_eq (name_at names player) (name_at names own)) refl
  where
    by_test : (b : Bool) → bytes_eq (name_at names player) (name_at names own) ≡ b → (own == player) ≡ (cond b 0 1 == 0)
    by_test true is =
        let same : player ≡ own = once player own inside within ((bytes_eq-Decides (name_at names player) (name_at names own)).0 is) in
        grind (arith, nat_tests)
    by_test false is =
        let other : player ≡ own → ⊥ = λ same. not_from_Decides (bytes_eq (name_at names player) (name_at names own)) (bytes_eq-Decides (name_at names player) (name_at names own)) is (ap (name_at names) same) in
        grind (arith, nat_tests)

all_same : (names : List (List ℕ)) (player : ℕ) → ((one other : ℕ) → one < length names → other < length names → name_at names one ≡ name_at names other → one ≡ other)
    → player < length names → (rest : List SeatResult) → All (λ (seat : SeatResult). seat.player < length names) rest → All (IsSame names player) rest
all_same names player once inside [] all = All-nil (IsSame names player)
all_same names player once inside (seat ∷ rest) all =
    All-cons (IsSame names player) seat rest (same_player names player seat.player once inside (All-head (λ (one : SeatResult). one.player < length names) seat rest all))
    (all_same names player once inside rest (All-tail (λ (one : SeatResult). one.player < length names) seat rest all))

-- a fold over results, and over the same ones with other numbers
module _ {A : Type 0} (names : List (List ℕ)) (player : ℕ) (f g : A → SeatResult → A) (step : (a : A) (seat : SeatResult) → IsSame names player seat → f a seat ≡ g a (relabel (name_at names player) (with_its_name names seat))) where
  fold_named : (a : A) (xs : List SeatResult) → All (IsSame names player) xs → fold f a xs ≡ fold g a (map (relabel (name_at names player)) (map (with_its_name names) xs))
  fold_named a [] all = refl
  fold_named a (x ∷ xs) all =
      fold_named (f a x) xs (All-tail (IsSame names player) x xs all)
      ∙ ap (λ (b : A). fold g b (map (relabel (name_at names player)) (map (with_its_name names) xs))) (step a x (All-head (IsSame names player) x xs all))

tally_named : (names : List (List ℕ)) (results : List SeatResult) (player : ℕ) → AreResultsOf names results → player < length names → results_tally player results ≡ named_tally (map (with_its_name names) results) (name_at names player)
tally_named names results player are inside =
    let all = all_same names player are.once inside results are.players in
    let total = fold_named names player (λ (t : ℤ) (s : SeatResult). t +ℤ points_for player s) (λ (t : ℤ) (s : SeatResult). t +ℤ points_for 0 s) (λ t s same. ap (λ (b : Bool). t +ℤ cond b s.points (pos 0)) same) (pos 0) results all in
    let games = fold_named names player (λ (n : ℕ) (s : SeatResult). n + cond (is_of player s) 1 0) (λ (n : ℕ) (s : SeatResult). n + cond (is_of 0 s) 1 0) (λ n s same. ap (λ (b : Bool). n + cond b 1 0) same) 0 results all in
    let firsts = fold_named names player (λ (n : ℕ) (s : SeatResult). n + cond (is_of player s && s.place == 1) 1 0) (λ (n : ℕ) (s : SeatResult). n + cond (is_of 0 s && s.place == 1) 1 0) (λ n s same. ap (λ (b : Bool). n + cond (b && s.place == 1) 1 0) same) 0 results all in
    let best = fold_named names player (better_of player) (better_of 0) (λ t s same. ap (λ (b : Bool). cond (b && int_lt t s.points) s.points t) same) (negsuc 2147483647) results all in
    cc

-- ---- all players

module _ {Y : Type 0} (d : List ℕ) (g : List ℕ → Y) where
  map_range : (f : ℕ → Y) (from : ℕ) (xs : List (List ℕ)) → ((k : ℕ) → k < length xs → f (from + k) ≡ g (get_or xs k d)) → map f (range_with_len from (length xs)) ≡ map g xs
  map_range f from [] same = refl
  map_range f from (x ∷ xs) same =
      let first : f from ≡ g x = ap f (omega arith) ∙ same 0 (omega arith) in
      let rest = map_range f (from + 1) xs (λ k less. ap f (omega arith) ∙ same (suc k) (omega (arith, less))) in
      cc

tallies_named : (names : List (List ℕ)) (results : List SeatResult) → AreResultsOf names results → tallies_of (length names) results ≡ map (named_tally (map (with_its_name names) results)) names
tallies_named names results are = map_range [] (named_tally (map (with_its_name names) results)) (λ player. results_tally player results) 0 names
    (λ k less. let here : 0 + k ≡ k = omega arith in ap (λ (player : ℕ). results_tally player results) here ∙ tally_named names results k are less)

map_alike : {X Y : Type 0} (f g : X → Y) → ((x : X) → f x ≡ g x) → (xs : List X) → map f xs ≡ map g xs
map_alike f g same [] = refl
map_alike f g same (x ∷ xs) = let first = same x in let rest = map_alike f g same xs in cc

named_order : (one other : List NamedResult) → IsPermutation one other → (name : List ℕ) → named_tally one name ≡ named_tally other name
named_order one other same name = tally_order (map (relabel name) one) (map (relabel name) other) (IsPermutation-map (relabel name) one other same) 0

ahead_order : (ties : TieBreak) (own : Tally) (one other : List Tally) → IsPermutation one other → standing_place ties one own ≡ standing_place ties other own
ahead_order ties own one other same = ap (λ (n : ℕ). 1 + n) (sym (sum_by-IsPermutation (λ (t : Tally). cond (stands_ahead ties t own) 1 0) one other same))

before_order : (own : List ℕ) (one other : List (List ℕ)) → IsPermutation one other → before_name one (Some own) ≡ before_name other (Some own)
before_order own one other same = sym (sum_by-IsPermutation (λ (name : List ℕ). cond (is_lt (slice_cmp nat_cmp name own)) 1 0) one other same)

before_of : (names : List (List ℕ)) (player : ℕ) → player < length names → names_before names player ≡ before_name names (Some (name_at names player))
before_of names player inside = ap (before_name names) (slice_get_read names (length names) player (name_at names player) refl inside (get_or_default names player [] (name_at names player) inside))

pub order_of_games_is_free : OrderOfGamesIsFree
order_of_games_is_free ties names others results other_results are other_are same_names same player other inside other_inside is =
    let one_named = map (with_its_name names) results in
    let other_named = map (with_its_name others) other_results in
    let tally : results_tally player results ≡ results_tally other other_results =
    tally_named names results player are inside ∙ named_order one_named other_named same (name_at names player) ∙ ap (named_tally other_named) is ∙ sym (tally_named others other_results other other_are other_inside) in
    let all : map (named_tally other_named) others ≡ map (named_tally one_named) others = map_alike (named_tally other_named) (named_tally one_named) (λ name. sym (named_order one_named other_named same name)) others in
    let place : standing_place ties (tallies_of (length names) results) (results_tally player results) ≡ standing_place ties (tallies_of (length others) other_results) (results_tally other other_results) =
    ap (λ (ts : List Tally). standing_place ties ts (results_tally player results)) (tallies_named names results are)
    ∙ ahead_order ties (results_tally player results) (map (named_tally one_named) names) (map (named_tally one_named) others) (IsPermutation-map (named_tally one_named) names others same_names)
    ∙ ap (λ (ts : List Tally). standing_place ties ts (results_tally player results)) (sym (tallies_named others other_results other_are ∙ all))
    ∙ ap (standing_place ties (tallies_of (length others) other_results)) tally in
    record {
      tally = tally;
      place = place;
      names_before = before_of names player inside ∙ before_order (name_at names player) names others same_names ∙ ap (λ (name : List ℕ). before_name others (Some name)) is ∙ sym (before_of others other other_inside);
    }
