-- Games in another order.
use Rattle.std.proofs.Common.{◌≡◌, ◌∙◌, ℕ, ◌+◌, ◌<◌, ◌≤◌, List, [], ◌∷◌, ◌++◌, length, map, length-append, append_assoc, append-nil, get_or, Bool, true, false, cond, Some, None, IsPermutation, refl, sym, ap, subst, arith}
use Rattle.std.specs.Prelude.{All, nat_lt, not, ◌||◌, Option, unwrap_or, position, ℤ}
use Rattle.std.specs.List.{position_or_len, list_any, remove, IsDistinct, AllByRecursion}
use Rattle.std.specs.Str.{bytes_eq}
use Rattle.std.specs.Cmp.Lexicographic.{nat_list_eq_equiv}
use Rattle.std.proofs.lemmas.Bool.{ltb-true, ltb-false}
use Rattle.std.proofs.lemmas.Bool.Decides.{not_from_Decides}
use Rattle.std.proofs.lemmas.List.{map-append, get_or_append_left, get_or_at, get_or_default}
use Rattle.std.proofs.lemmas.List.Elements.{All-head, All-tail, All-nil}
use Rattle.std.proofs.lemmas.List.Folds.{list_any-append}
use Rattle.std.proofs.lemmas.List.Sorted.{IsPermutation-refl, IsPermutation-sym, IsPermutation-trans, IsPermutation-cons, IsPermutation-map, IsPermutation-append, IsPermutation-append_left, IsPermutation-append_right, IsPermutation-append_comm, IsPermutation-remove, list_any-IsPermutation}
use Rattle.std.proofs.lemmas.List.Sums.{passes_at_first}
use Rattle.std.proofs.lemmas.Map.Keys.{IsDistinct-push, IsDistinct-head, IsDistinct-tail, IsDistinct-IsPermutation, apart_from_distinct, any_passes_from_place}
use Rattle.std.proofs.lemmas.Option.{slice_get_read}
use Rattle.std.proofs.lemmas.Slice.Eq.{bytes_eq-Decides}
use Rattle.riichi_table.specs.Players.{of_player}
use Rattle.riichi_table.specs.declared.player.Player.{Player}
use Rattle.riichi_table.specs.declared.player.Player.TheVariants.{First, Second, Third, Fourth}
use Rattle.riichi_standings.specs.Laws.{NamedResult, name_at, with_its_name, AreResultsOf}
use Rattle.riichi_standings.specs.Tournaments.{Games, name_added, with_name, number_of_player, with_seat, with_table_taken}
use Rattle.riichi_standings.specs.declared.result.SeatResult.{SeatResult}
use Rattle.riichi_standings.proofs.NameLemmas.{any-none}
use Rattle.riichi_standings.proofs.Named.{order_of_games_is_free}
use Rattle.desk_standings.specs.Halls.{Held, nothing_held, TakesInTurn, name_in, with_game_of, with_players, with_ended}
use Rattle.desk_standings.specs.Laws.{OrderOfFilesIsFree}
use Rattle.desk_standings.specs.declared.ended.EndedGame.{EndedGame}
use Rattle.desk_standings.proofs.TotalLemmas.{IsInside, number_inside, all_inside}

-- ---- a name more

-- a name is new, or the first that is equal
known : (names : List (List ℕ)) (name : List ℕ) → position_or_len (bytes_eq name) names < length names → get_or names (position_or_len (bytes_eq name) names) [] ≡ name
known names name inside = sym ((bytes_eq-Decides name (get_or names (position_or_len (bytes_eq name) names) [])).0 (passes_at_first (bytes_eq name) names [] inside))

name_stays : (names : List (List ℕ)) (name : List ℕ) (player : ℕ) → player < length names → name_at (with_name names name) player ≡ name_at names player
name_stays names name player inside = by_test (nat_lt (position_or_len (bytes_eq name) names) (length names))
  where
    by_test : (b : Bool) → name_at (name_added (cond b (Some (position_or_len (bytes_eq name) names)) None) names name) player ≡ name_at names player
    by_test true = refl
    by_test false = get_or_append_left names (name ∷ []) [] player inside

name_is : (names : List (List ℕ)) (name : List ℕ) → name_at (with_name names name) (number_of_player names name) ≡ name
name_is names name = by_test (nat_lt (position_or_len (bytes_eq name) names) (length names)) refl
  where
    by_test : (b : Bool) → nat_lt (position_or_len (bytes_eq name) names) (length names) ≡ b
        → name_at (name_added (cond b (Some (position_or_len (bytes_eq name) names)) None) names name) (unwrap_or (cond b (Some (position_or_len (bytes_eq name) names)) None) (length names)) ≡ name
    by_test true is = known names name (ltb-true (position_or_len (bytes_eq name) names) (length names) is)
    by_test false is = get_or_at names name [] [] (length names) refl

distinct_more : (names : List (List ℕ)) (name : List ℕ) → IsDistinct bytes_eq names → IsDistinct bytes_eq (with_name names name)
distinct_more names name so_far = by_test (nat_lt (position_or_len (bytes_eq name) names) (length names)) refl
  where
    by_test : (b : Bool) → nat_lt (position_or_len (bytes_eq name) names) (length names) ≡ b
        → IsDistinct bytes_eq (name_added (cond b (Some (position_or_len (bytes_eq name) names)) None) names name)
    by_test true is = so_far
    by_test false is = IsDistinct-push nat_list_eq_equiv names name so_far (any-none (bytes_eq name) names (ap (λ (b : Bool). cond b (Some (position_or_len (bytes_eq name) names)) None) is))

any_more : (names : List (List ℕ)) (name q : List ℕ) → list_any (bytes_eq q) (with_name names name) ≡ (list_any (bytes_eq q) names || bytes_eq q name)
any_more names name q = by_test (nat_lt (position_or_len (bytes_eq name) names) (length names)) refl
  where
    own : (b c : Bool) → (c ≡ true → b ≡ true) → b ≡ (b || c)
    own true c h = refl
    own false true h = h refl
    own false false h = refl

    none_more : (b c : Bool) → (b || (c || false)) ≡ (b || c)
    none_more true c = refl
    none_more false true = refl
    none_more false false = refl

    by_test : (b : Bool) → nat_lt (position_or_len (bytes_eq name) names) (length names) ≡ b
        → list_any (bytes_eq q) (name_added (cond b (Some (position_or_len (bytes_eq name) names)) None) names name) ≡ (list_any (bytes_eq q) names || bytes_eq q name)
    by_test true is =
        let inside = ltb-true (position_or_len (bytes_eq name) names) (length names) is in
        let k = position_or_len (bytes_eq name) names in
        own (list_any (bytes_eq q) names) (bytes_eq q name)
        (λ same. any_passes_from_place (bytes_eq q) names k name (slice_get_read names (length names) k name refl inside (sym (get_or_default names k name [] inside ∙ known names name inside))) same)
    by_test false is = list_any-append (bytes_eq q) names (name ∷ []) ∙ none_more (list_any (bytes_eq q) names) (bytes_eq q name)

-- ---- a result more

-- The names differ, and the results are these, by the names, of whom each has one.
record IsNamed (games : Games) (all : List NamedResult) : Type 0 where
  distinct : IsDistinct bytes_eq games.names
  inside : All (IsInside games.names) games.results
  named_is : map (with_its_name games.names) games.results ≡ all
  any_is : (q : List ℕ) → list_any (bytes_eq q) games.names ≡ list_any (λ (one : NamedResult). bytes_eq q one.name) all

named_stay : (names : List (List ℕ)) (name : List ℕ) (results : List SeatResult) → All (IsInside names) results → map (with_its_name (with_name names name)) results ≡ map (with_its_name names) results
named_stay names name [] all = refl
named_stay names name (seat ∷ results) all =
    let own = name_stays names name seat.player (All-head (IsInside names) seat results all) in
    let rest = named_stay names name results (All-tail (IsInside names) seat results all) in
    cc

seat_named : (games : Games) (all : List NamedResult) (name : List ℕ) (session : Option ℕ) (place : ℕ) (points : ℤ) → IsNamed games all
    → IsNamed (with_seat games name session place points) (all ++ record { name = name; session = session; place = place; points = points } ∷ [])
seat_named games all name session place points so_far =
    let names = games.names in
    let new : SeatResult = record { player = number_of_player names name; session = session; place = place; points = points } in
    let one : NamedResult = record { name = name; session = session; place = place; points = points } in
    let last : with_its_name (with_name names name) new ≡ one = ap (λ (own : List ℕ). record { name = own; session = session; place = place; points = points }) (name_is names name) in
    record {
      distinct = distinct_more names name so_far.distinct;
      inside = all_inside names name new (number_inside names name) games.results so_far.inside;
      named_is = map-append (with_its_name (with_name names name)) games.results (new ∷ [])
          ∙ ap (λ (rest : List NamedResult). rest ++ with_its_name (with_name names name) new ∷ []) (named_stay names name games.results so_far.inside ∙ so_far.named_is)
          ∙ ap (λ (x : NamedResult). all ++ x ∷ []) last;
      any_is = λ q.
          any_more names name q ∙ ap (λ (b : Bool). b || bytes_eq q name) (so_far.any_is q)
          ∙ none_less (list_any (λ (x : NamedResult). bytes_eq q x.name) all) (bytes_eq q name) ∙ sym (list_any-append (λ (x : NamedResult). bytes_eq q x.name) all (one ∷ []));
    }
  where
    none_less : (b c : Bool) → (b || c) ≡ (b || (c || false))
    none_less true c = refl
    none_less false true = refl
    none_less false false = refl

-- ---- a game more

abbrev named_in : Player → EndedGame → NamedResult
named_in player game = record { name = name_in game player; session = game.session; place = (of_player game.finals player).place; points = (of_player game.finals player).total }

abbrev four_of : EndedGame → List NamedResult
four_of game = named_in First game ∷ named_in Second game ∷ named_in Third game ∷ named_in Fourth game ∷ []

abbrev all_of : List EndedGame → List NamedResult
all_of [] = []
all_of (game ∷ games) = named_in First game ∷ named_in Second game ∷ named_in Third game ∷ named_in Fourth game ∷ all_of games

player_named : (game : EndedGame) (games : Games) (all : List NamedResult) (player : Player) → IsNamed games all → IsNamed (with_game_of game games player) (all ++ named_in player game ∷ [])
player_named game games all player so_far = seat_named games all (name_in game player) game.session (of_player game.finals player).place (of_player game.finals player).total so_far

players_named : (game : EndedGame) (games : Games) (all : List NamedResult) → IsNamed games all → IsNamed (with_players game games) (all ++ four_of game)
players_named game games all so_far =
    let a = named_in First game in
    let b = named_in Second game in
    let c = named_in Third game in
    let d = named_in Fourth game in
    let first = player_named game games all First so_far in
    let second = player_named game (with_game_of game games First) (all ++ a ∷ []) Second first in
    let third = player_named game (with_game_of game (with_game_of game games First) Second) ((all ++ a ∷ []) ++ b ∷ []) Third second in
    let fourth = player_named game (with_game_of game (with_game_of game (with_game_of game games First) Second) Third) (((all ++ a ∷ []) ++ b ∷ []) ++ c ∷ []) Fourth third in
    let flat : (((all ++ a ∷ []) ++ b ∷ []) ++ c ∷ []) ++ d ∷ [] ≡ all ++ a ∷ b ∷ c ∷ d ∷ [] =
    append_assoc ((all ++ a ∷ []) ++ b ∷ []) (c ∷ []) (d ∷ []) ∙ append_assoc (all ++ a ∷ []) (b ∷ []) (c ∷ d ∷ []) ∙ append_assoc all (a ∷ []) (b ∷ c ∷ d ∷ []) in
    subst (IsNamed (with_players game games)) flat fourth

taken_named : (held last : Held) (games : List EndedGame) (all : List NamedResult) → IsNamed held.games all → TakesInTurn held games last → IsNamed last.games (all ++ all_of games)
taken_named held last [] all so_far taken = subst (λ (now : Held). IsNamed now.games (all ++ [])) (sym taken) (subst (IsNamed held.games) (sym (append-nil all)) so_far)
taken_named held last (game ∷ games) all so_far taken =
    let begun : IsNamed (with_table_taken held.games game.session game.table) all =
    record { distinct = so_far.distinct; inside = so_far.inside; named_is = so_far.named_is; any_is = so_far.any_is } in
    let now = players_named game (with_table_taken held.games game.session game.table) all begun in
    let rest = taken_named (with_ended held game) last games (all ++ four_of game) now taken.1 in
    subst (IsNamed last.games) (append_assoc all (four_of game) (all_of games)) rest

-- ---- another order

-- what is brought to the front of a list, is so behind another one
past : {X : Type 0} (xs zs front rest : List X) → IsPermutation zs (front ++ rest) → IsPermutation (xs ++ zs) (front ++ (xs ++ rest))
past xs zs front rest same =
    subst (IsPermutation (xs ++ zs)) (append_assoc front xs rest)
    (IsPermutation-trans (xs ++ zs) ((xs ++ front) ++ rest) ((front ++ xs) ++ rest) (subst (IsPermutation (xs ++ zs)) (sym (append_assoc xs front rest)) (IsPermutation-append_right xs zs (front ++ rest) same))
    (IsPermutation-append_left rest (xs ++ front) (front ++ xs) (IsPermutation-append_comm xs front)))

abbrev by_player : List EndedGame → List NamedResult
by_player games = map (named_in First) games ++ (map (named_in Second) games ++ (map (named_in Third) games ++ map (named_in Fourth) games))

-- the results game by game, and player by player
sorted_out : (games : List EndedGame) → IsPermutation (all_of games) (by_player games)
sorted_out [] = IsPermutation-refl []
sorted_out (game ∷ games) =
    let a = named_in First game in
    let b = named_in Second game in
    let c = named_in Third game in
    let d = named_in Fourth game in
    let A = map (named_in First) games in
    let B = map (named_in Second) games in
    let C = map (named_in Third) games in
    let D = map (named_in Fourth) games in
    let third = past C (d ∷ D) (d ∷ []) D (IsPermutation-refl (d ∷ D)) in
    let second = past B (c ∷ (C ++ d ∷ D)) (c ∷ d ∷ []) (C ++ D) (IsPermutation-cons c (C ++ d ∷ D) (d ∷ (C ++ D)) third) in
    let first = past A (b ∷ (B ++ (c ∷ (C ++ d ∷ D)))) (b ∷ c ∷ d ∷ []) (B ++ (C ++ D)) (IsPermutation-cons b (B ++ (c ∷ (C ++ d ∷ D))) (c ∷ d ∷ (B ++ (C ++ D))) second) in
    let whole = IsPermutation-cons a (A ++ (b ∷ (B ++ (c ∷ (C ++ d ∷ D))))) (b ∷ c ∷ d ∷ (A ++ (B ++ (C ++ D)))) first in
    let rest = IsPermutation-cons a (b ∷ c ∷ d ∷ all_of games) (b ∷ c ∷ d ∷ by_player games)
    (IsPermutation-cons b (c ∷ d ∷ all_of games) (c ∷ d ∷ by_player games) (IsPermutation-cons c (d ∷ all_of games) (d ∷ by_player games) (IsPermutation-cons d (all_of games) (by_player games) (sorted_out games)))) in
    IsPermutation-trans (a ∷ b ∷ c ∷ d ∷ all_of games) (a ∷ b ∷ c ∷ d ∷ by_player games) (by_player (game ∷ games)) rest (IsPermutation-sym (by_player (game ∷ games)) (a ∷ b ∷ c ∷ d ∷ by_player games) whole)

by_player_order : (one other : List EndedGame) → IsPermutation one other → IsPermutation (by_player one) (by_player other)
by_player_order one other same =
    IsPermutation-append (map (named_in First) one) (map (named_in First) other) (map (named_in Second) one ++ (map (named_in Third) one ++ map (named_in Fourth) one)) (map (named_in Second) other ++ (map (named_in Third) other ++ map (named_in Fourth) other))
    (IsPermutation-map (named_in First) one other same)
    (IsPermutation-append (map (named_in Second) one) (map (named_in Second) other) (map (named_in Third) one ++ map (named_in Fourth) one) (map (named_in Third) other ++ map (named_in Fourth) other) (IsPermutation-map (named_in Second) one other same)
    (IsPermutation-append (map (named_in Third) one) (map (named_in Third) other) (map (named_in Fourth) one) (map (named_in Fourth) other) (IsPermutation-map (named_in Third) one other same) (IsPermutation-map (named_in Fourth) one other same)))

all_order : (one other : List EndedGame) → IsPermutation one other → IsPermutation (all_of one) (all_of other)
all_order one other same =
    IsPermutation-trans (all_of one) (by_player one) (all_of other) (sorted_out one)
    (IsPermutation-trans (by_player one) (by_player other) (all_of other) (by_player_order one other same) (IsPermutation-sym (all_of other) (by_player other) (sorted_out other)))

-- ---- names that differ, and are the same in another order

not_any : (x : List ℕ) (xs : List (List ℕ)) → AllByRecursion (λ y. bytes_eq x y ≡ false) xs → list_any (bytes_eq x) xs ≡ false
not_any x [] none = refl
not_any x (y ∷ xs) none = ap (λ (b : Bool). b || list_any (bytes_eq x) xs) none.0 ∙ not_any x xs none.1

found_in : (x : List ℕ) (ys : List (List ℕ)) → list_any (bytes_eq x) ys ≡ true → position_or_len (bytes_eq x) ys < length ys
found_in x [] is = absurd (cc)
found_in x (y ∷ ys) is = by_test (λ some. found_in x ys some) (bytes_eq x y) is
  where
    by_test : (list_any (bytes_eq x) ys ≡ true → position_or_len (bytes_eq x) ys < length ys) → (b : Bool) → (b || list_any (bytes_eq x) ys) ≡ true
        → cond (not b) (1 + position_or_len (bytes_eq x) ys) 0 < length (y ∷ ys)
    by_test behind true some = omega arith
    by_test behind false some = let rest = behind some in omega (arith, rest)

names_order : (one other : List (List ℕ)) → IsDistinct bytes_eq one → IsDistinct bytes_eq other → ((q : List ℕ) → list_any (bytes_eq q) one ≡ list_any (bytes_eq q) other) → IsPermutation one other
names_order [] [] one_distinct other_distinct same = IsPermutation-refl []
names_order [] (y ∷ ys) one_distinct other_distinct same =
    let itself : bytes_eq y y ≡ true = (bytes_eq-Decides y y).1 refl in
    let none : false ≡ (bytes_eq y y || list_any (bytes_eq y) ys) = same y in
    absurd (cc)
names_order (x ∷ xs) ys one_distinct other_distinct same =
    let i = position_or_len (bytes_eq x) ys in
    let itself : bytes_eq x x ≡ true = (bytes_eq-Decides x x).1 refl in
    let some : list_any (bytes_eq x) ys ≡ true = sym (same x) ∙ ap (λ (b : Bool). b || list_any (bytes_eq x) xs) itself in
    let inside = found_in x ys some in
    let rest = remove ys i in
    let pulled : IsPermutation ys (x ∷ rest) = IsPermutation-remove ys i x inside (sym (get_or_default ys i x [] inside ∙ known ys x inside)) in
    let distinct : IsDistinct bytes_eq (x ∷ rest) = IsDistinct-IsPermutation bytes_eq nat_list_eq_equiv.symm ys (x ∷ rest) pulled other_distinct in
    let xs_none = not_any x xs (IsDistinct-head bytes_eq x xs one_distinct) in
    let rest_none = not_any x rest (IsDistinct-head bytes_eq x rest distinct) in
    let others = names_order xs rest (IsDistinct-tail bytes_eq x xs one_distinct) (IsDistinct-tail bytes_eq x rest distinct)
    (λ q. by_test rest q (bytes_eq q x) refl xs_none rest_none (same q ∙ list_any-IsPermutation (bytes_eq q) ys (x ∷ rest) pulled)) in
    IsPermutation-trans (x ∷ xs) (x ∷ rest) ys (IsPermutation-cons x xs rest others) (IsPermutation-sym ys (x ∷ rest) pulled)
  where
    by_test : (rest : List (List ℕ)) (q : List ℕ) (b : Bool) → bytes_eq q x ≡ b → list_any (bytes_eq x) xs ≡ false → list_any (bytes_eq x) rest ≡ false
        → (bytes_eq q x || list_any (bytes_eq q) xs) ≡ (bytes_eq q x || list_any (bytes_eq q) rest) → list_any (bytes_eq q) xs ≡ list_any (bytes_eq q) rest
    by_test rest q true is xs_none rest_none same =
        let one : q ≡ x = (bytes_eq-Decides q x).0 is in
        ap (λ (name : List ℕ). list_any (bytes_eq name) xs) one ∙ xs_none ∙ sym (ap (λ (name : List ℕ). list_any (bytes_eq name) rest) one ∙ rest_none)
    by_test rest q false is xs_none rest_none same =
        sym (ap (λ (b : Bool). b || list_any (bytes_eq q) xs) is) ∙ same ∙ ap (λ (b : Bool). b || list_any (bytes_eq q) rest) is

-- ---- together

once : (names : List (List ℕ)) → IsDistinct bytes_eq names → (i j : ℕ) → i < length names → j < length names → name_at names i ≡ name_at names j → i ≡ j
once names distinct i j inside other_inside same = by_order (nat_lt i j) (nat_lt j i) refl refl
  where
    not_less : (a b : ℕ) → a < b → b < length names → name_at names a ≡ name_at names b → ⊥
    not_less a b less within is = not_from_Decides (bytes_eq (name_at names a) (name_at names b)) (bytes_eq-Decides (name_at names a) (name_at names b)) (apart_from_distinct bytes_eq names a b [] distinct less within) is

    by_order : (b c : Bool) → nat_lt i j ≡ b → nat_lt j i ≡ c → i ≡ j
    by_order true c is other = absurd (not_less i j (ltb-true i j is) other_inside same)
    by_order false true is other = absurd (not_less j i (ltb-true j i other) inside (sym same))
    by_order false false is other = omega (arith, ltb-false i j is, ltb-false j i other)

results_of : (games : Games) (all : List NamedResult) → IsNamed games all → AreResultsOf games.names games.results
results_of games all are = record { once = once games.names are.distinct; players = are.inside }

pub order_of_files_is_free : OrderOfFilesIsFree
unfolding IsDistinct
order_of_files_is_free ties one other held other_held taken other_taken same player other_player inside other_inside is =
    let none : IsNamed nothing_held.games [] = record { distinct = tt; inside = All-nil (IsInside []); named_is = refl; any_is = λ q. refl } in
    let left = taken_named nothing_held held one [] none taken in
    let right = taken_named nothing_held other_held other [] none other_taken in
    let all = all_order one other same in
    let names = names_order held.games.names other_held.games.names left.distinct right.distinct
    (λ q. left.any_is q ∙ list_any-IsPermutation (λ (x : NamedResult). bytes_eq q x.name) (all_of one) (all_of other) all ∙ sym (right.any_is q)) in
    order_of_games_is_free ties held.games.names other_held.games.names held.games.results other_held.games.results (results_of held.games (all_of one) left) (results_of other_held.games (all_of other) right) names
    (subst (λ (l : List NamedResult). IsPermutation l (map (with_its_name other_held.games.names) other_held.games.results)) (sym left.named_is) (subst (IsPermutation (all_of one)) (sym right.named_is) all))
    player other_player inside other_inside is
