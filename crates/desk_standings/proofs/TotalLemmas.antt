-- The totals of a tournament, game by game.
use Rattle.std.proofs.Common.{◌≡◌, ◌∙◌, ℕ, ◌+◌, ◌<◌, ◌≤◌, List, [], ◌∷◌, ◌++◌, length, length-append, Bool, true, false, cond, Some, None, refl, sym, ap, subst, arith}
use Rattle.std.specs.Prelude.{All, nat_lt, Option, unwrap_or, ℤ, pos, ◌+ℤ◌}
use Rattle.std.specs.List.{position_or_len}
use Rattle.std.specs.Str.{bytes_eq}
use Rattle.std.proofs.lemmas.Bool.{ltb-true}
use Rattle.std.proofs.lemmas.Int.{ints}
use Rattle.std.proofs.lemmas.List.Elements.{All-head, All-tail, All-cons, All-nil}
use Rattle.riichi_table.specs.Players.{of_player}
use Rattle.riichi_table.specs.declared.player.Player.{Player}
use Rattle.riichi_table.specs.declared.player.Player.TheVariants.{First, Second, Third, Fourth}
use Rattle.riichi_standings.specs.Laws.{sum_of}
use Rattle.riichi_standings.specs.Tournaments.{Games, name_added, with_name, number_of_player, with_seat, with_table_taken}
use Rattle.riichi_standings.specs.declared.result.SeatResult.{SeatResult}
use Rattle.riichi_standings.proofs.Sums.{totals_are_all_points}
use Rattle.desk_standings.specs.Halls.{Held, nothing_held, TakesInTurn, name_in, with_game_of, with_players, with_ended}
use Rattle.desk_standings.specs.Laws.{game_sum, TotalsAreThoseOfGames, TotalsAddUpToNothing}
use Rattle.desk_standings.specs.declared.ended.EndedGame.{EndedGame}

-- ---- a name more

pub number_inside : (names : List (List ℕ)) (name : List ℕ) → number_of_player names name < length (with_name names name)
number_inside names name = by_test (nat_lt (position_or_len (bytes_eq name) names) (length names)) refl
  where
    by_test : (b : Bool) → nat_lt (position_or_len (bytes_eq name) names) (length names) ≡ b
        → unwrap_or (cond b (Some (position_or_len (bytes_eq name) names)) None) (length names) < length (name_added (cond b (Some (position_or_len (bytes_eq name) names)) None) names name)
    by_test true is = ltb-true (position_or_len (bytes_eq name) names) (length names) is
    by_test false is = omega (arith, length-append names (name ∷ []))

stays_inside : (names : List (List ℕ)) (name : List ℕ) (player : ℕ) → player < length names → player < length (with_name names name)
stays_inside names name player inside = by_test (nat_lt (position_or_len (bytes_eq name) names) (length names))
  where
    by_test : (b : Bool) → player < length (name_added (cond b (Some (position_or_len (bytes_eq name) names)) None) names name)
    by_test true = inside
    by_test false = omega (arith, inside, length-append names (name ∷ []))

-- ---- a result more

abbrev pub IsInside : List (List ℕ) → SeatResult → Type 0
IsInside names seat = seat.player < length names

pub all_inside : (names : List (List ℕ)) (name : List ℕ) (new : SeatResult) → IsInside (with_name names name) new → (results : List SeatResult) → All (IsInside names) results → All (IsInside (with_name names name)) (results ++ new ∷ [])
all_inside names name new inside [] all = All-cons (IsInside (with_name names name)) new [] inside (All-nil (IsInside (with_name names name)))
all_inside names name new inside (seat ∷ results) all =
    All-cons (IsInside (with_name names name)) seat (results ++ new ∷ []) (stays_inside names name seat.player (All-head (IsInside names) seat results all)) (all_inside names name new inside results (All-tail (IsInside names) seat results all))

sum_more : {X : Type 0} (f : X → ℤ) (xs : List X) (x : X) → sum_of f (xs ++ x ∷ []) ≡ sum_of f xs +ℤ f x
sum_more f [] x = omega (arith, ints)
sum_more f (first ∷ xs) x = let rest = sum_more f xs x in omega (arith, ints)

-- Each result is of a player, and together they are so many points.
record SumsUp (games : Games) (sum : ℤ) : Type 0 where
  players : All (IsInside games.names) games.results
  sum_is : sum_of (λ (seat : SeatResult). seat.points) games.results ≡ sum

seat_more : (games : Games) (sum : ℤ) (name : List ℕ) (session : Option ℕ) (place : ℕ) (points : ℤ) → SumsUp games sum → SumsUp (with_seat games name session place points) (sum +ℤ points)
seat_more games sum name session place points so_far =
    let new : SeatResult = record { player = number_of_player games.names name; session = session; place = place; points = points } in
    record {
      players = all_inside games.names name new (number_inside games.names name) games.results so_far.players;
      sum_is = sum_more (λ (seat : SeatResult). seat.points) games.results new ∙ ap (λ (all : ℤ). all +ℤ points) so_far.sum_is;
    }

-- ---- a game more

player_more : (game : EndedGame) (games : Games) (sum : ℤ) (player : Player) → SumsUp games sum → SumsUp (with_game_of game games player) (sum +ℤ (of_player game.finals player).total)
player_more game games sum player so_far = seat_more games sum (name_in game player) game.session (of_player game.finals player).place (of_player game.finals player).total so_far

players_more : (game : EndedGame) (games : Games) (sum : ℤ) → SumsUp games sum → SumsUp (with_players game games) (sum +ℤ game_sum game)
players_more game games sum so_far =
    let first = player_more game games sum First so_far in
    let second = player_more game (with_game_of game games First) (sum +ℤ game.finals.first.total) Second first in
    let third = player_more game (with_game_of game (with_game_of game games First) Second) ((sum +ℤ game.finals.first.total) +ℤ game.finals.second.total) Third second in
    let fourth = player_more game (with_game_of game (with_game_of game (with_game_of game games First) Second) Third) (((sum +ℤ game.finals.first.total) +ℤ game.finals.second.total) +ℤ game.finals.third.total) Fourth third in
    record { players = fourth.players; sum_is = (let all = fourth.sum_is in omega (arith, ints)) }

taken_in_turn : (held last : Held) (games : List EndedGame) (sum : ℤ) → SumsUp held.games sum → TakesInTurn held games last → SumsUp last.games (sum +ℤ sum_of game_sum games)
taken_in_turn held last [] sum so_far taken =
    let none : sum ≡ sum +ℤ pos 0 = omega (arith, ints) in
    subst (λ (now : Held). SumsUp now.games (sum +ℤ pos 0)) (sym taken) (subst (SumsUp held.games) none so_far)
taken_in_turn held last (game ∷ games) sum so_far taken =
    let now = players_more game (with_table_taken held.games game.session game.table) sum (record { players = so_far.players; sum_is = so_far.sum_is }) in
    let rest = taken_in_turn (with_ended held game) last games (sum +ℤ game_sum game) now taken.1 in
    record { players = rest.players; sum_is = (let all = rest.sum_is in omega (arith, ints)) }

pub totals_are_those_of_games : TotalsAreThoseOfGames
totals_are_those_of_games games held taken =
    let all = taken_in_turn nothing_held held games (pos 0) (record { players = All-nil (IsInside []); sum_is = refl }) taken in
    let sum = all.sum_is in
    totals_are_all_points (length held.games.names) held.games.results all.players ∙ omega (arith, ints)

none_each : (games : List EndedGame) → All (λ game. game_sum game ≡ pos 0) games → sum_of game_sum games ≡ pos 0
none_each [] all = refl
none_each (game ∷ games) all =
    let first = All-head (λ (one : EndedGame). game_sum one ≡ pos 0) game games all in
    let rest = none_each games (All-tail (λ (one : EndedGame). game_sum one ≡ pos 0) game games all) in
    omega (arith, ints)

pub totals_add_up_to_nothing : TotalsAddUpToNothing
totals_add_up_to_nothing games held taken none = totals_are_those_of_games games held taken ∙ none_each games none
