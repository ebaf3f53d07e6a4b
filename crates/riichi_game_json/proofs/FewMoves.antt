-- How many moves tell an outcome at most.
use Rattle.std.proofs.Common.{◌≡◌, ℕ, ◌+◌, ◌*◌, ◌/◌, ◌≤◌, ◌-◌, Bool, true, false, not, ◌&&◌, Option, None, Some, List, [], ◌∷◌, ◌++◌, length, refl, arith, if◌then◌else◌}
use Rattle.std.specs.Prelude.{◌==◌}
use Rattle.std.proofs.lemmas.List.{length-append}
use Rattle.riichi_table.specs.Players.{of_player, is_same_player, count_players, of_some}
use Rattle.riichi_table.specs.declared.player.Player.{Player}
use Rattle.riichi_table.specs.declared.player.Player.TheVariants.{First, Second, Third, Fourth}
use Rattle.riichi_table.specs.declared.player.ByPlayer.{ByPlayer}
use Rattle.riichi_table.specs.declared.rules.TableRules.{TableRules}
use Rattle.riichi_table.specs.declared.rules.CountersTo.{CountersTo}
use Rattle.riichi_table.specs.declared.rules.SticksTo.{SticksTo}
use Rattle.riichi_table.specs.declared.rules.SticksTo.TheVariants as sticks_to
use Rattle.riichi_table.specs.declared.rules.ChomboCost.{ChomboCost}
use Rattle.riichi_table.specs.declared.rules.ChomboCost.TheVariants as cost
use Rattle.riichi_table.specs.declared.state.GameState.{GameState}
use Rattle.riichi_table.specs.declared.worth.Worth.{Worth}
use Rattle.riichi_table.specs.declared.worth.Worth.TheVariants.{Yakuman}
use Rattle.riichi_table.specs.declared.outcome.Liable.{Liable}
use Rattle.riichi_table.specs.declared.outcome.Win.{Win}
use Rattle.riichi_table.specs.declared.outcome.Outcome.{Outcome}
use Rattle.riichi_table.specs.declared.outcome.Outcome.TheVariants.{Ron, Tsumo, Draw, Abort, Chombo, Penalty, Stands, End}
use Rattle.riichi_settle.specs.Moves.{payment_move, taken, each_player, bet, bets}
use Rattle.riichi_settle.specs.Winners.{nearest, as_played}
use Rattle.riichi_settle.specs.Wins.{ordinary_ron, shared_ron, won_with, one_ron, won_if, win_moves, counters_for, ron_moves, own_bets, own_bet_taken, own_taken, sticks_won, drawn_from, drawn, liable_tsumo, tsumo_with, tsumo_moves, price_between, other_limits}
use Rattle.riichi_settle.specs.Prices.{ron_price}
use Rattle.riichi_settle.specs.Draws.{share_between, unready_moves, ready_moves, nagashi_of, nagashi_moves, draw_moves, amends, chombo_moves, ready_share, mangan}
use Rattle.riichi_settle.specs.Settled.{sticks_lying, moves_as_played, moves_of}
use Rattle.riichi_settle.specs.declared.moved.Move.{Move}
use Rattle.riichi_settle.specs.declared.moved.Move.TheVariants.{Points, Sticks}
use Rattle.riichi_settle.specs.declared.moved.Reason.{Reason}
use Rattle.riichi_settle.specs.declared.moved.Reason.TheVariants as why
use Rattle.riichi_settle.specs.declared.moved.Taking.{Taking}
use Rattle.riichi_settle.specs.declared.moved.Taking.TheVariants as taking

-- a list of so many moves at most
record IsFew (most : ℕ) (moves : List Move) : Type 0 where
  few : length moves ≤ most

empty : (most : ℕ) → IsFew most []
empty most = record { few = omega arith }

fewer : (one other : ℕ) (moves : List Move) → one ≤ other → IsFew one moves → IsFew other moves
fewer one other moves less is = record { few = omega (arith, less, is.few) }

two : (one other : ℕ) (xs ys : List Move) → IsFew one xs → IsFew other ys → IsFew (one + other) (xs ++ ys)
two one other xs ys first second = record { few = omega (arith, length-append xs ys, first.few, second.few) }

either : (most : ℕ) (holds : Bool) (xs ys : List Move) → IsFew most xs → IsFew most ys → IsFew most (if holds then xs else ys)
either most true xs ys one other = one
either most false xs ys one other = other

each : (most : ℕ) (f : Player → List Move) → ((player : Player) → IsFew most (f player)) → IsFew (4 * most) (each_player f)
each most f is = record {
  few = omega (
    arith,
    length-append (f First ++ f Second ++ f Third) (f Fourth),
    length-append (f First ++ f Second) (f Third),
    length-append (f First) (f Second),
    (is First).few,
    (is Second).few,
    (is Third).few,
    (is Fourth).few,
  );
}

payment : (from to : Player) (points : ℕ) (reason : Reason) → IsFew 1 (payment_move from to points reason)
payment from to points reason = by_test (points == 0)
  where
    by_test : (none : Bool) → IsFew 1 (if none then [] else Points from to points reason ∷ [])
    by_test true = empty 1
    by_test false = record { few = omega arith }

-- ---- each part of an outcome

few-taken : (to : Player) (count : ℕ) (reason : Taking) → IsFew 1 (taken to count reason)
few-taken to count reason = by_test (count == 0)
  where
    by_test : (none : Bool) → IsFew 1 (if none then [] else Sticks to count reason ∷ [])
    by_test true = empty 1
    by_test false = record { few = omega arith }

few-bet : (declared : Bool) (player : Player) → IsFew 1 (bet declared player)
few-bet true player = record { few = omega arith }
few-bet false player = empty 1

few-bets : (riichi : ByPlayer Bool) → IsFew 4 (bets riichi)
unfolding bets
few-bets riichi = each 1 (λ player. bet (of_player riichi player) player) (λ player. few-bet (of_player riichi player) player)

pair : (one other winner : Player) (points more : ℕ) (reason another : Reason) → IsFew 2 (payment_move one winner points reason ++ payment_move other winner more another)
pair one other winner points more reason another =
    two 1 1 (payment_move one winner points reason) (payment_move other winner more another) (payment one winner points reason) (payment other winner more another)

few-ordinary : (dealer from winner : Player) (counters : ℕ) (worth : Worth) → IsFew 4 (ordinary_ron dealer from winner counters worth)
unfolding ordinary_ron
few-ordinary dealer from winner counters worth =
    let price = ron_price worth (is_same_player winner dealer) in
    fewer 2 4 (payment_move from winner price why.Ron ++ payment_move from winner (300 * counters) why.Counters) (omega arith)
    (pair from from winner price (300 * counters) why.Ron why.Counters)

pairs : (one other winner : Player) (a b c d : ℕ) (r s t u : Reason)
    → IsFew 4 (payment_move one winner a r ++ payment_move other winner b s ++ payment_move other winner c t ++ payment_move one winner d u)
pairs one other winner a b c d r s t u =
    two 3 1 (payment_move one winner a r ++ payment_move other winner b s ++ payment_move other winner c t) (payment_move one winner d u)
    (two 2 1 (payment_move one winner a r ++ payment_move other winner b s) (payment_move other winner c t) (pair one other winner a b r s) (payment other winner c t))
    (payment one winner d u)

few-shared : (dealer from winner : Player) (counters : ℕ) (worth : Worth) (liable : Liable) → IsFew 4 (shared_ron dealer from winner counters worth liable)
unfolding shared_ron
few-shared dealer from winner counters worth liable =
    let half = ron_price (Yakuman liable.limits) (is_same_player winner dealer) / 2 in
    pairs liable.player from winner half half (ron_price (other_limits worth liable.limits) (is_same_player winner dealer)) (300 * counters) why.Liable why.OtherHalf why.Ron why.Counters

few-won : (dealer from winner : Player) (counters : ℕ) (worth : Worth) (liable : Option Liable) → IsFew 4 (won_with dealer from winner counters worth liable)
few-won dealer from winner counters worth None = few-ordinary dealer from winner counters worth
few-won dealer from winner counters worth (Some liable) =
    either 4 (is_same_player liable.player from) (ordinary_ron dealer from winner counters worth) (shared_ron dealer from winner counters worth liable)
    (few-ordinary dealer from winner counters worth) (few-shared dealer from winner counters worth liable)

few-won_if : (dealer from winner : Player) (counters : ℕ) (win : Option Win) → IsFew 4 (won_if dealer from winner counters win)
unfolding one_ron
few-won_if dealer from winner counters None = empty 4
few-won_if dealer from winner counters (Some win) = few-won dealer from winner counters win.worth win.liable

few-win : (state : GameState) (to : CountersTo) (from : Player) (wins : ByPlayer (Option Win)) (winner : Player) → IsFew 4 (win_moves state to from wins winner)
unfolding win_moves
few-win state to from wins winner = few-won_if state.dealer from winner (counters_for state.counters to from wins winner) (of_player wins winner)

few-ron : (state : GameState) (to : CountersTo) (from : Player) (wins : ByPlayer (Option Win)) → IsFew 16 (ron_moves state to from wins)
unfolding ron_moves
few-ron state to from wins = each 4 (win_moves state to from wins) (few-win state to from wins)

few-own_bet : (has : Bool) (player : Player) → IsFew 1 (own_bet_taken has player)
few-own_bet true player = few-taken player 1 taking.OwnBet
few-own_bet false player = empty 1

few-own : (own : ByPlayer Bool) → IsFew 4 (own_taken own)
unfolding own_taken
few-own own = each 1 (λ player. own_bet_taken (of_player own player) player) (λ player. few-own_bet (of_player own player) player)

few-sticks : (to : SticksTo) (lying : ℕ) (from : Player) (wins : ByPlayer (Option Win)) (riichi : ByPlayer Bool) → IsFew 5 (sticks_won to lying from wins riichi)
unfolding sticks_won
few-sticks sticks_to.Nearest lying from wins riichi =
    fewer 1 5 (taken (nearest from wins) lying taking.Winner) (omega arith) (few-taken (nearest from wins) lying taking.Winner)
few-sticks sticks_to.Own lying from wins riichi =
    let own = own_bets wins riichi in
    let rest = lying - count_players (of_player own) in
    two 4 1 (own_taken own) (taken (nearest from wins) rest taking.Winner) (few-own own) (few-taken (nearest from wins) rest taking.Winner)

few-drawn_from : (dealer winner : Player) (worth : Worth) (counters : ℕ) (reason : Reason) (payer : Player) → IsFew 2 (drawn_from dealer winner worth counters reason payer)
unfolding drawn_from
few-drawn_from dealer winner worth counters reason payer =
    let price = price_between dealer worth payer winner in
    either 2 (is_same_player payer winner) [] (payment_move payer winner price reason ++ payment_move payer winner (100 * counters) why.Counters) (empty 2)
    (pair payer payer winner price (100 * counters) reason why.Counters)

few-drawn : (dealer winner : Player) (worth : Worth) (counters : ℕ) (reason : Reason) → IsFew 8 (drawn dealer winner worth counters reason)
unfolding drawn
few-drawn dealer winner worth counters reason = each 2 (drawn_from dealer winner worth counters reason) (few-drawn_from dealer winner worth counters reason)

-- without counters
few-plain_from : (dealer winner : Player) (worth : Worth) (reason : Reason) (payer : Player) → IsFew 1 (drawn_from dealer winner worth 0 reason payer)
unfolding drawn_from
few-plain_from dealer winner worth reason payer =
    let price = price_between dealer worth payer winner in
    either 1 (is_same_player payer winner) [] (payment_move payer winner price reason ++ []) (empty 1)
    (two 1 0 (payment_move payer winner price reason) [] (payment payer winner price reason) (empty 0))

few-plain : (dealer winner : Player) (worth : Worth) (reason : Reason) → IsFew 4 (drawn dealer winner worth 0 reason)
unfolding drawn
few-plain dealer winner worth reason = each 1 (drawn_from dealer winner worth 0 reason) (few-plain_from dealer winner worth reason)

few-liable : (state : GameState) (winner : Player) (worth : Worth) (liable : Liable) → IsFew 10 (liable_tsumo state winner worth liable)
unfolding liable_tsumo
few-liable state winner worth liable =
    let price = ron_price (Yakuman liable.limits) (is_same_player winner state.dealer) in
    let others = drawn state.dealer winner (other_limits worth liable.limits) 0 why.Tsumo in
    let counters = payment_move liable.player winner (300 * state.counters) why.Counters in
    two 9 1 (payment_move liable.player winner price why.Liable ++ others) counters
    (two 1 8 (payment_move liable.player winner price why.Liable) others (payment liable.player winner price why.Liable)
    (few-drawn state.dealer winner (other_limits worth liable.limits) 0 why.Tsumo))
    (payment liable.player winner (300 * state.counters) why.Counters)

few-tsumo_with : (state : GameState) (winner : Player) (worth : Worth) (liable : Option Liable) → IsFew 10 (tsumo_with state winner worth liable)
few-tsumo_with state winner worth None =
    fewer 8 10 (drawn state.dealer winner worth state.counters why.Tsumo) (omega arith) (few-drawn state.dealer winner worth state.counters why.Tsumo)
few-tsumo_with state winner worth (Some liable) = few-liable state winner worth liable

few-tsumo : (state : GameState) (winner : Player) (win : Win) → IsFew 10 (tsumo_moves state winner win)
unfolding tsumo_moves
few-tsumo state winner win = few-tsumo_with state winner win.worth win.liable

few-share : (ready : ByPlayer Bool) (payer payee : Player) → IsFew 1 (share_between ready payer payee)
unfolding share_between
few-share ready payer payee =
    let share = ready_share (count_players (of_player ready)) in
    either 1 (not (of_player ready payer) && of_player ready payee) (payment_move payer payee share why.Ready) [] (payment payer payee share why.Ready) (empty 1)

few-unready : (ready : ByPlayer Bool) (payer : Player) → IsFew 4 (unready_moves ready payer)
unfolding unready_moves
few-unready ready payer = each 1 (share_between ready payer) (few-share ready payer)

few-ready : (ready : ByPlayer Bool) → IsFew 16 (ready_moves ready)
unfolding ready_moves
few-ready ready = each 4 (unready_moves ready) (few-unready ready)

few-nagashi_of : (dealer : Player) (has : Bool) (player : Player) → IsFew 4 (nagashi_of dealer has player)
few-nagashi_of dealer true player = few-plain dealer player mangan why.Nagashi
few-nagashi_of dealer false player = empty 4

few-nagashi : (dealer : Player) (nagashi : ByPlayer Bool) → IsFew 16 (nagashi_moves dealer nagashi)
unfolding nagashi_moves
few-nagashi dealer nagashi = each 4 (λ player. nagashi_of dealer (of_player nagashi player) player) (λ player. few-nagashi_of dealer (of_player nagashi player) player)

few-draw : (dealer : Player) (ready nagashi : ByPlayer Bool) → IsFew 16 (draw_moves dealer ready nagashi)
unfolding draw_moves
few-draw dealer ready nagashi =
    either 16 (of_some (of_player nagashi)) (nagashi_moves dealer nagashi) (ready_moves ready) (few-nagashi dealer nagashi) (few-ready ready)

few-amends : (dealer player other : Player) → IsFew 1 (amends dealer player other)
few-amends dealer player other =
    let price = price_between dealer mangan player other in
    either 1 (is_same_player other player) [] (payment_move player other price why.Chombo) (empty 1) (payment player other price why.Chombo)

few-chombo : (cost : ChomboCost) (dealer player : Player) → IsFew 4 (chombo_moves cost dealer player)
unfolding chombo_moves
few-chombo (cost.Points points) dealer player = empty 4
few-chombo cost.Mangan dealer player = each 1 (amends dealer player) (few-amends dealer player)

-- ---- whole outcomes

few-played : (state : GameState) (rules : TableRules) (outcome : Outcome) → IsFew 25 (moves_as_played state rules outcome)
unfolding moves_as_played
few-played state rules (Ron from wins riichi) =
    let won = ron_moves state rules.counters from wins in
    let sticks = sticks_won rules.sticks (sticks_lying state riichi) from wins riichi in
    two 20 5 (bets riichi ++ won) sticks (two 4 16 (bets riichi) won (few-bets riichi) (few-ron state rules.counters from wins))
    (few-sticks rules.sticks (sticks_lying state riichi) from wins riichi)
few-played state rules (Tsumo winner win riichi) =
    let sticks = taken winner (sticks_lying state riichi) taking.Winner in
    fewer 15 25 ((bets riichi ++ tsumo_moves state winner win) ++ sticks) (omega arith)
    (two 14 1 (bets riichi ++ tsumo_moves state winner win) sticks (two 4 10 (bets riichi) (tsumo_moves state winner win) (few-bets riichi) (few-tsumo state winner win))
    (few-taken winner (sticks_lying state riichi) taking.Winner))
few-played state rules (Draw ready nagashi riichi) =
    fewer 20 25 (bets riichi ++ draw_moves state.dealer ready nagashi) (omega arith)
    (two 4 16 (bets riichi) (draw_moves state.dealer ready nagashi) (few-bets riichi) (few-draw state.dealer ready nagashi))
few-played state rules (Abort riichi) = fewer 4 25 (bets riichi) (omega arith) (few-bets riichi)
few-played state rules (Chombo player) =
    fewer 4 25 (chombo_moves rules.chombo state.dealer player) (omega arith) (few-chombo rules.chombo state.dealer player)
few-played state rules (Penalty player points) = empty 25
few-played state rules (Stands written) = empty 25
few-played state rules End = empty 25

pub few_moves : (state : GameState) (rules : TableRules) (outcome : Outcome) → length (moves_of state rules outcome) ≤ 25
unfolding moves_of
few_moves state rules outcome = (few-played state rules (as_played rules outcome)).few
