-- What is paid for a win, and who takes the sticks.
use Rattle.std.specs.Prelude.{ℕ, ◌-◌, ◌*◌, ◌/◌, Bool, ◌&&◌, ◌||◌, if◌then◌else◌, Option, Some, None, List, [], ◌++◌}
use Rattle.riichi_table.specs.Players.{of_player, by_players, is_same_player, count_players}
use Rattle.riichi_table.specs.Worths.{limits_of_worth}
use Rattle.riichi_table.specs.declared.player.Player.{Player}
use Rattle.riichi_table.specs.declared.player.ByPlayer.{ByPlayer}
use Rattle.riichi_table.specs.declared.rules.CountersTo.{CountersTo}
use Rattle.riichi_table.specs.declared.rules.CountersTo.TheVariants as counters_to
use Rattle.riichi_table.specs.declared.rules.SticksTo.{SticksTo}
use Rattle.riichi_table.specs.declared.rules.SticksTo.TheVariants as sticks_to
use Rattle.riichi_table.specs.declared.state.GameState.{GameState}
use Rattle.riichi_table.specs.declared.worth.Worth.{Worth}
use Rattle.riichi_table.specs.declared.worth.Worth.TheVariants.{Yakuman}
use Rattle.riichi_table.specs.declared.outcome.Liable.{Liable}
use Rattle.riichi_table.specs.declared.outcome.Win.{Win}
use Rattle.riichi_settle.specs.Moves.{payment_move, taken, each_player}
use Rattle.riichi_settle.specs.Prices.{ron_price, tsumo_price}
use Rattle.riichi_settle.specs.Winners.{wins_of, nearest}
use Rattle.riichi_settle.specs.declared.moved.Move.{Move}
use Rattle.riichi_settle.specs.declared.moved.Reason.{Reason}
use Rattle.riichi_settle.specs.declared.moved.Reason.TheVariants as why
use Rattle.riichi_settle.specs.declared.moved.Taking.TheVariants as taking

-- the limits of a hand that nobody is liable for
abbrev pub other_limits : Worth → ℕ → Worth
other_limits worth liable = Yakuman (limits_of_worth worth - liable)

-- ---- a win on a discard

-- the discarder pays the price of the hand, and 300 for each counter
unfoldable pub ordinary_ron : Player → Player → Player → ℕ → Worth → List Move
ordinary_ron dealer from winner counters worth =
    payment_move from winner (ron_price worth (is_same_player winner dealer)) why.Ron ++ payment_move from winner (300 * counters) why.Counters

-- who is liable pays half of the price of these limits, and the counters; the discarder the other half, and the other limits
unfoldable pub shared_ron : Player → Player → Player → ℕ → Worth → Liable → List Move
shared_ron dealer from winner counters worth liable =
    let half = ron_price (Yakuman liable.limits) (is_same_player winner dealer) / 2 in
    payment_move liable.player winner half why.Liable
    ++ payment_move from winner half why.OtherHalf
    ++ payment_move from winner (ron_price (other_limits worth liable.limits) (is_same_player winner dealer)) why.Ron
    ++ payment_move liable.player winner (300 * counters) why.Counters

abbrev pub won_with : Player → Player → Player → ℕ → Worth → Option Liable → List Move
won_with dealer from winner counters worth None = ordinary_ron dealer from winner counters worth
won_with dealer from winner counters worth (Some liable) =
    if is_same_player liable.player from then ordinary_ron dealer from winner counters worth
    else shared_ron dealer from winner counters worth liable

-- a discarder who is liable pays as ever
unfoldable pub one_ron : Player → Player → Player → ℕ → Win → List Move
one_ron dealer from winner counters win = won_with dealer from winner counters win.worth win.liable

-- the counters are paid to the nearest of the winners, or to each
abbrev pub counters_for : ℕ → CountersTo → Player → ByPlayer (Option Win) → Player → ℕ
counters_for counters counters_to.Each from wins winner = counters
counters_for counters counters_to.Nearest from wins winner = if is_same_player winner (nearest from wins) then counters else 0

abbrev pub won_if : Player → Player → Player → ℕ → Option Win → List Move
won_if dealer from winner counters None = []
won_if dealer from winner counters (Some win) = one_ron dealer from winner counters win

unfoldable pub win_moves : GameState → CountersTo → Player → ByPlayer (Option Win) → Player → List Move
win_moves state to from wins winner =
    won_if state.dealer from winner (counters_for state.counters to from wins winner) (of_player wins winner)

-- what is paid to each who wins on a discard
unfoldable pub ron_moves : GameState → CountersTo → Player → ByPlayer (Option Win) → List Move
ron_moves state to from wins = each_player (win_moves state to from wins)

-- ---- the sticks

-- who wins, and has bet in the deal
abbrev pub own_bets : ByPlayer (Option Win) → ByPlayer Bool → ByPlayer Bool
own_bets wins riichi = by_players (λ player. wins_of wins player && of_player riichi player)

abbrev pub own_bet_taken : Bool → Player → List Move
own_bet_taken has player = if has then taken player 1 taking.OwnBet else []

unfoldable pub own_taken : ByPlayer Bool → List Move
own_taken own = each_player (λ player. own_bet_taken (of_player own player) player)

-- the nearest of the winners takes all sticks; or each the own bet of the deal, and the nearest the rest
unfoldable pub sticks_won : SticksTo → ℕ → Player → ByPlayer (Option Win) → ByPlayer Bool → List Move
sticks_won sticks_to.Nearest lying from wins riichi = taken (nearest from wins) lying taking.Winner
sticks_won sticks_to.Own lying from wins riichi =
    own_taken (own_bets wins riichi)
    ++ taken (nearest from wins) (lying - count_players (of_player (own_bets wins riichi))) taking.Winner

-- ---- a self-draw, and what is paid like one

-- a payment between two of whom one is dealer is twice that between others
abbrev pub price_between : Player → Worth → Player → Player → ℕ
price_between dealer worth payer payee = tsumo_price worth (is_same_player payer dealer || is_same_player payee dealer)

unfoldable pub drawn_from : Player → Player → Worth → ℕ → Reason → Player → List Move
drawn_from dealer winner worth counters reason payer =
    if is_same_player payer winner then []
    else payment_move payer winner (price_between dealer worth payer winner) reason ++ payment_move payer winner (100 * counters) why.Counters

-- each other player pays the winner, and 100 for each counter
unfoldable pub drawn : Player → Player → Worth → ℕ → Reason → List Move
drawn dealer winner worth counters reason = each_player (drawn_from dealer winner worth counters reason)

-- who is liable pays for these limits as a discarder would, and the counters; all others pay for the other limits
unfoldable pub liable_tsumo : GameState → Player → Worth → Liable → List Move
liable_tsumo state winner worth liable =
    payment_move liable.player winner (ron_price (Yakuman liable.limits) (is_same_player winner state.dealer)) why.Liable
    ++ drawn state.dealer winner (other_limits worth liable.limits) 0 why.Tsumo
    ++ payment_move liable.player winner (300 * state.counters) why.Counters

abbrev pub tsumo_with : GameState → Player → Worth → Option Liable → List Move
tsumo_with state winner worth None = drawn state.dealer winner worth state.counters why.Tsumo
tsumo_with state winner worth (Some liable) = liable_tsumo state winner worth liable

unfoldable pub tsumo_moves : GameState → Player → Win → List Move
tsumo_moves state winner win = tsumo_with state winner win.worth win.liable
