-- No more sticks are taken than lie.
use Rattle.std.proofs.Common.{◌≡◌, ℕ, ◌+◌, ◌-◌, ◌*◌, ◌/◌, ◌≤◌, Bool, true, false, not, ◌&&◌, List, [], ◌++◌, Option, Some, None, refl, arith, if◌then◌else◌}
use Rattle.std.specs.List.{sum_by}
use Rattle.std.proofs.lemmas.List.Sums.{sum_by-append}
use Rattle.riichi_table.specs.Players.{of_player, is_same_player, count_players, of_some, one_where}
use Rattle.riichi_table.specs.declared.player.Player.{Player}
use Rattle.riichi_table.specs.declared.player.Player.TheVariants.{First, Second, Third, Fourth}
use Rattle.riichi_table.specs.declared.player.ByPlayer.{ByPlayer}
use Rattle.riichi_table.specs.declared.rules.TableRules.{TableRules}
use Rattle.riichi_table.specs.declared.rules.CountersTo.{CountersTo}
use Rattle.riichi_table.specs.declared.rules.SticksTo.{SticksTo}
use Rattle.riichi_table.specs.declared.rules.SticksTo.TheVariants as sticks_to
use Rattle.riichi_table.specs.declared.rules.ChomboCost.{ChomboCost}
use Rattle.riichi_table.specs.declared.rules.ChomboCost.TheVariants as cost
use Rattle.riichi_table.specs.declared.state.GameState.{GameState}
use Rattle.riichi_table.specs.declared.worth.Worth.{Worth}
use Rattle.riichi_table.specs.declared.worth.Worth.TheVariants.{Yakuman}
use Rattle.riichi_table.specs.declared.outcome.Liable.{Liable}
use Rattle.riichi_table.specs.declared.outcome.Win.{Win}
use Rattle.riichi_table.specs.declared.outcome.Outcome.{Outcome}
use Rattle.riichi_table.specs.declared.outcome.Outcome.TheVariants.{Ron, Tsumo, Draw, Abort, Chombo, Penalty, Stands, End}
use Rattle.riichi_settle.specs.Moves.{payment_move, taken, each_player, bet, bets}
use Rattle.riichi_settle.specs.Winners.{wins_of, nearest, as_played}
use Rattle.riichi_settle.specs.Wins.{ordinary_ron, shared_ron, won_with, one_ron, won_if, win_moves, counters_for, ron_moves, own_bets, own_bet_taken, own_taken, sticks_won, drawn_from, drawn, liable_tsumo, tsumo_with, tsumo_moves, price_between, other_limits}
use Rattle.riichi_settle.specs.Prices.{ron_price}
use Rattle.riichi_settle.specs.Draws.{share_between, unready_moves, ready_moves, nagashi_of, nagashi_moves, draw_moves, amends, chombo_moves, ready_share, mangan}
use Rattle.riichi_settle.specs.Settled.{sticks_bet, sticks_taken, sticks_lying, moves_as_played, moves_of}
use Rattle.riichi_settle.specs.Laws.{TakesWhatLies}
use Rattle.riichi_settle.proofs.Flows.{taken-paid, taken-taken, sum-each}
use Rattle.riichi_settle.specs.declared.moved.Move.{Move}
use Rattle.riichi_settle.specs.declared.moved.Reason.{Reason}
use Rattle.riichi_settle.specs.declared.moved.Reason.TheVariants as why
use Rattle.riichi_settle.specs.declared.moved.Taking.TheVariants as taking

-- the sticks that a list takes
abbrev takes : List Move → ℕ
takes moves = sum_by sticks_taken moves

-- a list that takes none
record TakesNone (moves : List Move) : Type 0 where
  none : takes moves ≡ 0

empty : TakesNone []
empty = record { none = refl }

payment : (from to : Player) (points : ℕ) (why : Reason) → TakesNone (payment_move from to points why)
payment from to points why = record { none = taken-paid from to points why }

two : (xs ys : List Move) → TakesNone xs → TakesNone ys → TakesNone (xs ++ ys)
two xs ys none others = record { none = omega (arith, sum_by-append sticks_taken xs ys) }

either : (holds : Bool) (xs ys : List Move) → TakesNone xs → TakesNone ys → TakesNone (if holds then xs else ys)
either true xs ys none others = none
either false xs ys none others = others

four : (f : Player → List Move) → TakesNone (f First) → TakesNone (f Second) → TakesNone (f Third) → TakesNone (f Fourth) → TakesNone (each_player f)
four f first second third fourth = record { none = omega (arith, sum-each sticks_taken f) }

each : (f : Player → List Move) → ((player : Player) → TakesNone (f player)) → TakesNone (each_player f)
each f none = four f (none First) (none Second) (none Third) (none Fourth)

-- ---- nothing but sticks is taken from the table

no-bet : (declared : Bool) (player : Player) → TakesNone (bet declared player)
no-bet true player = record { none = refl }
no-bet false player = record { none = refl }

no-bets : (riichi : ByPlayer Bool) → TakesNone (bets riichi)
unfolding bets
no-bets riichi = each (λ player. bet (of_player riichi player) player) (λ player. no-bet (of_player riichi player) player)

no-ordinary : (dealer from winner : Player) (counters : ℕ) (worth : Worth) → TakesNone (ordinary_ron dealer from winner counters worth)
unfolding ordinary_ron
no-ordinary dealer from winner counters worth =
    two (payment_move from winner (ron_price worth (is_same_player winner dealer)) why.Ron) (payment_move from winner (300 * counters) why.Counters)
    (payment from winner (ron_price worth (is_same_player winner dealer)) why.Ron) (payment from winner (300 * counters) why.Counters)

pair : (one other : Player) (winner : Player) (points more : ℕ) (reason another : Reason) → TakesNone (payment_move one winner points reason ++ payment_move other winner more another)
pair one other winner points more reason another =
    two (payment_move one winner points reason) (payment_move other winner more another) (payment one winner points reason) (payment other winner more another)

pairs : (one other : Player) (winner : Player) (a b c d : ℕ) (r s t u : Reason)
    → TakesNone (payment_move one winner a r ++ payment_move other winner b s ++ payment_move other winner c t ++ payment_move one winner d u)
pairs one other winner a b c d r s t u =
    two (payment_move one winner a r ++ payment_move other winner b s ++ payment_move other winner c t) (payment_move one winner d u)
    (two (payment_move one winner a r ++ payment_move other winner b s) (payment_move other winner c t) (pair one other winner a b r s) (payment other winner c t))
    (payment one winner d u)

no-shared : (dealer from winner : Player) (counters : ℕ) (worth : Worth) (liable : Liable) → TakesNone (shared_ron dealer from winner counters worth liable)
unfolding shared_ron
no-shared dealer from winner counters worth liable =
    let half = ron_price (Yakuman liable.limits) (is_same_player winner dealer) / 2 in
    pairs liable.player from winner half half (ron_price (other_limits worth liable.limits) (is_same_player winner dealer)) (300 * counters) why.Liable why.OtherHalf why.Ron why.Counters

no-won : (dealer from winner : Player) (counters : ℕ) (worth : Worth) (liable : Option Liable) → TakesNone (won_with dealer from winner counters worth liable)
no-won dealer from winner counters worth None = no-ordinary dealer from winner counters worth
no-won dealer from winner counters worth (Some liable) =
    either (is_same_player liable.player from) (ordinary_ron dealer from winner counters worth) (shared_ron dealer from winner counters worth liable)
    (no-ordinary dealer from winner counters worth) (no-shared dealer from winner counters worth liable)

no-won_if : (dealer from winner : Player) (counters : ℕ) (win : Option Win) → TakesNone (won_if dealer from winner counters win)
unfolding one_ron
no-won_if dealer from winner counters None = empty
no-won_if dealer from winner counters (Some win) = no-won dealer from winner counters win.worth win.liable

no-win : (state : GameState) (to : CountersTo) (from : Player) (wins : ByPlayer (Option Win)) (winner : Player) → TakesNone (win_moves state to from wins winner)
unfolding win_moves
no-win state to from wins winner = no-won_if state.dealer from winner (counters_for state.counters to from wins winner) (of_player wins winner)

no-ron : (state : GameState) (to : CountersTo) (from : Player) (wins : ByPlayer (Option Win)) → TakesNone (ron_moves state to from wins)
unfolding ron_moves
no-ron state to from wins = each (win_moves state to from wins) (no-win state to from wins)

no-drawn_from : (dealer winner : Player) (worth : Worth) (counters : ℕ) (reason : Reason) (payer : Player) → TakesNone (drawn_from dealer winner worth counters reason payer)
unfolding drawn_from
no-drawn_from dealer winner worth counters reason payer =
    let price = price_between dealer worth payer winner in
    either (is_same_player payer winner) [] (payment_move payer winner price reason ++ payment_move payer winner (100 * counters) why.Counters) empty
    (pair payer payer winner price (100 * counters) reason why.Counters)

no-drawn : (dealer winner : Player) (worth : Worth) (counters : ℕ) (reason : Reason) → TakesNone (drawn dealer winner worth counters reason)
unfolding drawn
no-drawn dealer winner worth counters reason = each (drawn_from dealer winner worth counters reason) (no-drawn_from dealer winner worth counters reason)

no-liable : (state : GameState) (winner : Player) (worth : Worth) (liable : Liable) → TakesNone (liable_tsumo state winner worth liable)
unfolding liable_tsumo
no-liable state winner worth liable =
    let price = ron_price (Yakuman liable.limits) (is_same_player winner state.dealer) in
    let others = drawn state.dealer winner (other_limits worth liable.limits) 0 why.Tsumo in
    let counters = payment_move liable.player winner (300 * state.counters) why.Counters in
    two (payment_move liable.player winner price why.Liable ++ others) counters
    (two (payment_move liable.player winner price why.Liable) others (payment liable.player winner price why.Liable)
    (no-drawn state.dealer winner (other_limits worth liable.limits) 0 why.Tsumo))
    (payment liable.player winner (300 * state.counters) why.Counters)

no-tsumo_with : (state : GameState) (winner : Player) (worth : Worth) (liable : Option Liable) → TakesNone (tsumo_with state winner worth liable)
no-tsumo_with state winner worth None = no-drawn state.dealer winner worth state.counters why.Tsumo
no-tsumo_with state winner worth (Some liable) = no-liable state winner worth liable

no-tsumo : (state : GameState) (winner : Player) (win : Win) → TakesNone (tsumo_moves state winner win)
unfolding tsumo_moves
no-tsumo state winner win = no-tsumo_with state winner win.worth win.liable

no-share : (ready : ByPlayer Bool) (payer payee : Player) → TakesNone (share_between ready payer payee)
unfolding share_between
no-share ready payer payee =
    let share = ready_share (count_players (of_player ready)) in
    either (not (of_player ready payer) && of_player ready payee) (payment_move payer payee share why.Ready) [] (payment payer payee share why.Ready) empty

no-unready : (ready : ByPlayer Bool) (payer : Player) → TakesNone (unready_moves ready payer)
unfolding unready_moves
no-unready ready payer = each (share_between ready payer) (no-share ready payer)

no-ready : (ready : ByPlayer Bool) → TakesNone (ready_moves ready)
unfolding ready_moves
no-ready ready = each (unready_moves ready) (no-unready ready)

no-nagashi_of : (dealer : Player) (has : Bool) (player : Player) → TakesNone (nagashi_of dealer has player)
no-nagashi_of dealer true player = no-drawn dealer player mangan 0 why.Nagashi
no-nagashi_of dealer false player = empty

no-nagashi : (dealer : Player) (nagashi : ByPlayer Bool) → TakesNone (nagashi_moves dealer nagashi)
unfolding nagashi_moves
no-nagashi dealer nagashi = each (λ player. nagashi_of dealer (of_player nagashi player) player) (λ player. no-nagashi_of dealer (of_player nagashi player) player)

no-draw : (dealer : Player) (ready nagashi : ByPlayer Bool) → TakesNone (draw_moves dealer ready nagashi)
unfolding draw_moves
no-draw dealer ready nagashi =
    either (of_some (of_player nagashi)) (nagashi_moves dealer nagashi) (ready_moves ready) (no-nagashi dealer nagashi) (no-ready ready)

no-amends : (dealer player other : Player) → TakesNone (amends dealer player other)
no-amends dealer player other =
    let price = price_between dealer mangan player other in
    either (is_same_player other player) [] (payment_move player other price why.Chombo) empty (payment player other price why.Chombo)

no-chombo : (cost : ChomboCost) (dealer player : Player) → TakesNone (chombo_moves cost dealer player)
unfolding chombo_moves
no-chombo (cost.Points points) dealer player = empty
no-chombo cost.Mangan dealer player = each (amends dealer player) (no-amends dealer player)

-- ---- the sticks of a win

own_taken-one : (has : Bool) (player : Player) → takes (own_bet_taken has player) ≡ one_where has
own_taken-one true player = refl
own_taken-one false player = refl

own_taken-count : (own : ByPlayer Bool) → takes (own_taken own) ≡ count_players (of_player own)
unfolding own_taken
own_taken-count own =
    omega (
      arith,
      sum-each sticks_taken (λ player. own_bet_taken (of_player own player) player),
      own_taken-one own.first First,
      own_taken-one own.second Second,
      own_taken-one own.third Third,
      own_taken-one own.fourth Fourth,
    )

fewer : (wins declared : Bool) → one_where (wins && declared) ≤ one_where declared
fewer true true = omega arith
fewer true false = omega arith
fewer false true = omega arith
fewer false false = omega arith

own_bets-fewer : (wins : ByPlayer (Option Win)) (riichi : ByPlayer Bool) → count_players (of_player (own_bets wins riichi)) ≤ count_players (of_player riichi)
own_bets-fewer wins riichi =
    omega (
      arith,
      fewer (wins_of wins First) riichi.first,
      fewer (wins_of wins Second) riichi.second,
      fewer (wins_of wins Third) riichi.third,
      fewer (wins_of wins Fourth) riichi.fourth,
    )

-- a win takes all that lies
pub sticks_won-all : (to : SticksTo) (sticks : ℕ) (from : Player) (wins : ByPlayer (Option Win)) (riichi : ByPlayer Bool)
    → takes (sticks_won to (sticks + count_players (of_player riichi)) from wins riichi) ≡ sticks + count_players (of_player riichi)
unfolding sticks_won
sticks_won-all sticks_to.Nearest sticks from wins riichi = taken-taken (nearest from wins) (sticks + count_players (of_player riichi)) taking.Winner
sticks_won-all sticks_to.Own sticks from wins riichi =
    let own = own_bets wins riichi in
    let rest = (sticks + count_players (of_player riichi)) - count_players (of_player own) in
    omega (
      arith,
      sum_by-append sticks_taken (own_taken own) (taken (nearest from wins) rest taking.Winner),
      own_taken-count own,
      own_bets-fewer wins riichi,
      taken-taken (nearest from wins) rest taking.Winner,
    )

-- ---- the bets

bet-one : (declared : Bool) (player : Player) → sum_by sticks_bet (bet declared player) ≡ one_where declared
bet-one true player = refl
bet-one false player = refl

pub bets-count : (riichi : ByPlayer Bool) → sum_by sticks_bet (bets riichi) ≡ count_players (of_player riichi)
unfolding bets
bets-count riichi =
    omega (
      arith,
      sum-each sticks_bet (λ player. bet (of_player riichi player) player),
      bet-one riichi.first First,
      bet-one riichi.second Second,
      bet-one riichi.third Third,
      bet-one riichi.fourth Fourth,
    )

-- ---- together

few : (riichi : ByPlayer Bool) (sticks : ℕ) (rest : List Move) → takes rest ≤ sticks + count_players (of_player riichi)
    → takes (bets riichi ++ rest) ≤ sticks + sum_by sticks_bet (bets riichi ++ rest)
few riichi sticks rest most =
    omega (arith, sum_by-append sticks_taken (bets riichi) rest, sum_by-append sticks_bet (bets riichi) rest, (no-bets riichi).none, bets-count riichi)

-- after the bets what is paid takes no stick, and the winner no more than lie
won_few : (riichi : ByPlayer Bool) (sticks : ℕ) (payments winnings : List Move) → TakesNone payments → takes winnings ≡ sticks + count_players (of_player riichi)
    → takes (bets riichi ++ payments ++ winnings) ≤ sticks + sum_by sticks_bet (bets riichi ++ payments ++ winnings)
won_few riichi sticks payments winnings none all =
    omega (
      arith,
      sum_by-append sticks_taken (bets riichi ++ payments) winnings,
      sum_by-append sticks_taken (bets riichi) payments,
      sum_by-append sticks_bet (bets riichi ++ payments) winnings,
      sum_by-append sticks_bet (bets riichi) payments,
      (no-bets riichi).none,
      none.none,
      bets-count riichi,
    )

none_few : (sticks : ℕ) (moves : List Move) → takes moves ≡ 0 → takes moves ≤ sticks + sum_by sticks_bet moves
none_few sticks moves none = omega arith

as_played-few : (state : GameState) (rules : TableRules) (outcome : Outcome)
    → takes (moves_as_played state rules outcome) ≤ state.sticks + sum_by sticks_bet (moves_as_played state rules outcome)
unfolding moves_as_played
as_played-few state rules (Ron from wins riichi) =
    won_few riichi state.sticks (ron_moves state rules.counters from wins) (sticks_won rules.sticks (sticks_lying state riichi) from wins riichi)
    (no-ron state rules.counters from wins) (sticks_won-all rules.sticks state.sticks from wins riichi)
as_played-few state rules (Tsumo winner win riichi) =
    won_few riichi state.sticks (tsumo_moves state winner win) (taken winner (sticks_lying state riichi) taking.Winner)
    (no-tsumo state winner win) (taken-taken winner (sticks_lying state riichi) taking.Winner)
as_played-few state rules (Draw ready nagashi riichi) =
    let moves = draw_moves state.dealer ready nagashi in
    let most : takes moves ≤ state.sticks + count_players (of_player riichi) = omega (arith, (no-draw state.dealer ready nagashi).none) in
    few riichi state.sticks moves most
as_played-few state rules (Abort riichi) = none_few state.sticks (bets riichi) (no-bets riichi).none
as_played-few state rules (Chombo player) = none_few state.sticks (chombo_moves rules.chombo state.dealer player) (no-chombo rules.chombo state.dealer player).none
as_played-few state rules (Penalty player points) = omega arith
as_played-few state rules (Stands written) = omega arith
as_played-few state rules End = omega arith

pub takes_what_lies : TakesWhatLies
unfolding moves_of
takes_what_lies state rules outcome = as_played-few state rules (as_played rules outcome)
