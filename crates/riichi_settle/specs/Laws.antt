-- Laws of what outcomes move.
use Rattle.std.specs.Prelude.{◌≡◌, ℕ, ◌+◌, ◌*◌, ◌≤◌, Bool, false, if◌then◌else◌, ℤ, pos, neg_ℤ, ◌+ℤ◌, Option, Some, None, List}
use Rattle.std.specs.List.{sum_by}
use Rattle.riichi_score.specs.Payment.{by_ron, by_tsumo, paid, gain_of}
use Rattle.riichi_score.specs.declared.payers.Payment.{Payment}
use Rattle.riichi_score.specs.declared.payers.Payment.TheVariants as payment
use Rattle.riichi_table.specs.Players.{with_player, same_for_all, is_same_player, over_players, sum_over_players}
use Rattle.riichi_table.specs.Worths.{base_of_worth}
use Rattle.riichi_table.specs.declared.player.Player.{Player}
use Rattle.riichi_table.specs.declared.player.ByPlayer.{ByPlayer}
use Rattle.riichi_table.specs.declared.rules.TableRules.{TableRules}
use Rattle.riichi_table.specs.declared.state.GameState.{GameState}
use Rattle.riichi_table.specs.declared.worth.Worth.{Worth}
use Rattle.riichi_table.specs.declared.outcome.Win.{Win}
use Rattle.riichi_table.specs.declared.outcome.Outcome.{Outcome}
use Rattle.riichi_table.specs.declared.outcome.Outcome.TheVariants.{Ron, Tsumo}
use Rattle.riichi_settle.specs.Settled.{got_by, given_by, sticks_bet, sticks_taken, change_by, sticks_by, moves_of}
use Rattle.riichi_settle.specs.declared.moved.Move.{Move}

-- ---- nothing is lost or made

-- whatever is moved, all that is given, with the sticks that are taken, is all that is got, with the sticks that are bet
abbrev pub MovesBalance : Type 0
MovesBalance = (moves : List Move)
    → over_players (λ player. sum_by (got_by player) moves) + 1000 * sum_by sticks_bet moves
    ≡ over_players (λ player. sum_by (given_by player) moves) + 1000 * sum_by sticks_taken moves

-- no more sticks are taken than lie on the table with the bets
abbrev pub TakesWhatLies : Type 0
TakesWhatLies = (state : GameState) (rules : TableRules) (outcome : Outcome)
    → sum_by sticks_taken (moves_of state rules outcome) ≤ state.sticks + sum_by sticks_bet (moves_of state rules outcome)

-- so the changes of the four, and 1000 for each stick afterwards, are 1000 for each stick before
abbrev pub ChangesCancel : Type 0
ChangesCancel = (state : GameState) (rules : TableRules) (outcome : Outcome)
    → sum_over_players (change_by (moves_of state rules outcome)) +ℤ pos (1000 * sticks_by state.sticks (moves_of state rules outcome))
    ≡ pos (1000 * state.sticks)

-- ---- one who wins alone, with no bet in the deal and nobody liable

abbrev pub nobody : ByPlayer Bool
nobody = same_for_all false

-- a hand that nobody is liable for
abbrev pub plain : Worth → Win
plain worth = record { worth = worth; liable = None }

-- one wins, and no other
abbrev pub lone_win : Player → Worth → ByPlayer (Option Win)
lone_win winner worth = with_player (same_for_all None) winner (Some (plain worth))

abbrev pub lone_ron : Player → Player → Worth → Outcome
lone_ron from winner worth = Ron from (lone_win winner worth) nobody

abbrev pub lone_tsumo : Player → Worth → Outcome
lone_tsumo winner worth = Tsumo winner (plain worth) nobody

-- what the score of the hand says that is paid
abbrev pub ron_payment : GameState → Player → Worth → Payment
ron_payment state winner worth = by_ron (base_of_worth worth) (is_same_player winner state.dealer) state.counters

abbrev pub tsumo_payment : GameState → Player → Worth → Payment
tsumo_payment state winner worth = by_tsumo (base_of_worth worth) (is_same_player winner state.dealer) state.counters

-- what one who is dealer, or is not, pays
abbrev pub share_of_payment : Payment → Bool → ℕ
share_of_payment (payment.Ron points) dealer = points
share_of_payment (payment.Tsumo other of_dealer) dealer = if dealer then of_dealer else other
share_of_payment (payment.DealerTsumo each) dealer = each

abbrev pub change_of : GameState → TableRules → Outcome → Player → ℤ
change_of state rules outcome player = change_by (moves_of state rules outcome) player

-- the winner has the gain of the score, the discarder pays what the score says, and nobody else pays
abbrev pub ron_change : GameState → Player → Player → Worth → Player → ℤ
ron_change state from winner worth player =
    if is_same_player winner player then pos (gain_of (ron_payment state winner worth) state.sticks)
    else if is_same_player from player then neg_ℤ (pos (paid (ron_payment state winner worth)))
    else pos 0

abbrev pub SettlesLoneRon : Type 0
SettlesLoneRon = (state : GameState) (rules : TableRules) (from winner player : Player) (worth : Worth) → is_same_player from winner ≡ false
    → change_of state rules (lone_ron from winner worth) player ≡ ron_change state from winner worth player

-- the winner has the gain of the score, and each other player pays what the score says
abbrev pub tsumo_change : GameState → Player → Worth → Player → ℤ
tsumo_change state winner worth player =
    if is_same_player winner player then pos (gain_of (tsumo_payment state winner worth) state.sticks)
    else neg_ℤ (pos (share_of_payment (tsumo_payment state winner worth) (is_same_player player state.dealer)))

abbrev pub SettlesLoneTsumo : Type 0
SettlesLoneTsumo = (state : GameState) (rules : TableRules) (winner player : Player) (worth : Worth)
    → change_of state rules (lone_tsumo winner worth) player ≡ tsumo_change state winner worth player
