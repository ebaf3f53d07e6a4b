-- The points of the four after a player has won alone, with nobody liable.
use Rattle.std.specs.Prelude.{ℕ, ◌+◌, ◌*◌, Bool, false, if◌then◌else◌, ℤ, pos, ◌+ℤ◌, ◌-ℤ◌}
use Rattle.riichi_hand.specs.declared.win.By.{By}
use Rattle.riichi_hand.specs.declared.win.By.TheVariants as by
use Rattle.riichi_score.specs.Payment.{paid_for, paid, gain_of}
use Rattle.riichi_score.specs.declared.payers.Payment.{Payment}
use Rattle.riichi_table.specs.Players.{of_player, by_players, with_player, is_same_player, count_players}
use Rattle.riichi_table.specs.declared.player.Player.{Player}
use Rattle.riichi_table.specs.declared.player.ByPlayer.{ByPlayer}
use Rattle.riichi_settle.specs.Laws.{share_of_payment}
use Rattle.riichi_need.specs.declared.question.Question.{Question}
use Rattle.riichi_need.specs.declared.question.Way.{Way}
use Rattle.riichi_need.specs.declared.question.Way.TheVariants.{Ron, Tsumo}

abbrev pub way_by : Way → By
way_by (Ron from) = by.Ron
way_by Tsumo = by.Tsumo

-- what is paid for so many base points
abbrev pub payment_for : Question → Way → ℕ → Payment
payment_for question way base = paid_for base (way_by way) (is_same_player question.player question.state.dealer) question.state.counters

-- what a player pays who doesn't win: the discarder all, and at a self-draw each a share
abbrev pub pays : Question → Way → ℕ → Player → ℕ
pays question (Ron from) base player = if is_same_player player from then paid (payment_for question (Ron from) base) else 0
pays question Tsumo base player = share_of_payment (payment_for question Tsumo base) (is_same_player player question.state.dealer)

-- the bets of the deal but the winner's own, which comes back
abbrev pub other_bets : Question → ByPlayer Bool
other_bets question = with_player question.bets question.player false

-- what is paid, and 1000 for each stick on the table and each bet of another
abbrev pub gains : Question → Way → ℕ → ℕ
gains question way base =
    gain_of (payment_for question way base) question.state.sticks + 1000 * count_players (of_player (other_bets question))

abbrev pub gives : Question → Way → ℕ → Player → ℕ
gives question way base player = pays question way base player + (if of_player (other_bets question) player then 1000 else 0)

-- the points of a player then
unfoldable pub points_then : Question → Way → ℕ → Player → ℤ
points_then question way base player =
    if is_same_player player question.player then of_player question.state.points player +ℤ pos (gains question way base)
    else of_player question.state.points player -ℤ pos (gives question way base player)

abbrev pub all_points_then : Question → Way → ℕ → ByPlayer ℤ
all_points_then question way base = by_players (points_then question way base)
