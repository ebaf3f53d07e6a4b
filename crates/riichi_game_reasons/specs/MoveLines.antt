-- What an outcome moves, in words: a line for each move.
use Rattle.std.specs.Prelude.{ℕ, ◌*◌, ◌==◌, List, [], ◌++◌, codes, decimal, Bool, true, not, if◌then◌else◌, Option, None, Some}
use Rattle.riichi_table.specs.Players.{of_player, is_same_player}
use Rattle.riichi_table.specs.declared.player.Player.{Player}
use Rattle.riichi_table.specs.declared.player.ByPlayer.{ByPlayer}
use Rattle.riichi_table.specs.declared.worth.Worth.{Worth}
use Rattle.riichi_table.specs.declared.worth.Worth.TheVariants.{Counted, Yakuman}
use Rattle.riichi_table.specs.declared.outcome.Liable.{Liable}
use Rattle.riichi_table.specs.declared.outcome.Win.{Win}
use Rattle.riichi_table.specs.declared.outcome.Outcome.{Outcome}
use Rattle.riichi_table.specs.declared.outcome.Outcome.TheVariants as outcomes
use Rattle.riichi_settle.specs.Wins.{other_limits}
use Rattle.riichi_settle.specs.declared.moved.Move.{Move}
use Rattle.riichi_settle.specs.declared.moved.Move.TheVariants.{Points, Bet, Sticks}
use Rattle.riichi_settle.specs.declared.moved.Reason.{Reason}
use Rattle.riichi_settle.specs.declared.moved.Reason.TheVariants as reasons
use Rattle.riichi_settle.specs.declared.moved.Taking.{Taking}
use Rattle.riichi_settle.specs.declared.moved.Taking.TheVariants as takings
use Rattle.riichi_game.specs.Outcomes.{wins_in}

-- ---- what a hand is worth

-- a limit hand by its name, any other hand by its base points
abbrev pub counted_words : ℕ → List ℕ
counted_words base =
    if base == 2000 then codes "mangan"
    else if base == 3000 then codes "haneman"
    else if base == 4000 then codes "baiman"
    else if base == 6000 then codes "sanbaiman"
    else if base == 8000 then codes "yakuman by 13 han"
    else decimal base ++ codes " base points"

-- as it is typed: of one limit no number is said
abbrev pub yakuman_words : ℕ → List ℕ
yakuman_words limits = codes "yakuman" ++ (if limits == 1 then [] else codes ":" ++ decimal limits)

abbrev pub hand_words : Worth → List ℕ
hand_words (Counted base) = counted_words base
hand_words (Yakuman limits) = yakuman_words limits

-- ---- the parts of a hand that somebody is liable for

-- a discarder who is liable pays as ever
abbrev pub is_parted : Outcome → Liable → Bool
is_parted (outcomes.Ron from wins riichi) liable = not (is_same_player liable.player from)
is_parted other liable = true

-- what is paid for as ever: the limits that nobody is liable for, or the whole hand
abbrev pub unparted : Outcome → Worth → Option Liable → Worth
unparted outcome worth None = worth
unparted outcome worth (Some liable) = if is_parted outcome liable then other_limits worth liable.limits else worth

abbrev pub won_words : Outcome → Option Win → List ℕ
won_words outcome None = []
won_words outcome (Some win) = hand_words (unparted outcome win.worth win.liable)

-- `1 limit`
abbrev pub limits_words : ℕ → List ℕ
limits_words limits = decimal limits ++ (if limits == 1 then codes " limit" else codes " limits")

abbrev pub liable_words : Option Liable → List ℕ
liable_words None = []
liable_words (Some liable) = limits_words liable.limits

-- for how many limits of a hand somebody is liable
abbrev pub parted_words : Option Win → List ℕ
parted_words None = []
parted_words (Some win) = liable_words win.liable

-- ---- why points are paid

-- `2 counters`
abbrev pub counters_words : ℕ → List ℕ
counters_words counters = decimal counters ++ (if counters == 1 then codes " counter" else codes " counters")

-- by the counters on the table, the outcome, and what the player has won who is paid
abbrev pub why_words : ℕ → Outcome → Option Win → Reason → List ℕ
why_words counters outcome win reasons.Ron = codes "ron, " ++ won_words outcome win
why_words counters outcome win reasons.Tsumo = codes "self-draw, " ++ won_words outcome win
why_words counters outcome win reasons.Liable = codes "liable for " ++ parted_words win
why_words counters outcome win reasons.OtherHalf = codes "the other half of " ++ parted_words win
why_words counters outcome win reasons.Counters = counters_words counters
why_words counters outcome win reasons.Ready = codes "ready at the draw"
why_words counters outcome win reasons.Nagashi = codes "nagashi mangan"
why_words counters outcome win reasons.Chombo = codes "dead hand"

-- ---- the line of a move

-- `Cyd pays Bo 1000`
abbrev pub paid_words : ByPlayer (List ℕ) → Player → Player → ℕ → List ℕ
paid_words names from to points = of_player names from ++ codes " pays " ++ of_player names to ++ codes " " ++ decimal points

abbrev pub lying_words : ℕ → List ℕ
lying_words count = codes " takes " ++ decimal count ++ (if count == 1 then codes " stick: " else codes " sticks: ")

-- ` takes 2 sticks: 2000`
abbrev pub taken_words : ℕ → Taking → List ℕ
taken_words count takings.Winner = lying_words count ++ decimal (1000 * count)
taken_words count takings.OwnBet = codes " takes the own bet back: " ++ decimal (1000 * count)

abbrev pub moved_words : ByPlayer (List ℕ) → ℕ → Outcome → Move → List ℕ
moved_words names counters outcome (Points from to points why) =
    paid_words names from to points ++ codes ": " ++ why_words counters outcome (of_player (wins_in outcome) to) why
moved_words names counters outcome (Bet player) = of_player names player ++ codes " bets 1000"
moved_words names counters outcome (Sticks to count why) = of_player names to ++ taken_words count why

-- what an outcome moves, under so many counters on the table
abbrev pub move_line : ByPlayer (List ℕ) → ℕ → Outcome → Move → List ℕ
move_line names counters outcome move = codes "  " ++ moved_words names counters outcome move
