-- What an outcome moves: an object for each move.
use Rattle.std.specs.Prelude.{ℕ, ◌*◌, List, [], ◌++◌, map, codes, decimal, Option, None, Some}
use Rattle.riichi_text.specs.Lists.{joined}
use Rattle.riichi_table.specs.Players.{of_player}
use Rattle.riichi_table.specs.declared.player.Player.{Player}
use Rattle.riichi_table.specs.declared.worth.Worth.{Worth}
use Rattle.riichi_table.specs.declared.worth.Worth.TheVariants.{Counted, Yakuman}
use Rattle.riichi_table.specs.declared.outcome.Liable.{Liable}
use Rattle.riichi_table.specs.declared.outcome.Win.{Win}
use Rattle.riichi_table.specs.declared.outcome.Outcome.{Outcome}
use Rattle.riichi_settle.specs.declared.moved.Move.{Move}
use Rattle.riichi_settle.specs.declared.moved.Move.TheVariants.{Points, Bet, Sticks}
use Rattle.riichi_settle.specs.declared.moved.Reason.{Reason}
use Rattle.riichi_settle.specs.declared.moved.Reason.TheVariants as reasons
use Rattle.riichi_settle.specs.declared.moved.Taking.{Taking}
use Rattle.riichi_settle.specs.declared.moved.Taking.TheVariants as takings
use Rattle.riichi_places.specs.Places.{seat_number}
use Rattle.riichi_game.specs.Outcomes.{wins_in}
use Rattle.riichi_game_reasons.specs.MoveLines.{unparted}

-- ---- why points are moved

-- the base points of a hand, or the limits of a yakuman
abbrev pub worth_member : Worth → List ℕ
worth_member (Counted base) = codes ",\"base\":" ++ decimal base
worth_member (Yakuman limits) = codes ",\"limits\":" ++ decimal limits

-- what is paid for as ever
abbrev pub won_member : Outcome → Option Win → List ℕ
won_member outcome None = []
won_member outcome (Some win) = worth_member (unparted outcome win.worth win.liable)

abbrev pub liable_member : Option Liable → List ℕ
liable_member None = []
liable_member (Some liable) = codes ",\"limits\":" ++ decimal liable.limits

-- for how many limits of a hand somebody is liable
abbrev pub parted_member : Option Win → List ℕ
parted_member None = []
parted_member (Some win) = liable_member win.liable

abbrev pub why_word : Reason → List ℕ
why_word reasons.Ron = codes "\"ron\""
why_word reasons.Tsumo = codes "\"tsumo\""
why_word reasons.Liable = codes "\"liable\""
why_word reasons.OtherHalf = codes "\"other half\""
why_word reasons.Counters = codes "\"counters\""
why_word reasons.Ready = codes "\"ready\""
why_word reasons.Nagashi = codes "\"nagashi\""
why_word reasons.Chombo = codes "\"chombo\""

-- by the counters on the table, the outcome, and what the player has won who is paid
abbrev pub why_member : ℕ → Outcome → Option Win → Reason → List ℕ
why_member counters outcome win reasons.Ron = won_member outcome win
why_member counters outcome win reasons.Tsumo = won_member outcome win
why_member counters outcome win reasons.Liable = parted_member win
why_member counters outcome win reasons.OtherHalf = parted_member win
why_member counters outcome win reasons.Counters = codes ",\"counters\":" ++ decimal counters
why_member counters outcome win reasons.Ready = []
why_member counters outcome win reasons.Nagashi = []
why_member counters outcome win reasons.Chombo = []

-- by a winner who takes all that lie, or as the own bet
abbrev pub taking_word : Taking → List ℕ
taking_word takings.Winner = codes "\"sticks\""
taking_word takings.OwnBet = codes "\"own bet\""

-- ---- the objects

-- a player by the number; the table is none
abbrev pub party : Option Player → List ℕ
party None = codes "null"
party (Some player) = decimal (seat_number player)

-- who gives how many points to whom, and the name of the reason's member
abbrev pub moved_members : Option Player → Option Player → ℕ → List ℕ
moved_members from to points =
    (codes "{\"from\":" ++ party from) ++ (codes ",\"to\":" ++ party to) ++ (codes ",\"points\":" ++ decimal points) ++ codes ",\"why\":"

-- a move of an outcome, under so many counters on the table
abbrev pub move_json : ℕ → Outcome → Move → List ℕ
move_json counters outcome (Points from to points why) =
    moved_members (Some from) (Some to) points ++ why_word why ++ why_member counters outcome (of_player (wins_in outcome) to) why ++ codes "}"
move_json counters outcome (Bet player) = moved_members (Some player) None 1000 ++ codes "\"bet\"}"
move_json counters outcome (Sticks to count why) =
    moved_members None (Some to) (1000 * count) ++ taking_word why ++ (codes ",\"sticks\":" ++ decimal count) ++ codes "}"

-- with commas between them
abbrev pub moves_json : ℕ → Outcome → List Move → List ℕ
moves_json counters outcome moves = joined (codes ",") (map (move_json counters outcome) moves)
