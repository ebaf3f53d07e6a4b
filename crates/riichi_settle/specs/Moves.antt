-- What is moved: points from player to player, bets to the table, sticks from the table.
use Rattle.std.specs.Prelude.{ℕ, Bool, ◌==◌, if◌then◌else◌, List, [], ◌∷◌, ◌++◌}
use Rattle.riichi_table.specs.Players.{of_player}
use Rattle.riichi_table.specs.declared.player.Player.{Player}
use Rattle.riichi_table.specs.declared.player.Player.TheVariants.{First, Second, Third, Fourth}
use Rattle.riichi_table.specs.declared.player.ByPlayer.{ByPlayer}
use Rattle.riichi_settle.specs.declared.moved.Move.{Move}
use Rattle.riichi_settle.specs.declared.moved.Move.TheVariants.{Points, Bet, Sticks}
use Rattle.riichi_settle.specs.declared.moved.Reason.{Reason}
use Rattle.riichi_settle.specs.declared.moved.Taking.{Taking}

-- a payment, where there is something to pay
abbrev pub payment_move : Player → Player → ℕ → Reason → List Move
payment_move from to points why = if points == 0 then [] else Points from to points why ∷ []

-- sticks that a player takes, where there are any
abbrev pub taken : Player → ℕ → Taking → List Move
taken to count why = if count == 0 then [] else Sticks to count why ∷ []

-- what a function lists for each player, one behind the other
abbrev pub each_player : (Player → List Move) → List Move
each_player f = f First ++ f Second ++ f Third ++ f Fourth

abbrev pub bet : Bool → Player → List Move
bet declared player = if declared then Bet player ∷ [] else []

-- a stick of each who has bet
unfoldable pub bets : ByPlayer Bool → List Move
bets riichi = each_player (λ player. bet (of_player riichi player) player)
