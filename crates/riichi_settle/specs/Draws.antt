-- What is paid at a draw, and for a chombo.
use Rattle.std.specs.Prelude.{ℕ, ◌==◌, Bool, not, ◌&&◌, if◌then◌else◌, List, []}
use Rattle.riichi_table.specs.Players.{of_player, is_same_player, count_players, of_some}
use Rattle.riichi_table.specs.declared.player.Player.{Player}
use Rattle.riichi_table.specs.declared.player.ByPlayer.{ByPlayer}
use Rattle.riichi_table.specs.declared.rules.ChomboCost.{ChomboCost}
use Rattle.riichi_table.specs.declared.rules.ChomboCost.TheVariants.{Points, Mangan}
use Rattle.riichi_table.specs.declared.worth.Worth.{Worth}
use Rattle.riichi_table.specs.declared.worth.Worth.TheVariants.{Counted}
use Rattle.riichi_settle.specs.Moves.{payment_move, each_player}
use Rattle.riichi_settle.specs.Wins.{drawn, price_between}
use Rattle.riichi_settle.specs.declared.moved.Move.{Move}
use Rattle.riichi_settle.specs.declared.moved.Reason.TheVariants as why

abbrev pub mangan : Worth
mangan = Counted 2000

-- 3000 points pass in all from those who are not ready to those who are: where two are, four pay and get 750 of one another
abbrev pub ready_share : ℕ → ℕ
ready_share ready = if ready == 2 then 750 else 1000

unfoldable pub share_between : ByPlayer Bool → Player → Player → List Move
share_between ready payer payee =
    if not (of_player ready payer) && of_player ready payee
    then payment_move payer payee (ready_share (count_players (of_player ready))) why.Ready else []

unfoldable pub unready_moves : ByPlayer Bool → Player → List Move
unready_moves ready payer = each_player (share_between ready payer)

-- each who is not ready pays each who is
unfoldable pub ready_moves : ByPlayer Bool → List Move
ready_moves ready = each_player (unready_moves ready)

abbrev pub nagashi_of : Player → Bool → Player → List Move
nagashi_of dealer has player = if has then drawn dealer player mangan 0 why.Nagashi else []

-- each with a nagashi mangan is paid as for a self-drawn mangan, without counters
unfoldable pub nagashi_moves : Player → ByPlayer Bool → List Move
nagashi_moves dealer nagashi = each_player (λ player. nagashi_of dealer (of_player nagashi player) player)

-- a nagashi mangan is paid in place of those who are ready
unfoldable pub draw_moves : Player → ByPlayer Bool → ByPlayer Bool → List Move
draw_moves dealer ready nagashi = if of_some (of_player nagashi) then nagashi_moves dealer nagashi else ready_moves ready

abbrev pub amends : Player → Player → Player → List Move
amends dealer player other = if is_same_player other player then [] else payment_move player other (price_between dealer mangan player other) why.Chombo

-- a mangan paid backwards to each other player; points off the final points move nothing now
unfoldable pub chombo_moves : ChomboCost → Player → Player → List Move
chombo_moves (Points points) dealer player = []
chombo_moves Mangan dealer player = each_player (amends dealer player)
