-- What a hand is worth that is won in a game.
use Rattle.std.specs.Prelude.{◌/◌, min, if◌then◌else◌, Result, Ok, Err}
use Rattle.riichi_hand.specs.Win.{win_of}
use Rattle.riichi_hand.specs.declared.fault.LineFault.{LineFault}
use Rattle.riichi_hand.specs.declared.win.By.{By}
use Rattle.riichi_hand.specs.declared.win.WinParts.{WinParts}
use Rattle.riichi_yaku.specs.YakuSets.{is_yakuman}
use Rattle.riichi_score.specs.Best.{best_of}
use Rattle.riichi_score.specs.declared.score.Score.{Score}
use Rattle.riichi_score.specs.declared.answer.WinAnswer.{WinAnswer}
use Rattle.riichi_score.specs.declared.answer.WinAnswer.TheVariants as answer
use Rattle.riichi_table.specs.Players.{seat_of}
use Rattle.riichi_table.specs.declared.player.Player.{Player}
use Rattle.riichi_table.specs.declared.rules.TableRules.{TableRules}
use Rattle.riichi_table.specs.declared.state.GameState.{GameState}
use Rattle.riichi_table.specs.declared.worth.Worth.{Worth}
use Rattle.riichi_table.specs.declared.worth.Worth.TheVariants.{Counted, Yakuman}
use Rattle.riichi_game.specs.declared.hands.NoWorth.{NoWorth}
use Rattle.riichi_game.specs.declared.hands.NoWorth.TheVariants.{NoYaku, NoWin}

-- a hand with what the table knows: how hands are valued, how it was won, the winner's seat, the round, counters and sticks
abbrev pub with_table : GameState → TableRules → Player → By → WinParts → WinParts
with_table state rules winner by parts = record parts {
  rules = rules.hand;
  by = by;
  seat = seat_of winner state.dealer;
  round = state.round;
  counters = state.counters;
  sticks = state.sticks;
}

abbrev pub record_of : GameState → TableRules → Player → By → WinParts → Result WinParts LineFault
record_of state rules winner by parts = win_of (with_table state rules winner by parts)

-- a yakuman by its limits; any other hand by its base points
abbrev pub worth_of_score : Score → Worth
worth_of_score score = if is_yakuman score.yaku then Yakuman (min (score.base / 8000) 255) else Counted (min score.base 65535)

abbrev pub worth_of_answer : WinAnswer → Result Worth NoWorth
worth_of_answer (answer.Won score) = Ok (worth_of_score score)
worth_of_answer answer.NoYaku = Err NoYaku
worth_of_answer answer.NoWin = Err NoWin

abbrev pub worth_of_win : WinParts → Result Worth NoWorth
worth_of_win win = worth_of_answer (best_of win)
