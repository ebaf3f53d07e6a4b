-- The points of a win by self-draw.
use Rattle.std.specs.Prelude.{ℕ, List, Result, Ok, Err, if◌then◌else◌, replicate}
use Rattle.riichi_tiles.specs.Melds.{are_concealed}
use Rattle.riichi_tiles.specs.declared.meld.Meld.{Meld}
use Rattle.riichi_hand.specs.Win.{no_flags, no_reds, win_of}
use Rattle.riichi_hand.specs.declared.fault.LineFault.{LineFault}
use Rattle.riichi_hand.specs.declared.win.By.TheVariants.{Tsumo}
use Rattle.riichi_hand.specs.declared.win.WinParts.{WinParts}
use Rattle.riichi_score.specs.Best.{best_of}
use Rattle.riichi_score.specs.declared.answer.WinAnswer.{WinAnswer}
use Rattle.riichi_score.specs.declared.answer.WinAnswer.TheVariants.{Won, NoYaku, NoWin}
use Rattle.riichi_worth.specs.declared.stakes.Stakes.{Stakes}

-- thirteen tiles and a drawn one: with riichi where nothing is called, and with nothing else that isn't seen
abbrev pub win_drawn : Stakes → List ℕ → List Meld → ℕ → WinParts
win_drawn stakes tiles melds kind = record {
  rules = stakes.rules;
  concealed = tiles;
  melds = melds;
  winning = kind;
  by = Tsumo;
  seat = stakes.seat;
  round = stakes.round;
  riichi = if are_concealed melds then 1 else 0;
  flags = no_flags;
  dora = stakes.dora;
  ura = replicate 34 0;
  counters = 0;
  sticks = 0;
  reds = no_reds;
}

abbrev pub gain_told : WinAnswer → ℕ
gain_told (Won score) = score.gain
gain_told NoYaku = 0
gain_told NoWin = 0

-- nothing where it can't be
abbrev pub gain_if : Result WinParts LineFault → ℕ
gain_if (Ok win) = gain_told (best_of win)
gain_if (Err fault) = 0

-- what thirteen tiles gain by the draw of a kind
unfoldable pub prize_of : Stakes → List ℕ → List Meld → ℕ → ℕ
prize_of stakes tiles melds kind = gain_if (win_of (win_drawn stakes tiles melds kind))
