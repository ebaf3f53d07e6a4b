-- The score of a reading.
use Rattle.std.specs.Prelude.{ℕ, ◌+◌, ◌*◌, ◌==◌, Option, Some, None, List, length, slice_index, slice_set, if◌then◌else◌}
use Rattle.riichi_tiles.specs.Melds.{are_concealed}
use Rattle.riichi_hand.specs.declared.win.WinParts.{WinParts}
use Rattle.riichi_split.specs.declared.reading.Reading.{Reading}
use Rattle.riichi_split.specs.Readings.{IsReading}
use Rattle.riichi_yaku.specs.Conditions.{yaku_of}
use Rattle.riichi_yaku.specs.YakuSets.{han_of, is_yakuman}
use Rattle.riichi_score.specs.declared.score.Score.{Score}
use Rattle.riichi_score.specs.Base.{base_of}
use Rattle.riichi_score.specs.Dora.{dora_of}
use Rattle.riichi_score.specs.Fu.{fu_of}
use Rattle.riichi_score.specs.Limits.{limits_of}
use Rattle.riichi_score.specs.Payment.{payment_of, gain_of}

-- a score of so many base points, with what is paid for it
abbrev pub with_base : ℕ → ℕ → ℕ → ℕ → ℕ → WinParts → Score
with_base base han fu yaku dora win = record {
  han = han;
  fu = fu;
  base = base;
  yaku = yaku;
  dora = dora;
  payment = payment_of base win;
  gain = gain_of (payment_of base win) win.sticks;
}

-- a counted hand: its han is that of the set and the dora
abbrev pub counted : ℕ → ℕ → ℕ → WinParts → Score
counted yaku fu dora win =
    let han = han_of yaku (are_concealed win.melds) + dora in
    with_base (base_of win.rules han fu) han fu yaku dora win

-- a yakuman, one or several, of so many limits, each of 8000 base points; its han, fu and dora are 0
abbrev pub yakuman_score : ℕ → ℕ → WinParts → Score
yakuman_score limits yaku win = with_base (8000 * limits) 0 0 yaku 0 win

-- a reading with an empty set has no score
abbrev pub scored : ℕ → ℕ → ℕ → ℕ → WinParts → Option Score
scored limits yaku fu dora win =
    if yaku == 0 then None
    else (if is_yakuman yaku then Some (yakuman_score limits yaku win) else Some (counted yaku fu dora win))

-- the score of a reading, if it has a yaku
unfoldable pub score_of : Reading → WinParts → Option Score
score_of reading win = scored (limits_of reading win (yaku_of reading win)) (yaku_of reading win) (fu_of reading win) (dora_of win) win

-- the concealed tiles with the winning tile
abbrev pub completed_hand : WinParts → List ℕ
completed_hand win = slice_set win.concealed win.winning (slice_index win.concealed win.winning + 1)

abbrev pub IsReadingOf : WinParts → Reading → Type 0
IsReadingOf win reading = IsReading (completed_hand win) (length win.melds) win.winning reading
