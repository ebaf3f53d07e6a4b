-- The text of an answer.
use Rattle.std.specs.Prelude.{ℕ, ◌==◌, List, [], ◌++◌, codes, decimal, if◌then◌else◌}
use Rattle.riichi_yaku.specs.YakuSets.{is_yakuman, yaku_words}
use Rattle.riichi_score.specs.declared.payers.Payment.{Payment}
use Rattle.riichi_score.specs.declared.payers.Payment.TheVariants.{Ron, Tsumo, DealerTsumo}
use Rattle.riichi_score.specs.declared.score.Score.{Score}
use Rattle.riichi_score.specs.declared.answer.WinAnswer.{WinAnswer}
use Rattle.riichi_score.specs.declared.answer.WinAnswer.TheVariants.{Won, NoYaku, NoWin}

abbrev pub payment_text : Payment → List ℕ
payment_text (Ron points) = decimal points
payment_text (Tsumo other dealer) = decimal other ++ codes "/" ++ decimal dealer
payment_text (DealerTsumo each) = decimal each ++ codes " all"

-- a yakuman, or the han and the fu
abbrev pub worth_text : Score → List ℕ
worth_text score =
    if is_yakuman score.yaku then codes "yakuman "
    else decimal score.han ++ codes " han " ++ decimal score.fu ++ codes " fu "

-- nothing where there is no dora
abbrev pub dora_text : ℕ → List ℕ
dora_text dora = if dora == 0 then [] else codes " dora " ++ decimal dora

-- the words of the yaku stand in the order of their numbers, each after a space
abbrev pub score_text : Score → List ℕ
score_text score =
    codes "won " ++ worth_text score ++ payment_text score.payment
    ++ codes " gain " ++ decimal score.gain
    ++ yaku_words score.yaku ++ dora_text score.dora

unfoldable pub win_text : WinAnswer → List ℕ
win_text NoWin = codes "no win"
win_text NoYaku = codes "no yaku"
win_text (Won score) = score_text score
