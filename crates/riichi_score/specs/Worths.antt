-- What a reading is worth, without what is paid for it. No public clause cites this.
use Rattle.std.specs.Prelude.{ℕ, ◌+◌, ◌*◌, ◌==◌, List, [], ◌∷◌, Option, Some, None, if◌then◌else◌}
use Rattle.riichi_tiles.specs.Melds.{are_concealed}
use Rattle.riichi_hand.specs.declared.win.WinParts.{WinParts}
use Rattle.riichi_yaku.specs.YakuSets.{han_of, is_yakuman}
use Rattle.riichi_score.specs.declared.answer.WinAnswer.{WinAnswer}
use Rattle.riichi_score.specs.declared.answer.WinAnswer.TheVariants as answer
use Rattle.riichi_score.specs.declared.leading.Leading.{Leading}
use Rattle.riichi_score.specs.declared.leading.Leading.TheVariants.{Won, NoYaku, NoWin}
use Rattle.riichi_score.specs.declared.score.Score.{Score}
use Rattle.riichi_score.specs.declared.worth.Worth.{Worth}
use Rattle.riichi_score.specs.Base.{base_of}
use Rattle.riichi_score.specs.Scores.{with_base}

-- a yakuman, and a counted hand
abbrev pub limit_worth : ℕ → ℕ → Worth
limit_worth limits yaku = record { han = 0; fu = 0; base = 8000 * limits; yaku = yaku; dora = 0 }

abbrev pub counted_worth : ℕ → ℕ → ℕ → WinParts → Worth
counted_worth yaku fu dora win =
    let han = han_of yaku (are_concealed win.melds) + dora in
    record { han = han; fu = fu; base = base_of win.rules han fu; yaku = yaku; dora = dora }

-- a reading with an empty set has none
abbrev pub worth_if : ℕ → ℕ → ℕ → ℕ → WinParts → Option Worth
worth_if limits yaku fu dora win =
    if yaku == 0 then None
    else (if is_yakuman yaku then Some (limit_worth limits yaku) else Some (counted_worth yaku fu dora win))

-- what scores are compared by
abbrev pub worth_order : Worth → List ℕ
worth_order worth = worth.base ∷ (if is_yakuman worth.yaku then 1 else 0) ∷ worth.han ∷ worth.fu ∷ worth.yaku ∷ []

-- with what is paid
abbrev pub score_with : Worth → WinParts → Score
score_with worth win = with_base worth.base worth.han worth.fu worth.yaku worth.dora win

abbrev pub score_if : Option Worth → WinParts → Option Score
score_if None win = None
score_if (Some worth) win = Some (score_with worth win)

abbrev pub leading_answer : Leading → WinParts → WinAnswer
leading_answer (Won worth) win = answer.Won (score_with worth win)
leading_answer NoYaku win = answer.NoYaku
leading_answer NoWin win = answer.NoWin

-- the base points, or 0
abbrev pub base_if : Option Worth → ℕ
base_if None = 0
base_if (Some worth) = worth.base

abbrev pub leading_base : Leading → ℕ
leading_base (Won worth) = worth.base
leading_base NoYaku = 0
leading_base NoWin = 0
