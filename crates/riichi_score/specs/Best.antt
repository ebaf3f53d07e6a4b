-- The best score of a win.
use Rattle.std.specs.Prelude.{ℕ, ◌≡◌, Bool, true, false, nat_lt, Option, Some, None, List, [], ◌∷◌, length, if◌then◌else◌}
use Rattle.std.specs.List.{fold}
use Rattle.riichi_hand.specs.declared.win.WinParts.{WinParts}
use Rattle.riichi_split.specs.declared.reading.Reading.{Reading}
use Rattle.riichi_yaku.specs.YakuSets.{is_yakuman}
use Rattle.riichi_score.specs.declared.score.Score.{Score}
use Rattle.riichi_score.specs.declared.answer.WinAnswer.{WinAnswer}
use Rattle.riichi_score.specs.declared.answer.WinAnswer.TheVariants.{Won, NoYaku, NoWin}
use Rattle.riichi_split.specs.ReadingsOf.{readings_of}
use Rattle.riichi_score.specs.Scores.{score_of, completed_hand, IsReadingOf}

-- what scores are compared by, the first first: base points, a yakuman before a counted hand, han, fu, the set as a number
abbrev pub rank : Score → List ℕ
rank score = score.base ∷ (if is_yakuman score.yaku then 1 else 0) ∷ score.han ∷ score.fu ∷ score.yaku ∷ []

-- at the first difference the former has the greater number
abbrev pub is_above : List ℕ → List ℕ → Bool
is_above [] others = false
is_above (number ∷ numbers) [] = false
is_above (number ∷ numbers) (other ∷ others) =
    if nat_lt other number then true else (if nat_lt number other then false else is_above numbers others)

-- ---- the best in the words of the game

-- the answer for a win whose readings are those of which P holds: NoWin where there is none; NoYaku where none of them has a yaku; else the score of one such that no other is above it
abbrev pub IsBestOf : (Reading → Type 0) → WinParts → WinAnswer → Type 0
IsBestOf P win NoWin = (reading : Reading) → P reading → ⊥
IsBestOf P win NoYaku = ((reading : Reading) × P reading) × ((reading : Reading) → P reading → score_of reading win ≡ None)
IsBestOf P win (Won best) =
    ((reading : Reading) × P reading × (score_of reading win ≡ Some best))
    × ((reading : Reading) (score : Score) → P reading → score_of reading win ≡ Some score → is_above (rank score) (rank best) ≡ false)

-- the answer for a win, over every reading of its hand
abbrev pub IsBest : WinParts → WinAnswer → Type 0
IsBest win answer = IsBestOf (IsReadingOf win) win answer

-- ---- the best as a value

-- the greater of what was best and one more reading's score
abbrev pub better : WinAnswer → Option Score → WinAnswer
better (Won best) (Some score) = if is_above (rank score) (rank best) then Won score else Won best
better (Won best) None = Won best
better NoYaku (Some score) = Won score
better NoYaku None = NoYaku
better NoWin (Some score) = Won score
better NoWin None = NoYaku

-- the best of some readings
abbrev pub best_among : WinParts → List Reading → WinAnswer
best_among win readings = fold (λ best reading. better best (score_of reading win)) NoWin readings

-- the best of every reading
unfoldable pub best_of : WinParts → WinAnswer
best_of win = best_among win (readings_of (completed_hand win) (length win.melds) win.winning)
