-- Two best readings are the same where their readings and their scores are.
use Rattle.std.specs.Prelude.{◌≡◌, true}
use Rattle.std.proofs.Common.{refl}
use Rattle.std.specs.Bool.{Decides}
use Rattle.std.proofs.lemmas.Bool.{and_parts, false≢true}
use Rattle.riichi_split.specs.contracts.decided.ReadingDecided.TheImpl.Laws.{decides-law as readings_decide}
use Rattle.riichi_score.specs.contracts.decided.ScoreDecided.TheImpl.Laws.{decides-law as scores_decide}
use Rattle.riichi_score.specs.declared.read.BestReading.{BestReading}
use Rattle.riichi_score.specs.declared.read.BestReading.TheVariants.{Won, NoYaku, NoWin}
use Rattle.riichi_score.specs.contracts.read.BestReadingPartialEq.TheImpl.{ghosts as best}
use Rattle.riichi_score.specs.contracts.read.BestReadingEq.TheImpl.Laws.{laws-law as equiv}

same_best : (a b : BestReading) → best.eq a b ≡ true → a ≡ b
same_best (Won reading score) (Won other least) h =
    let both = and_parts _ _ h in
    λ k. Won ((readings_decide reading other).0 both.0 k) ((scores_decide score least).0 both.1 k)
same_best NoYaku NoYaku h = refl
same_best NoWin NoWin h = refl
same_best a b h = absurd (false≢true h)

pub best_decides : (a b : BestReading) → Decides (best.eq a b) (a ≡ b)
best_decides a b = (same_best a b, λ same. rw same (equiv.refl b))
