-- What a line of a script is told is the same where each part of it is.
use Rattle.std.specs.Prelude.{◌≡◌, true}
use Rattle.std.proofs.Common.{ap, refl}
use Rattle.std.specs.Bool.{Decides}
use Rattle.std.proofs.lemmas.Bool.{eqb-true, false≢true}
use Rattle.desk_core.specs.contracts.decided.ReplyDecided.TheImpl.Laws.{decides-law as replies_decide}
use Rattle.desk_script.specs.declared.told.Told.{Told}
use Rattle.desk_script.specs.declared.told.Told.TheVariants.{Nothing, Refused, Table, Replied}
use Rattle.desk_script.specs.contracts.told.ToldPartialEq.TheImpl.{ghosts as told}
use Rattle.desk_script.specs.contracts.told.ToldEq.TheImpl.Laws.{laws-law as equiv}
use Rattle.desk_script.specs.contracts.decided.RefusalDecided.TheImpl.Laws.{decides-law as refusals_decide}

same_told : (a b : Told) → told.eq a b ≡ true → a ≡ b
same_told Nothing Nothing h = refl
same_told (Refused a) (Refused b) h = ap Refused ((refusals_decide a b).0 h)
same_told (Table a) (Table b) h = ap Table (eqb-true a b h)
same_told (Replied a) (Replied b) h = ap Replied ((replies_decide a b).0 h)
same_told a b h = absurd (false≢true h)

pub told_decide : (a b : Told) → Decides (told.eq a b) (a ≡ b)
told_decide a b = (same_told a b, λ same. rw same (equiv.refl b))
