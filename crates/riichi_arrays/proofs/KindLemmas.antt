-- The kinds that are accepted, as bits, and their live copies.
use Rattle.std.proofs.Common.{◌≡◌, ℕ, ◌<◌, ◌≤◌, ◌^◌, ℤ, Bool, List, length, sym, ap, ◌∙◌}
use Rattle.std.specs.Prelude.{nat_lt, slice_index}
use Rattle.riichi_shape.specs.KeptDiscards.{kinds_in}
use Rattle.riichi_shape.specs.LiveCopies.{copies_from, copies_in, pairs_of}
use Rattle.riichi_shape.proofs.LiveLemmas.{are_live, copies_told}
use Rattle.riichi_shape.specs.declared.accepts.Accepts.{Accepts}
use Rattle.riichi_shape.specs.declared.accepts.Accepts.TheVariants.{Thirteen}
use Rattle.riichi_arrays.specs.Columns.{shape_told}
use Rattle.riichi_arrays.specs.declared.shape_columns.ShapeRow.{ShapeRow}
use Rattle.riichi_tiles.specs.HeldKinds.{AreHeldOf}
use Rattle.riichi_tiles.proofs.KindSets.{same_members, where_at, where_low}

pub kinds_are : (copies : List ℕ) (pairs : List (ℕ × ℕ)) (set : ℕ) → pairs ≡ pairs_of copies → AreHeldOf copies set → set < 2 ^ 34 → set ≡ kinds_in pairs
kinds_are copies pairs set is held low =
    let some : ℕ → Bool = λ kind. nat_lt 0 (copies_in pairs kind) in
    same_members 34 set (kinds_in pairs) low (where_low some)
    (λ kind inside. held.each kind ∙ ap (nat_lt 0) (sym (copies_told copies kind inside)) ∙ ap (λ ps. nat_lt 0 (copies_in ps kind)) (sym is) ∙ sym (where_at some kind inside))

pub copies_are : (copies : List ℕ) (pairs : List (ℕ × ℕ)) → pairs ≡ pairs_of copies → length copies ≡ 34 → ((kind : ℕ) → slice_index copies kind ≤ 4) → copies ≡ copies_from pairs
copies_are copies pairs is long few = let live = are_live copies long few in live.told ∙ ap copies_from (sym is)

same_row : {shanten s : ℤ} {accepts a : ℕ} {live l : List ℕ} → shanten ≡ s → accepts ≡ a → live ≡ l → ◌≡◌ {A = ShapeRow} (record { shanten = shanten; accepts = accepts; live = live }) (record { shanten = s; accepts = a; live = l })
same_row e e' e'' = cc

pub told_thirteen : (shanten s : ℤ) (accepts : Accepts) (accepted : List (ℕ × ℕ)) (kinds : ℕ) (live : List ℕ) → s ≡ shanten → accepts ≡ Thirteen accepted → kinds ≡ kinds_in accepted → live ≡ copies_from accepted →
    ◌≡◌ {A = ShapeRow} (record { shanten = s; accepts = kinds; live = live }) (shape_told shanten accepts)
told_thirteen shanten s accepts accepted kinds live same is kinds_are live_are = same_row same kinds_are live_are ∙ ap (shape_told shanten) (sym is)
