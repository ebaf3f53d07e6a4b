-- Two vectors are the same where their elements are.
use Rattle.std.specs.Prelude.{◌≡◌, Bool}
use Rattle.std.proofs.Common.{ap, refl}
use Rattle.std.specs.Bool.{Decides}
use Rattle.std.specs.Cmp.Lexicographic.{pointwise}
use Rattle.std.proofs.lemmas.Slice.Eq.{slice_eq-Decides}
use Rattle.arrayvec.specs.ArrayVec.{ArrayVec}

pub vec_decides : {T : Type 0} {E : T → T → Bool} → ((a b : T) → Decides (E a b) (a ≡ b)) → (v w : ArrayVec T) → Decides (pointwise E v.items w.items) (v ≡ w)
vec_decides each v w =
    let d = slice_eq-Decides each v.items w.items (pointwise _ v.items w.items) refl in
    (λ e. ap (λ items. record { items = items }) (d.0 e), λ e. d.1 (ap (λ v. v.items) e))
