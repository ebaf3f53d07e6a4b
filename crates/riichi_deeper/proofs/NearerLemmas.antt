-- Shanten compared, by what a hand lacks.
use Rattle.std.proofs.Common.{◌≡◌, ℕ, Bool, max, ℤ, pos, ◌-ℤ◌, ap, ◌∙◌, arith}
use Rattle.std.proofs.lemmas.Bool.Decides.{nat_tests}
use Rattle.std.proofs.lemmas.Int.{ints}
use lib.Signed.{lt_z}
use Rattle.std.specs.Prelude.{nat_lt, ◌&&◌}

far_test : (lack : ℕ) → lt_z (pos 0) (pos lack -ℤ pos 1) ≡ nat_lt 1 lack
far_test lack = grind (arith, ints, nat_tests)

pub far_is : (shanten : ℤ) (lack : ℕ) → shanten ≡ pos lack -ℤ pos 1 → lt_z (pos 0) shanten ≡ nat_lt 1 lack
far_is shanten lack e = ap (lt_z (pos 0)) e ∙ far_test lack

less_test : (less lack : ℕ) → lt_z (pos less -ℤ pos 1) (pos lack -ℤ pos 1) ≡ nat_lt less lack
less_test less lack = grind (arith, ints, nat_tests)

both_tests : (less lack : ℕ) → (nat_lt 1 lack && nat_lt less lack) ≡ nat_lt (max less 1) lack
both_tests less lack = grind (arith, nat_tests)

pub nearer_is : (far : Bool) (after before : ℤ) (less lack : ℕ) → far ≡ nat_lt 1 lack → after ≡ pos less -ℤ pos 1 → before ≡ pos lack -ℤ pos 1 → (far && lt_z after before) ≡ nat_lt (max less 1) lack
nearer_is far after before less lack e f g =
    ap (λ t. t && lt_z after before) e ∙ ap (λ z. nat_lt 1 lack && lt_z z before) f ∙ ap (λ z. nat_lt 1 lack && lt_z (pos less -ℤ pos 1) z) g ∙ ap (λ t. nat_lt 1 lack && t) (less_test less lack) ∙ both_tests less lack
