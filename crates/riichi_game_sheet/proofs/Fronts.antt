-- The longest beginning of a text that fits.
use Rattle.std.proofs.Common.{◌≡◌, ℕ, zero, suc, ◌-◌, ◌<◌, ◌≤◌, List, [], take, Bool, true, false, refl, ap, ◌∙◌, arith}
use Rattle.std.specs.Prelude.{if◌then◌else◌}
use Rattle.riichi_game_sheet.specs.Cells.{fits_in, front_within}

-- a beginning that fits is the one
pub front_fits : (columns : ℕ) (text : List ℕ) (n : ℕ) → 0 < n → fits_in columns (take n text) ≡ true → front_within columns text n ≡ take n text
unfolding front_within
front_fits columns text zero some is = absurd (omega (arith, some))
front_fits columns text (suc n) some is = ap (λ (b : Bool). if b then take (suc n) text else front_within columns text n) is

-- one that doesn't is passed over
pub front_shorter : (columns : ℕ) (text : List ℕ) (n : ℕ) → 0 < n → fits_in columns (take n text) ≡ false → front_within columns text n ≡ front_within columns text (n - 1)
unfolding front_within
front_shorter columns text zero some is = absurd (omega (arith, some))
front_shorter columns text (suc n) some is =
    let same : n ≡ suc n - 1 = omega arith in
    ap (λ (b : Bool). if b then take (suc n) text else front_within columns text n) is ∙ ap (front_within columns text) same

-- of no bytes none are left
pub front_none : (columns : ℕ) (text : List ℕ) (n : ℕ) → n ≤ 0 → front_within columns text n ≡ []
unfolding front_within
front_none columns text zero none = refl
front_none columns text (suc n) none = absurd (omega (arith, none))
