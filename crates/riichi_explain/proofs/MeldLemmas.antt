-- At most four melds, one by one.
use Rattle.std.proofs.Common.{◌≡◌, ◌≤◌, ℕ, ◌||◌, List, [], ◌∷◌, Bool, true, false, refl, length, slice_get, arith}
use Rattle.riichi_tiles.specs.declared.meld.Meld.{Meld}
use Rattle.riichi_explain.specs.Notes.{is_fed_set, is_fed_there, has_fed_set}

one : (a : Bool) → ((a || false) || false) ≡ (a || false)
one true = refl
one false = refl

two : (a b : Bool) → ((a || b) || false) ≡ (a || (b || false))
two true b = refl
two false true = refl
two false false = refl

four : (a b c d : Bool) → ((a || b) || (c || d)) ≡ (a || (b || (c || (d || false))))
four true b c d = refl
four false true c d = refl
four false false true d = refl
four false false false true = refl
four false false false false = refl

pub fed_among_four : (melds : List Meld) (kind : ℕ) → length melds ≤ 4 →
    ((is_fed_there (slice_get melds 0) kind || is_fed_there (slice_get melds 1) kind) || (is_fed_there (slice_get melds 2) kind || is_fed_there (slice_get melds 3) kind)) ≡ has_fed_set melds kind
fed_among_four [] kind few = refl
fed_among_four (a ∷ []) kind few = one (is_fed_set a kind)
fed_among_four (a ∷ b ∷ []) kind few = two (is_fed_set a kind) (is_fed_set b kind)
fed_among_four (a ∷ b ∷ c ∷ []) kind few = four (is_fed_set a kind) (is_fed_set b kind) (is_fed_set c kind) false
fed_among_four (a ∷ b ∷ c ∷ d ∷ []) kind few = four (is_fed_set a kind) (is_fed_set b kind) (is_fed_set c kind) (is_fed_set d kind)
fed_among_four (a ∷ b ∷ c ∷ d ∷ e ∷ more) kind few = absurd (omega arith)
