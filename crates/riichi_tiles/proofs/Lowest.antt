-- The lowest kind of which any are held.
use Rattle.std.proofs.Common.{◌≡◌, ℕ, zero, suc, ◌+◌, ◌<◌, ◌≤◌, List, Option, Some, None, get_or, refl, sym, inl, inr, arith}
use Rattle.std.specs.Prelude.{MatchOption}
use Rattle.std.specs.List.{find, range_with_len}
use Rattle.std.proofs.lemmas.Bool.{cases_lt, lt-ltb}
use Rattle.riichi_tiles.specs.Tiles.{has_tile}
use Rattle.riichi_tiles.specs.Melds.{every_kind}

find_from : (counts : List ℕ) (start n low : ℕ) → start ≤ low → low < start + n → 0 < get_or counts low 0 → ((kind : ℕ) → start ≤ kind → kind < low → get_or counts kind 0 ≡ 0)
    → find (has_tile counts) (range_with_len start n) ≡ Some low
find_from counts start zero low from within some none = absurd (omega arith)
find_from counts start (suc n) low from within some none =
    elim (cases_lt start low) [
      | inl later ↦ rw (none start (omega arith) later) (find_from counts (start + 1) n low (omega arith) (omega arith) some (λ kind k. none kind (omega arith)))
      | inr here ↦
          let e : start ≡ low = omega arith in
          rw (e, lt-ltb 0 (get_or counts low 0) some) refl
    ]

find_nothing : (counts : List ℕ) (start n : ℕ) → ((kind : ℕ) → kind < start + n → get_or counts kind 0 ≡ 0) → find (has_tile counts) (range_with_len start n) ≡ None
find_nothing counts start zero none = refl
find_nothing counts start (suc n) none = rw (none start (omega arith)) (find_nothing counts (start + 1) n (λ kind k. none kind (omega arith)))

abbrev pub IsLowest : List ℕ → Option ℕ → Type 0
IsLowest counts found =
    MatchOption found ((kind : ℕ) → kind < 34 → get_or counts kind 0 ≡ 0)
    (λ low. (low < 34) × (0 < get_or counts low 0) × ((kind : ℕ) → kind < low → get_or counts kind 0 ≡ 0))

pub lowest_found : (counts : List ℕ) (found : Option ℕ) → IsLowest counts found → found ≡ find (has_tile counts) every_kind
lowest_found counts None none = sym (find_nothing counts 0 34 (λ kind k. none kind (omega arith)))
lowest_found counts (Some low) least = sym (find_from counts 0 34 low (omega arith) (omega (arith, least.0)) least.1 (λ kind from below. least.2 kind below))
