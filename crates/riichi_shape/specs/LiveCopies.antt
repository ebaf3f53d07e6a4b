-- Live copies, as a count for each kind or as a list of pairs.
use Rattle.std.specs.Prelude.{◌≡◌, ℕ, ◌==◌, nat_lt, if◌then◌else◌, List, map, filter, slice_index, sum_by}
use Rattle.riichi_tiles.specs.Melds.{every_kind}
use Rattle.riichi_tiles.specs.Tiles.{IsCounts}

-- the kinds that have live copies, with their number
unfoldable pub pairs_of : List ℕ → List (ℕ × ℕ)
pairs_of copies = map (λ kind. (kind, slice_index copies kind)) (filter (λ kind. nat_lt 0 (slice_index copies kind)) every_kind)

-- the live copies of a kind in such a list
abbrev pub copies_in : List (ℕ × ℕ) → ℕ → ℕ
copies_in pairs kind = sum_by (λ pair. if pair.0 == kind then pair.1 else 0) pairs

unfoldable pub copies_from : List (ℕ × ℕ) → List ℕ
copies_from pairs = map (copies_in pairs) every_kind

-- the live copies of all kinds
abbrev pub live_in : List (ℕ × ℕ) → ℕ
live_in pairs = sum_by (λ pair. pair.1) pairs

-- a count for each kind, none above four, which the pairs determine
pub record AreLive (copies : List ℕ) : Type 0 where
  pub counts : IsCounts copies
  pub told : copies ≡ copies_from (pairs_of copies)
