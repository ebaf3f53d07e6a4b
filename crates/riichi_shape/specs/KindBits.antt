-- Which kinds a set has, and the copies of its kinds.
use Rattle.std.specs.Prelude.{ℕ, ◌≡◌, ◌<◌, Bool, true, if◌then◌else◌, List, map, slice_index}
use Rattle.riichi_tiles.specs.HeldKinds.{is_held}
use Rattle.riichi_tiles.specs.Melds.{every_kind}

-- of the 34 kinds just those that pass the test are in the set
abbrev pub AreKindsOf : ℕ → (ℕ → Bool) → Type 0
AreKindsOf set test = (kind : ℕ) → kind < 34 → is_held set kind ≡ test kind

-- each kind of the set has copies
abbrev pub HaveCopies : List ℕ → ℕ → Type 0
HaveCopies copies set = (kind : ℕ) → kind < 34 → is_held set kind ≡ true → 0 < slice_index copies kind

-- of the copies of each kind those of the kinds of a set
abbrev pub copies_at : List ℕ → ℕ → ℕ → ℕ
copies_at copies set kind = if is_held set kind then slice_index copies kind else 0

unfoldable pub copies_among : List ℕ → ℕ → List ℕ
copies_among copies set = map (copies_at copies set) every_kind
