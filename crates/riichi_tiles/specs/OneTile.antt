-- Counts with one tile of a kind more, and with one less.
use Rattle.std.specs.Prelude.{ℕ, ◌+◌, ◌-◌, List, slice_index, slice_set}

abbrev pub with_one : List ℕ → ℕ → List ℕ
with_one counts kind = slice_set counts kind (slice_index counts kind + 1)

abbrev pub without_one : List ℕ → ℕ → List ℕ
without_one counts kind = slice_set counts kind (slice_index counts kind - 1)
