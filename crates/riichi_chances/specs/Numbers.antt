-- Rows of numbers of draws, one for each number of turns that may be left, and how great they can be.
use Rattle.std.specs.Prelude.{◌≡◌, ℕ, zero, suc, ◌-◌, ◌*◌, ◌≤◌, List, slice_index}
use Rattle.riichi_chances.specs.Draws.{all_draws}
use Rattle.riichi_chances.specs.declared.span.Span.{Span}

-- no more than 136 tiles at each turn
unfoldable pub most_draws : ℕ → ℕ
most_draws zero = 1
most_draws (suc turns) = 136 * most_draws turns

-- how many tiles are unseen where so many turns are left
abbrev pub unseen_at : Span → ℕ → ℕ
unseen_at span left = span.unseen - (span.turns - left)

-- all draws of the turns that are left
abbrev pub AreAllDraws : Span → List ℕ → Type 0
AreAllDraws span numbers = (left : ℕ) → left ≤ span.turns → slice_index numbers left ≡ all_draws (unseen_at span left) left
