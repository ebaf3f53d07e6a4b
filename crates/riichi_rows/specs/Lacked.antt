-- Which ranks the least choices of a suit lack.
use Rattle.std.specs.Prelude.{◌≡◌, ◌≢◌, ℕ, ◌+◌, ◌<◌, ◌↔◌, Bool, List, slice_index, Some}
use Rattle.riichi_tiles.specs.Blocks.{total}
use Rattle.riichi_tiles.specs.declared.block.Block.{Block}
use Rattle.riichi_rows.specs.Suit.{IsChoice, IsLeastLack, lack}

-- the same counts with one more at x
pub record IsOneMore (x : ℕ) (counts more : List ℕ) : Type 0 where
  pub here : slice_index more x ≡ slice_index counts x + 1
  pub elsewhere : (k : ℕ) → k ≢ x → slice_index more k ≡ slice_index counts k

-- some choice that lacks n tiles has more of the rank r than the counts
pub record ChoiceLacks (runs : Bool) (counts caps : List ℕ) (sets pairs n r : ℕ) : Type 0 where
  pub blocks : List Block
  pub is_choice : IsChoice runs caps sets pairs blocks
  pub lacks : lack counts blocks ≡ n
  pub lacks_rank : slice_index counts r < total blocks r

-- in one suit: one more tile of the rank r lowers an entry exactly where some choice with the least lack lacks r
abbrev pub EntryLaw : Type 0
EntryLaw =
    (runs : Bool) (counts more caps : List ℕ) (sets pairs n m r : ℕ) → r < 9 → IsOneMore r counts more →
    IsLeastLack runs counts caps sets pairs (Some n) → IsLeastLack runs more caps sets pairs (Some m) → (m < n) ↔ ChoiceLacks runs counts caps sets pairs n r
