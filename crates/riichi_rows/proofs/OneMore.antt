-- One more tile of a rank: an entry falls where a choice with the least lack lacks that rank.
use Rattle.std.proofs.Common.{ℕ, ◌<◌, List, ⊎_elim, arith}
use Rattle.std.specs.Prelude.{slice_index}
use Rattle.riichi_tiles.specs.Blocks.{total}
use Rattle.riichi_tiles.specs.declared.block.Block.{Block}
use Rattle.riichi_rows.specs.Lacked.{IsOneMore, ChoiceLacks, EntryLaw}
use Rattle.riichi_rows.specs.Suit.{lack}
use Rattle.riichi_rows.proofs.Spread.{Falls, sums_fall}

suit_falls : (counts more : List ℕ) (blocks : List Block) (r : ℕ) → r < 9 → IsOneMore r counts more → Falls (slice_index counts) (total blocks) r (lack counts blocks) (lack more blocks)
suit_falls counts more blocks r inside one = sums_fall (slice_index counts) (slice_index more) (total blocks) r one.here one.elsewhere 9 inside

pub entry_falls : EntryLaw
entry_falls runs counts more caps sets pairs n m r inside one before after = (lower, raise)
  where
    lower : m < n → ChoiceLacks runs counts caps sets pairs n r
    lower less =
        let bound = before.1.bound after.0.blocks after.0.is_choice in
        let reached = after.0.lacks in
        ⊎_elim (λ lacks. record { blocks = after.0.blocks; is_choice = after.0.is_choice; lacks = (let e = lacks.1 in omega (arith, e, reached, bound, less)); lacks_rank = lacks.0 })
        (λ not. absurd (let e = not.1 in omega (arith, e, reached, bound, less)))
        (suit_falls counts more after.0.blocks r inside one)

    raise : ChoiceLacks runs counts caps sets pairs n r → m < n
    raise w =
        let bound = after.1.bound w.blocks w.is_choice in
        let reached = w.lacks in
        let kind = w.lacks_rank in
        ⊎_elim (λ lacks. (let e = lacks.1 in omega (arith, e, reached, bound))) (λ not. absurd (let e = not.0 in omega (arith, e, kind))) (suit_falls counts more w.blocks r inside one)
