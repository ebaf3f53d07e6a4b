-- What rows of fu add up to.
use Rattle.std.proofs.Common.{◌≡◌, ℕ, ◌+◌, ◌<◌, Bool, true, false, cond, eqb, leb, List, [], ◌∷◌, ◌++◌, ◌||◌, refl, ap, ◌∙◌, arith}
use Rattle.std.proofs.Math.Nat.{zero-add}
use Rattle.std.specs.List.{sum_by, flat_map}
use Rattle.std.proofs.lemmas.List.Concat.{flat_map-cons}
use Rattle.std.proofs.lemmas.List.Sums.{sum_by-append, sum_by-cons}
use Rattle.std.proofs.lemmas.Bool.Decides.{nat_tests}
use Rattle.riichi_tiles.specs.declared.block.Block.{Block}
use Rattle.riichi_tiles.specs.declared.block.Block.TheVariants as block
use Rattle.riichi_hand.specs.declared.win.WinParts.{WinParts}
use Rattle.riichi_hand.specs.declared.win.Wind.{Wind}
use Rattle.riichi_hand.specs.declared.win.Wind.TheVariants.{East, South, West, North}
use Rattle.riichi_hand.specs.Win.{wind_kind}
use Rattle.riichi_split.specs.declared.reading.Reading.{Reading}
use Rattle.riichi_split.specs.declared.reading.Reading.TheVariants.{Standard, SevenPairs, Orphans}
use Rattle.riichi_blocks.specs.declared.hand_block.HandBlock.{HandBlock}
use Rattle.riichi_blocks.specs.declared.hand_block.HandBlock.TheVariants.{Run, Triplet, Kong, Pair}
use Rattle.riichi_blocks.specs.HandBlocks.{blocks_of}
use Rattle.riichi_blocks.specs.Kinds.{white}
use Rattle.riichi_blocks.specs.Pairs.{has_prevalent_fu}
use Rattle.riichi_blocks.specs.Waits.{is_closed_wait, is_edge_wait, wait_fu}
use Rattle.riichi_yaku.specs.Runs.{is_pinfu}
use Rattle.riichi_score.specs.Fu.{ron_fu, self_draw_fu, block_fu, open_fu, fu_sum, fu_of, up_to_ten}
use Rattle.riichi_explain.specs.declared.fu.FuPart.{FuPart}
use Rattle.riichi_explain.specs.declared.fu.FuPart.TheVariants as part
use Rattle.riichi_explain.specs.declared.fu.FuRow.{FuRow}
use Rattle.riichi_explain.specs.Fu.{earned, pair_rows, set_rows, rows_if_pair, block_rows, wait_rows, plain_rows, standard_rows, fu_rows, fu_total, fu_from_rows}

-- a row adds what the part earns
total-earned : (part : FuPart) (fu : ℕ) → fu_total (earned part fu) ≡ fu
total-earned part fu = grind (arith, nat_tests)

total-append : (xs ys : List FuRow) → fu_total (xs ++ ys) ≡ fu_total xs + fu_total ys
total-append xs ys = sum_by-append (λ (row : FuRow). row.fu) xs ys

-- two and three parts in a row
total-two : (p q : FuPart) (a b : ℕ) → fu_total (earned p a ++ earned q b) ≡ a + b
total-two p q a b = omega (arith, total-append (earned p a) (earned q b), total-earned p a, total-earned q b)

total-three : (p q r : FuPart) (a b c : ℕ) → fu_total (earned p a ++ earned q b ++ earned r c) ≡ a + b + c
total-three p q r a b c = omega (arith, total-append (earned p a ++ earned q b) (earned r c), total-two p q a b, total-earned r c)

-- no wind is a dragon
pub wind_below : (wind : Wind) → wind_kind wind < white
wind_below East = omega arith
wind_below South = omega arith
wind_below West = omega arith
wind_below North = omega arith

total-set : (win : WinParts) (block : HandBlock) → fu_total (set_rows win block) + fu_total (rows_if_pair win block) ≡ block_fu win block
total-set win (Run low) = refl
total-set win (Triplet kind concealed) = omega (arith, total-earned (part.Triplet kind concealed) (block_fu win (Triplet kind concealed)))
total-set win (Kong kind concealed) = omega (arith, total-earned (part.Kong kind concealed) (block_fu win (Kong kind concealed)))
total-set win (Pair kind) =
    let a = cond (leb white kind) 2 0 in
    let b = cond (eqb kind (wind_kind win.seat)) 2 0 in
    let c = cond (has_prevalent_fu win kind) 2 0 in
    zero-add (fu_total (pair_rows win kind)) ∙ total-three (part.DragonPair kind) (part.SeatWindPair kind) (part.PrevalentWindPair kind) a b c

total-sets : (win : WinParts) (blocks : List HandBlock) → fu_total (flat_map (set_rows win) blocks) + fu_total (flat_map (rows_if_pair win) blocks) ≡ sum_by (block_fu win) blocks
total-sets win [] = refl
total-sets win (block ∷ blocks) =
    omega (
      arith,
      ap fu_total (flat_map-cons (set_rows win) block blocks),
      ap fu_total (flat_map-cons (rows_if_pair win) block blocks),
      sum_by-cons (block_fu win) block blocks,
      total-append (set_rows win block) (flat_map (set_rows win) blocks),
      total-append (rows_if_pair win block) (flat_map (rows_if_pair win) blocks),
      total-set win block,
      total-sets win blocks,
    )

total-blocks : (win : WinParts) (blocks : List HandBlock) → fu_total (block_rows win blocks) ≡ sum_by (block_fu win) blocks
total-blocks win blocks = total-append (flat_map (set_rows win) blocks) (flat_map (rows_if_pair win) blocks) ∙ total-sets win blocks

-- no wait is closed and an edge wait
one-wait : (low winning : ℕ) (closed edge : Bool) → closed ≡ is_closed_wait low winning → edge ≡ is_edge_wait low winning → cond closed 2 0 + cond edge 2 0 ≡ cond (closed || edge) 2 0
one-wait low winning true true a b = grind (arith, nat_tests)
one-wait low winning true false a b = refl
one-wait low winning false edge a b = omega arith

total-wait : (winning : ℕ) (done : Block) → fu_total (wait_rows winning done) ≡ wait_fu winning done
total-wait winning (block.Run low) =
    total-two part.ClosedWait part.EdgeWait (cond (is_closed_wait low winning) 2 0) (cond (is_edge_wait low winning) 2 0)
    ∙ one-wait low winning (is_closed_wait low winning) (is_edge_wait low winning) refl refl
total-wait winning (block.Triplet kind) = refl
total-wait winning (block.Pair kind) = refl

-- the rows of sets and a pair add up to the sum of the table
pub total_plain : (blocks : List HandBlock) (reading : Reading) (done : Block) (win : WinParts) → fu_total (plain_rows blocks reading done win) ≡ fu_sum blocks reading done win
total_plain blocks reading done win =
    let a = earned part.Base 20 in
    let b = earned part.ConcealedRon (ron_fu win) in
    let c = earned part.SelfDraw (self_draw_fu (is_pinfu blocks reading win) win) in
    let d = block_rows win blocks in
    let e = wait_rows win.winning done in
    omega (
      arith,
      total-append (a ++ b ++ c ++ d) e,
      total-append (a ++ b ++ c) d,
      total-append (a ++ b) c,
      total-append a b,
      total-earned part.Base 20,
      total-earned part.ConcealedRon (ron_fu win),
      total-earned part.SelfDraw (self_draw_fu (is_pinfu blocks reading win) win),
      total-blocks win blocks,
      total-wait win.winning done,
    )

total-standard : (blocks : List HandBlock) (reading : Reading) (done : Block) (win : WinParts) → fu_total (standard_rows blocks reading done win) ≡ fu_sum blocks reading done win + open_fu win (fu_sum blocks reading done win)
total-standard blocks reading done win =
    let sum = fu_sum blocks reading done win in
    omega (arith, total-append (plain_rows blocks reading done win) (earned part.OpenRon (open_fu win sum)), total_plain blocks reading done win, total-earned part.OpenRon (open_fu win sum))

-- the rows of a reading give its fu
pub rows_give_fu : (reading : Reading) (win : WinParts) → fu_from_rows reading (fu_rows reading win) ≡ fu_of reading win
unfolding fu_rows fu_of
rows_give_fu (Standard sets pair done) win =
    let reading = Standard sets pair done in
    ap up_to_ten (total-standard (blocks_of reading win) reading done win)
rows_give_fu SevenPairs win = refl
rows_give_fu Orphans win = refl
