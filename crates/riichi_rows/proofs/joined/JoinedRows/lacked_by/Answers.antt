use Rattle.std.proofs.Common.{◌^◌, suc, ℕ, Bool}
use Rattle.std.specs.Prelude.{bit_and, nat_lt}
use Rattle.riichi_rows.specs.Lanes.{lane, mark}
use Rattle.riichi_rows.proofs.MarkLemmas.{is_lowered, lowered}
use Rattle.riichi_rows.proofs.Opposite.{lacked_ranks, opposite_sums, taken_is, through}
use Rattle.riichi_rows.proofs.joined.JoinedRows.lacked_by.Goals as goal

pub returns : goal.returns
returns c =
    let row = c.args.row.now in
    let others = c.args.self.now in
    let lacks = lane row.entries.lacks in
    let sets = c.args.sets in
    let least = c.args.least in
    let few = c.requires.sets in
    let below = c.requires.least in
    let sums = c.add_lanes-sums.result.lacks in
    let sum = opposite_sums lacks (lane others.sums.lacks) c.opposite.result.lacks sums sets c.add_lanes-sums.ensures c.opposite.ensures in
    let fewer : ℕ → ℕ → Bool = λ s p. nat_lt (lane row.first.lacks s p) (lacks s p) in
    lacked_ranks row others sets least _
    (through c.any_fewer.ensures (taken_is row others sums sets least 0 few below fewer sum (λ s p hs hp low. (λ h. h, λ h. h))))
    (λ r low. through (c.marks_at.ensures (2 ^ r))
    (taken_is row others sums sets least (suc r) few below (λ s p. nat_lt 0 (bit_and (mark row.marks s p) (2 ^ r))) sum
    (λ s p hs hp low_lack. (λ h. lowered (2 ^ r) (lacks s p) (mark row.marks s p) low_lack (row.sound s p hs hp) h, λ h. is_lowered (2 ^ r) (lacks s p) (mark row.marks s p) h))))
