use Rattle.std.proofs.Common.{◌≡◌, ℕ, ◌+◌, map, nat_lt, subst, arith}
use lib.Lanes.{mask_l}
use Rattle.riichi_tiles.specs.HeldKinds.{AreHeldOf}
use Rattle.riichi_tiles.proofs.KindBits.{mask-below, mask-held, whole-mask}
use Rattle.riichi_tiles.proofs.held_kinds.bits_of.Goals as goal

pub overflow_add-result : goal.overflow_add-result
overflow_add-result c =
    let counts = c.args.counts.now in
    omega (arith, whole-mask counts (omega arith), mask-below counts (omega arith), c.bits_of_first.ensures, c.bit_if.ensures)

pub overflow_add-result-2 : goal.overflow_add-result-2
overflow_add-result-2 c =
    let counts = c.args.counts.now in
    record { fits = omega (arith, whole-mask counts (omega arith), mask-below counts (omega arith), c.bits_of_first.ensures, c.bit_if.ensures, c.bit_if-red.ensures) }

pub returns-clause-held : goal.returns-clause-held
returns-clause-held c =
    let counts = c.args.counts.now in
    let is : mask_l (map (nat_lt 0) counts) ≡ c.bits_of_first.result + c.bit_if.result + c.bit_if-red.result =
    omega (arith, whole-mask counts (omega arith), c.bits_of_first.ensures, c.bit_if.ensures, c.bit_if-red.ensures) in
    subst (λ (bits : ℕ). AreHeldOf counts bits) is (mask-held counts)

pub returns-clause-below : goal.returns-clause-below
returns-clause-below c =
    let counts = c.args.counts.now in
    omega (arith, whole-mask counts (omega arith), mask-below counts (omega arith), c.bits_of_first.ensures, c.bit_if.ensures, c.bit_if-red.ensures)
