use Rattle.std.proofs.Common.{◌≡◌, length, rules, arith}
use Rattle.riichi_split.proofs.SpecialKinds.{none_completed, single_completed}
use Rattle.riichi_split.proofs.special_waits.single_of.Goals as goal

pub returns-then-first-ge34-clause-only : goal.returns-then-first-ge34-clause-only
returns-then-first-ge34-clause-only c = λ kind small pairs.
    let long : length c.args.counts.now ≡ 34 = search rules in
    absurd (none_completed c.args.counts.now kind long small (c.next_single-first.ensures.pairs kind (omega arith) (omega (arith, small, c.if-first-ge34.true))) pairs)

pub returns-then-second-lt34-clause-only : goal.returns-then-second-lt34-clause-only
returns-then-second-lt34-clause-only c = λ kind small pairs.
    let long : length c.args.counts.now ≡ 34 = search rules in
    let a = c.next_single-first.ensures.single (omega (arith, c.if-first-ge34.false)) in
    let b = c.next_single-second.ensures.single (omega (arith, c.if-second-lt34.true)) in
    let e = single_completed c.args.counts.now kind c.next_single-first.result long small (omega (arith, c.if-first-ge34.false)) a.1 a.2 pairs in
    let f = single_completed c.args.counts.now kind c.next_single-second.result long small (omega (arith, c.if-second-lt34.true)) b.1 b.2 pairs in
    absurd (omega (arith, e, f, b.0))

pub returns-clause-only : goal.returns-clause-only
returns-clause-only c = λ kind small pairs.
    let long : length c.args.counts.now ≡ 34 = search rules in
    let a = c.next_single-first.ensures.single (omega (arith, c.if-first-ge34.false)) in
    single_completed c.args.counts.now kind c.next_single-first.result long small (omega (arith, c.if-first-ge34.false)) a.1 a.2 pairs
