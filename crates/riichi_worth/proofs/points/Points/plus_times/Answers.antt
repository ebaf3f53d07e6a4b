use Rattle.std.proofs.Common.{◌≡◌, ◌+◌, ◌*◌, ap, ◌∙◌, arith}
use Rattle.riichi_worth.proofs.NumberLemmas.{carried, last_fits, times_parts}
use Rattle.riichi_worth.proofs.points.Points.plus_times.Goals as goal

pub overflow_cast-result-3 : goal.overflow_cast-result-3
overflow_cast-result-3 c =
    let own = c.self.inside in
    let others = c.other.inside in
    let times = c.args.times in
    let own_is : c.self.inside.low + c.self.inside.middle * 18446744073709551616 + c.self.inside.high * 340282366920938463463374607431768211456 ≡ c.args.self = c.self.view_is in
    let others_are : c.other.inside.low + c.other.inside.middle * 18446744073709551616 + c.other.inside.high * 340282366920938463463374607431768211456 ≡ c.args.other = c.other.view_is in
    omega (arith, carried (own.low + times * others.low) (own.middle + times * others.middle) (own.high + times * others.high), times_parts times others.low others.middle others.high, own_is, ap (λ n. times * n) others_are, c.requires)

pub returns : goal.returns
returns c =
    let own = c.self.inside in
    let others = c.other.inside in
    let times = c.args.times in
    let own_is : c.self.inside.low + c.self.inside.middle * 18446744073709551616 + c.self.inside.high * 340282366920938463463374607431768211456 ≡ c.args.self = c.self.view_is in
    let others_are : c.other.inside.low + c.other.inside.middle * 18446744073709551616 + c.other.inside.high * 340282366920938463463374607431768211456 ≡ c.args.other = c.other.view_is in
    omega (arith, carried (own.low + times * others.low) (own.middle + times * others.middle) (own.high + times * others.high), times_parts times others.low others.middle others.high, own_is, ap (λ n. times * n) others_are)
