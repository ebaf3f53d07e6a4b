use Rattle.std.proofs.Common.{◌≡◌, pos, ◌+ℤ◌, to_z, of_z, rules, arith}
use Rattle.std.proofs.Common as width
use Rattle.std.proofs.lemmas.Int.{ints}
use Rattle.riichi_shape.proofs.distance.shanten_with.Goals as goal

pub returns-clause-none_less : goal.returns-clause-none_less
returns-clause-none_less g c =
    let few = c.distance_by.ensures.few in
    let least = c.distance_by.ensures.least in
    let same : to_z width.w8 (of_z width.w8 c.shanten_at.result) ≡ c.shanten_at.result = search rules in
    let one_more : to_z width.w8 (of_z width.w8 c.shanten_at.result) +ℤ pos 1 ≡ pos c.distance_by.result = omega (arith, ints, few, same, c.shanten_at.ensures) in
    record { bound = λ wanted is. rw one_more (let less = least.none_less wanted is in omega (arith, ints, less)) }
