use Rattle.std.proofs.Common.{◌<◌, ◌^◌, subst, sym}
use Rattle.riichi_tiles.proofs.KindSets.{suit_bits, suit_shifts, where_low}
use Rattle.riichi_tiles.specs.Kinds.{is_of_suit}
use Rattle.riichi_tiles.proofs.kind_set.KindSet.of_suit.Goals as goal

pub overflow_shl-result : goal.overflow_shl-result
overflow_shl-result c = rw (c.kinds.ensures.value) (suit_shifts c.args.suit).0

pub overflow_sub-result : goal.overflow_sub-result
overflow_sub-result c = rw (c.kinds.ensures.value) (suit_shifts c.args.suit).2

pub overflow_shl-result-2 : goal.overflow_shl-result-2
overflow_shl-result-2 c = rw (c.first.ensures) (suit_shifts c.args.suit).1

pub invariant_of-result : goal.invariant_of-result
invariant_of-result c = rw (c.kinds.ensures.value, c.first.ensures) (subst (λ n. n < 2 ^ 34) (sym (suit_bits c.args.suit)) (where_low (is_of_suit c.args.suit)))

pub returns : goal.returns
returns c = rw (c.kinds.ensures.value, c.first.ensures) (suit_bits c.args.suit)
