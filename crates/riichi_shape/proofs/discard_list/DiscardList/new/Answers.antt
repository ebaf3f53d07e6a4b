use Rattle.riichi_shape.proofs.KeptLemmas.{are_told}
use Rattle.riichi_shape.proofs.discard_list.DiscardList.new.Goals as goal

pub invariant_of-result : goal.invariant_of-result
invariant_of-result c = rw c.copies_among.ensures (are_told c.args.copies.now c.accepted.result c.args.order c.accepted.ensures c.requires.few c.requires.kept)
