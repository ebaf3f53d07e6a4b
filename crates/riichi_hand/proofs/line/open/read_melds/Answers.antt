use Rattle.std.proofs.Common.{◌≡◌, ◌∙◌, ◌∷◌, ◌++◌, [], None, ap, sym}
use Rattle.riichi_hand.specs.Words.{items_of}
use Rattle.riichi_hand.specs.Values.{melds_of, melds_of_items}
use Rattle.riichi_hand.proofs.CutLemmas.{next_item}
use Rattle.riichi_hand.proofs.MeldLemmas.{melds_of_items_none}
use Rattle.riichi_hand.proofs.line.open.read_melds.Goals as goal

pub returns-then-not-add_meld : goal.returns-then-not-add_meld
unfolding melds_of
returns-then-not-add_meld c =
    let so_far = c.loop-item.invariant in
    let item = c.in-Some.item.now in
    let after = c.in-Some.after.now in
    let items = next_item c.args.value.now so_far.0 c.loop-item.rest.now item after so_far.1 c.in-Some.ensures.0 in
    let none : None ≡ melds_of_items (so_far.0 ++ item ∷ []) = rw c.if-not-add_meld.true at c.add_meld.ensures so_far.0 so_far.2 in
    melds_of_items_none (so_far.0 ++ item ∷ []) (items_of after) none ∙ sym (ap melds_of_items items)
