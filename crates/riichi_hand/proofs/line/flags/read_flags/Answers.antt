use Rattle.std.proofs.Common.{◌∙◌, ◌∷◌, ◌++◌, [], ap, sym}
use Rattle.riichi_hand.specs.Words.{items_of}
use Rattle.riichi_hand.specs.Values.{flags_of, flags_of_items}
use Rattle.riichi_hand.proofs.CutLemmas.{last_item, next_item}
use Rattle.riichi_hand.proofs.FlagLemmas.{flags_of_items-some, flags_of_items-none}
use Rattle.riichi_hand.proofs.line.flags.read_flags.Goals as goal

pub returns-in_default : goal.returns-in_default
unfolding flags_of
returns-in_default c =
    let so_far = c.loop-item.invariant in
    let items = last_item c.args.value.now so_far.0 c.loop-item.rest.now so_far.1 c.in_default.ensures in
    c.with_flag.ensures so_far.0 so_far.2 so_far.3 ∙ sym (ap flags_of_items items)

pub returns-in_err-flags : goal.returns-in_err-flags
unfolding flags_of
returns-in_err-flags c =
    let so_far = c.loop-item.invariant in
    let item = c.in-Some.item.now in
    let after = c.in-Some.after.now in
    let items = next_item c.args.value.now so_far.0 c.loop-item.rest.now item after so_far.1 c.in-Some.ensures.0 in
    let none = sym c.in_err-flags.was ∙ c.with_flag-in-loop-item.ensures so_far.0 so_far.2 so_far.3 in
    c.from_residual.ensures ∙ flags_of_items-none (so_far.0 ++ item ∷ []) (items_of after) none ∙ sym (ap flags_of_items items)

pub loop-item-preserved : goal.loop-item-preserved
loop-item-preserved c =
    let so_far = c.loop-item.invariant in
    let item = c.in-Some.item.now in
    let items = next_item c.args.value.now so_far.0 c.loop-item.rest.now item c.in-Some.after.now so_far.1 c.in-Some.ensures.0 in
    let told = flags_of_items-some (so_far.0 ++ item ∷ []) c.in_ok-flags.flags (sym c.in_ok-flags.was ∙ c.with_flag-in-loop-item.ensures so_far.0 so_far.2 so_far.3) in
    (so_far.0 ++ item ∷ [], items, told.0, told.1)
