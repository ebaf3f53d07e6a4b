use Rattle.riichi_tiles.specs.Blocks.{copies}
use Rattle.std.proofs.Common.{nat_lt, false, sym, ap, ◌∙◌, ◌||◌, ◌≡◌, drop, ◌+◌}
use Rattle.riichi_tiles.specs.declared.block.Block.TheVariants.{Pair}
use Rattle.riichi_split.specs.Dones.{done_unless_again, is_block_among, same_block}
use Rattle.riichi_split.proofs.DoneSteps.{not_done, done_first_set, done_first_pair}
use Rattle.riichi_split.proofs.done.done_at.Goals as goal
use Rattle.riichi_split.proofs.done.done_at.Goals.{then-has_from, else-has_from}

pub returns-after-has_from : goal.returns-after-has_from
returns-after-has_from c =
    let set = c.in-Some.set in
    let again : c.if-has_from.comes_again ≡ (is_block_among set (drop (c.args.place + 1) c.args.split.now.sets) || same_block set (Pair c.args.split.now.pair)) =
    elim c.if-has_from.branch [
      | then-has_from w ↦ w.comes_again-is ∙ w.if-has_from.true ∙ ap (λ t. t || same_block set (Pair c.args.split.now.pair)) (sym w.if-has_from.true ∙ c.has_from.ensures)
      | else-has_from w ↦ w.comes_again-is ∙ w.same_block-comes_again.ensures ∙ ap (λ t. t || same_block set (Pair c.args.split.now.pair)) (sym w.if-has_from.false ∙ c.has_from.ensures)
    ]
    in
    c.done_unless.ensures ∙ ap (λ t. done_unless_again t set c.args.winning) again ∙ sym (done_first_set c.args.winning c.args.split.now.pair c.args.place c.args.split.now.sets set (sym c.get.ensures ∙ c.in-Some.is))

pub returns-in-None : goal.returns-in-None
returns-in-None c =
    c.done_unless-in-None.ensures ∙ sym (done_first_pair c.args.winning c.args.split.now.pair c.args.place c.args.split.now.sets (sym c.get.ensures ∙ c.in-None.is) c.requires.in_range)

pub returns-then-not-contains : goal.returns-then-not-contains
returns-then-not-contains c =
    let set = c.in-Some.set in
    let none : nat_lt 0 (copies set c.args.winning) ≡ false = sym c.contains.ensures ∙ c.if-not-contains.true in
    not_done set c.args.winning (is_block_among set (drop (c.args.place + 1) c.args.split.now.sets) || same_block set (Pair c.args.split.now.pair)) none
    ∙ sym (done_first_set c.args.winning c.args.split.now.pair c.args.place c.args.split.now.sets set (sym c.get.ensures ∙ c.in-Some.is))
