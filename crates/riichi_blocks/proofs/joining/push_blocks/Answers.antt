use Rattle.std.proofs.Common.{◌++◌, ◌∷◌, [], List, map, sym, ap, ◌∙◌, append_assoc}
use Rattle.riichi_blocks.specs.declared.hand_block.HandBlock.{HandBlock}
use Rattle.riichi_blocks.specs.declared.hand_block.HandBlock.TheVariants.{Pair}
use Rattle.riichi_blocks.specs.HandBlocks.{of_set, of_meld, blocks_of}
use Rattle.riichi_blocks.proofs.joining.push_blocks.Goals as goal

pub returns-in-Standard : goal.returns-in-Standard
returns-in-Standard c =
    let s = c.in-Standard in
    let w = c.args.win.now in
    let sets : List HandBlock = map (of_set w.by s.done) s.sets in
    let pair : List HandBlock = Pair s.pair ∷ [] in
    c.push_melds.ensures
    ∙ ap (λ x. x ++ map of_meld c.melds.result) (c.push.ensures ∙ ap (λ x. x ++ pair) (c.push_sets.ensures.value ∙ ap (λ by. map (of_set by s.done) s.sets) c.by.ensures))
    ∙ ap (λ x. (sets ++ pair) ++ map of_meld x) c.melds.ensures
    ∙ append_assoc sets pair (map of_meld w.melds)
    ∙ sym (ap (λ r. blocks_of r w) s.is)
