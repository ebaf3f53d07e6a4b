use Rattle.std.proofs.Common.{◌+◌, set, get_or, ap, ◌∙◌, arith}
use Rattle.riichi_tiles.specs.Melds.{tiles}
use Rattle.riichi_blocks.proofs.Additions.{all_tiles-from}
use Rattle.riichi_blocks.proofs.held.counts_of.Goals as goal

pub returns : goal.returns
returns c =
    let concealed = c.to_array-counts.result in
    let winning = c.index.result in
    all_tiles-from
    c.args.win.now
    concealed
    winning
    c.add_melds.new.held
    (c.to_array-counts.ensures.value ∙ c.concealed.ensures)
    (c.index.ensures.value ∙ c.winning.ensures)
    (omega arith)
    c.add_melds.array_long
    (λ kind h. c.add_melds.ensures.value kind ∙ ap (λ melds. get_or (set concealed winning (get_or concealed winning 0 + 1)) kind 0 + tiles melds kind) c.melds.ensures)
