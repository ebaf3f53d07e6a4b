use Rattle.std.proofs.Common.{◌∙◌, ap, nat_eq, sym}
use Rattle.riichi_yaku.proofs.Sets.{yaku_of-where}
use Rattle.riichi_yaku.proofs.conditions.yaku_among.Goals as goal

pub returns-then-is_empty : goal.returns-then-is_empty
returns-then-is_empty c =
    let none = ap (λ set. nat_eq set 0) (sym c.yakuman_among-yakuman.ensures) ∙ sym c.is_empty.ensures ∙ c.if-is_empty.true in
    c.others_among.ensures ∙ yaku_of-where c.args.reading.now c.args.win.now c.args.blocks.now c.args.tiles.now _ c.requires.blocks c.requires.tiles none

pub returns-else-is_empty : goal.returns-else-is_empty
returns-else-is_empty c =
    let none = ap (λ set. nat_eq set 0) (sym c.yakuman_among-yakuman.ensures) ∙ sym c.is_empty.ensures ∙ c.if-is_empty.false in
    c.yakuman_among-yakuman.ensures ∙ yaku_of-where c.args.reading.now c.args.win.now c.args.blocks.now c.args.tiles.now _ c.requires.blocks c.requires.tiles none
