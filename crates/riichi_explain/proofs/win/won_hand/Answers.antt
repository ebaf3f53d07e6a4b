use Rattle.std.proofs.Common.{Bool, refl, ap, ◌∙◌}
use Rattle.riichi_explain.specs.Win.{counted_dora, counted_fu}
use Rattle.riichi_explain.proofs.WinLemmas.{score-base, won_hand_explains}
use Rattle.riichi_explain.proofs.win.won_hand.Goals as goal

pub pay_rows-payers-requires : goal.pay_rows-payers-requires
pay_rows-payers-requires c = score-base c.args.reading c.args.win.now c.args.score c.requires.score

pub returns-clause-explains : goal.returns-clause-explains
returns-clause-explains c =
    let w = c.args.win.now in
    let yakuman = c.is_yakuman-yakuman.ensures in
    let fu = c.counted_fu-fu.ensures ∙ ap (λ (b : Bool). counted_fu b c.args.reading w) yakuman in
    let dora = c.counted_dora-dora.ensures ∙ ap (λ (b : Bool). counted_dora b w) yakuman in
    won_hand_explains w _ refl c.requires.reading c.requires.score c.han_rows-han.ensures.value dora fu c.base_rule-base.ensures c.pay_rows-payers.ensures.value
