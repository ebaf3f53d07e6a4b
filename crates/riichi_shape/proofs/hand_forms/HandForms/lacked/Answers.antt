use Rattle.std.proofs.Common.{◌-◌, ap}
use Rattle.riichi_shape.proofs.Nearer.{lacked_of}
use Rattle.riichi_shape.proofs.hand_forms.HandForms.lacked.Goals as goal

pub returns : goal.returns
returns c = λ hand are least_is.
    (let melds = c.args.melds.now in
    lacked_of hand melds c.args.least c.count.ensures.melds.at_most_four c.requires.melded least_is (4 - c.count.result) (ap (λ n. 4 - n) c.count.ensures.value) _
    (c.lacked.ensures hand melds are.are_rows are.are_joins c.requires.melded) (c.lacked_at.ensures hand melds are.special))
