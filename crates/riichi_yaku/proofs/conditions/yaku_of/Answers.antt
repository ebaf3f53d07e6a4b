use Rattle.std.proofs.Common.{◌^◌, ap, sym, nat_le, ◌∙◌}
use Rattle.riichi_yaku.specs.YakuSets.{contains}
use Rattle.riichi_yaku.proofs.Sets.{contains-yaku_of, yakuman-alone}
use Rattle.riichi_yaku.proofs.conditions.yaku_of.Goals as goal

pub returns-clause-each : goal.returns-clause-each
returns-clause-each c = λ yaku.
    ap (λ set. contains set yaku) c.yaku_among.ensures ∙ contains-yaku_of c.args.reading.now c.args.win.now yaku

pub returns-clause-alone : goal.returns-clause-alone
returns-clause-alone c = λ large yaku other.
    let is = c.yaku_among.ensures in
    ap (λ set. contains set yaku) is ∙ yakuman-alone c.args.reading.now c.args.win.now (ap (nat_le (2 ^ 29)) (sym is) ∙ large) yaku other
