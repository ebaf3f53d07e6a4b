use Rattle.std.proofs.Common.{◌<◌, ap, ◌∙◌, arith}
use Rattle.riichi_tiles.specs.Melds.{tiles_of}
use Rattle.riichi_deeper.proofs.AfterLemmas.{laid_all, laid_none}
use Rattle.riichi_deeper.proofs.after.laid_down.Goals as goal

pub returns-then-there-taken : goal.returns-then-there-taken
returns-then-there-taken c =
    let low : c.loop-number.number < 34 = omega arith in
    let taken = ap (tiles_of c.args.meld.now) c.at.ensures in
    laid_none c.args.held.now c.args.meld.now c.loop-number.number low (omega (arith, c.if-there-taken.true, c.loop-number.invariant.later c.loop-number.number (omega arith), c.tiles-taken.ensures, taken))

pub returns : goal.returns
returns c =
    c.of.ensures
    ∙ laid_all c.args.held.now c.loop-number.left c.args.meld.now c.to_array-left.ensures.counts.at_most_four c.loop-number.invariant.long (λ kind low. c.loop-number.invariant.each kind (omega arith))
