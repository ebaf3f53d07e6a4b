use Rattle.std.proofs.Common.{◌∙◌, ap, sym, Some}
use Rattle.riichi_tiles.specs.Melds.{reads_as}
use Rattle.riichi_tiles.proofs.MeldText.{finds_lowest, finds_no_other, finds_nothing}
use Rattle.riichi_tiles.proofs.meld.find_meld.Goals as goal

pub returns-in_err-lowest-clause-value : goal.returns-in_err-lowest-clause-value
returns-in_err-lowest-clause-value c =
    c.from_residual.ensures ∙ sym (finds_nothing c.args.counts.now c.args.name c.in_err-lowest.ensures.least)

pub returns-then-is_spelled-clause-value : goal.returns-then-is_spelled-clause-value
returns-then-is_spelled-clause-value c =
    let counts = c.args.counts.now in
    let low = c.in_ok-lowest.ensures.least in
    let passes = ap (reads_as counts) (sym c.make-meld.ensures) ∙ sym c.is_spelled.ensures ∙ c.if-is_spelled.true in
    ap Some c.make-meld.ensures ∙ sym (finds_lowest counts c.args.name c.in_ok-lowest.field-0 low.0 low.1 low.2 passes)

pub returns-else-is_spelled-clause-value : goal.returns-else-is_spelled-clause-value
returns-else-is_spelled-clause-value c =
    let counts = c.args.counts.now in
    let low = c.in_ok-lowest.ensures.least in
    let fails = ap (reads_as counts) (sym c.make-meld.ensures) ∙ sym c.is_spelled.ensures ∙ c.if-is_spelled.false in
    sym (finds_no_other counts c.args.name c.in_ok-lowest.field-0 low.0 low.1 low.2 fails)
