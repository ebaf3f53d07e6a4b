use Rattle.std.proofs.Common.{◌∙◌, ap, bit_and}
use Rattle.riichi_safe.proofs.SafeSets.{safe_set}
use Rattle.riichi_safe.proofs.passed.cannot_win.Goals as goal

pub returns : goal.returns
returns c =
    c.both.ensures ∙ ap (bit_and c.held_kinds-held.result) c.either.ensures
    ∙ safe_set c.args.asked.now c.held_kinds-held.result c.held_kinds-thrown.result c.held_kinds-since.result (cc) (cc) (cc)
