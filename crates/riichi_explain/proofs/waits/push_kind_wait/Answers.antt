use Rattle.std.proofs.Common.{append-nil, sym}
use Rattle.riichi_explain.proofs.WaitLemmas.{waits_at_told}
use Rattle.riichi_explain.proofs.waits.push_kind_wait.Goals as goal

pub returns-else-contains-clause-items : goal.returns-else-contains-clause-items
returns-else-contains-clause-items c =
    rw (waits_at_told c.args.hand.now c.args.kinds.now c.args.kind c.contains.result c.requires.kind c.requires.kinds c.contains.ensures, c.if-contains.false)
    (sym (append-nil c.args.rows.now.items))
