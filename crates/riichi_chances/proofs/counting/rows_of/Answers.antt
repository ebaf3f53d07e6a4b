use Rattle.std.proofs.Common.{List, length, sym, subst, ◌∙◌}
use Rattle.riichi_chances.specs.Aims.{numbers_for}
use Rattle.riichi_chances.specs.Bests.{BeginFew, FollowDraws}
use Rattle.riichi_chances.specs.Graph.{LeadBefore, placed_hand}
use Rattle.riichi_chances.specs.declared.node.Draw.{Draw}
use Rattle.riichi_chances.proofs.RowLemmas.{begin_few, followed_rows, live_few, ready_has}
use Rattle.riichi_chances.proofs.counting.rows_of.Goals as goal

pub ready_rows-requires-clause-live : goal.ready_rows-requires-clause-live
ready_rows-requires-clause-live c =
    let node = c.requires.node in
    live_few node.1 (length c.args.earlier.now) (placed_hand node.0 node.1 (length c.args.earlier.now)) c.args.node.now node.2

pub far_rows-requires-clause-live : goal.far_rows-requires-clause-live
far_rows-requires-clause-live c =
    let node = c.requires.node in
    live_few node.1 (length c.args.earlier.now) (placed_hand node.0 node.1 (length c.args.earlier.now)) c.args.node.now node.2

pub far_rows-requires-clause-before : goal.far_rows-requires-clause-before
far_rows-requires-clause-before c = subst (λ (draws : List Draw). LeadBefore (length c.args.earlier.now) draws) (sym c.as_slice.ensures) c.requires.node.2.before

pub far_rows-requires-clause-few : goal.far_rows-requires-clause-few
far_rows-requires-clause-few c = λ column.
    (let node = c.requires.node in
    subst (λ (draws : List Draw). BeginFew column c.args.span c.args.node.now.live c.args.earlier.now draws) (sym c.as_slice.ensures)
    (begin_few c.args.span c.requires.turns c.requires.unseen node.0 node.1 (length c.args.earlier.now) c.args.node.now node.2 c.args.earlier.now node.3 c.if-node.false column))

pub returns-then-node : goal.returns-then-node
returns-then-node c = λ root hands is rows.
    ready_has c.args.span (placed_hand root hands (length c.args.earlier.now)) c.args.node.now.live is.whole (sym is.ready ∙ c.if-node.true) is.live c.ready_rows.result c.ready_rows.ensures.ready c.ready_rows.ensures.at_most c.ready_rows.ensures.win c.ready_rows.ensures.win_at_most

pub returns-else-node : goal.returns-else-node
returns-else-node c = λ root hands is rows.
    followed_rows c.args.span c.requires.turns c.requires.unseen root hands (length c.args.earlier.now) c.args.node.now is c.args.earlier.now rows c.if-node.false c.far_rows.result
    (λ column. subst (λ (draws : List Draw). FollowDraws column c.args.span c.args.node.now.live c.args.earlier.now draws (numbers_for column c.far_rows.result)) c.as_slice.ensures (c.far_rows.ensures column))
