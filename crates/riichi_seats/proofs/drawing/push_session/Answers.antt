-- A session behind the others.
use Rattle.std.proofs.Common.{◌∙◌, ap, ◌++◌}
use Rattle.riichi_seats.specs.Seatings.{tables_of}
use Rattle.riichi_seats.proofs.SessionLemmas.{one_more}
use Rattle.riichi_seats.proofs.drawing.push_session.Goals as goal

pub returns : goal.returns
returns c sessions before =
    one_more c.args.tables sessions c.in_ok-order.order.items c.args.games.now.items c.push_tables.new.games.items c.in_ok-order.ensures
    (c.in_ok-push_tables.ensures ∙ ap (λ order. c.args.games.now.items ++ tables_of order) c.as_slice.ensures.value) before
