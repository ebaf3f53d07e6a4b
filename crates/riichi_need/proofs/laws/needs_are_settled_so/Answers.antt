use Rattle.riichi_need.proofs.SettledSo.{ron_is_settled_so, tsumo_is_settled_so}
use Rattle.riichi_need.proofs.laws.needs_are_settled_so.Goals as goal

pub returns-clause-ron : goal.returns-clause-ron
returns-clause-ron c = ron_is_settled_so c.a_lone_win_is_settled_as_scored.ensures.ron

pub returns-clause-tsumo : goal.returns-clause-tsumo
returns-clause-tsumo c = tsumo_is_settled_so c.a_lone_win_is_settled_as_scored.ensures.tsumo
