use Rattle.desk_run.proofs.Parting.{last_table, fewer_tables}
use Rattle.desk_run_tests.proofs.seats.two_players.Goals as goal

pub new-second-requires : goal.new-second-requires
new-second-requires g c = (last_table _ _ _ _ _ c.requires c.in-Some-Some.ensures.items).0

pub new-requires : goal.new-requires
new-requires g c = (last_table _ _ _ _ _ (fewer_tables _ _ _ _ _ c.requires c.in-Some-Some.ensures.items) c.in-Some-Some.ensures'.items).0
