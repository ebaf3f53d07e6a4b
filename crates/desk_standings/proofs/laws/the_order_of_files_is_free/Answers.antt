use Rattle.desk_standings.proofs.Orders.{order_of_files_is_free}
use Rattle.desk_standings.proofs.laws.the_order_of_files_is_free.Goals as goal

pub returns : goal.returns
returns c = order_of_files_is_free
