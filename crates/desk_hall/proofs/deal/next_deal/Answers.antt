use Rattle.desk_hall.specs.Deals.{deal_by}
use Rattle.desk_hall.proofs.LineLemmas.{next_is}
use Rattle.desk_hall.proofs.deal.next_deal.Goals as goal

pub returns : goal.returns
returns c = next_is c.args.text.now c.in_ok-line.line.now c.in_ok-line.after.now (deal_by c.deal_of.result) c.in_ok-line.ensures.0 c.deal_of.ensures
