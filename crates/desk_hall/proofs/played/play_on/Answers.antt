use Rattle.std.proofs.Common.{◌+◌, ap, arith}
use Rattle.desk_hall.specs.Deals.{deal_by}
use Rattle.desk_hall.specs.Fronts.{Front}
use Rattle.desk_hall.specs.Playing.{front_in}
use Rattle.desk_hall.proofs.PlayLemmas.{one_played, may_have, unended, refused}
use Rattle.desk_hall.proofs.played.play_on.Goals as goal

pub returns-in_default : goal.returns-in_default
returns-in_default g c =
    unended g.P.Position.reads (front_in c.args.from.now) (front_in c.loop-most.played) c.args.text.now c.loop-most.rest.now c.loop-most.invariant.plays c.in_default.ensures (c.stops.ensures.text c.loop-most-test.true)

pub returns-in_default-with_deal : goal.returns-in_default-with_deal
returns-in_default-with_deal g c =
    refused g.P.Position.reads (front_in c.args.from.now) (front_in c.loop-most.played) c.args.text.now c.loop-most.rest.now (deal_by c.in-Some.deal) c.in-Some.after.now c.loop-most.invariant.plays c.in-Some.ensures c.in_default-with_deal.ensures

pub loop-most-preserved : goal.loop-most-preserved
loop-most-preserved g c = record {
  plays = one_played g.P.Position.reads (front_in c.args.from.now) (front_in c.loop-most.played) (front_in c.in-Some-with_deal.next) c.args.text.now c.loop-most.rest.now (deal_by c.in-Some.deal) c.in-Some.after.now
      c.loop-most.invariant.plays c.in-Some.ensures c.in-Some-with_deal.ensures.0 c.in-Some-with_deal.ensures.1;
  few = may_have c.args.most (c.loop-most.played.count + 1) c.in-Some-with_deal.next.count (omega (arith, ap (λ (f : Front g.row.P.Denot). f.count) c.in-Some-with_deal.ensures.1)) (c.stops.ensures.no c.loop-most-test.true c.loop-most.invariant.few);
}
