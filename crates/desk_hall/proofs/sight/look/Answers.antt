use Rattle.std.proofs.Common.{ℕ, Some, subst}
use Rattle.desk_hall.specs.Deals.{deal_by}
use Rattle.desk_hall.specs.Fronts.{Front, first_front}
use Rattle.desk_hall.specs.Playing.{front_in, PlaysOn, MeetsFault}
use Rattle.desk_hall.proofs.PlayLemmas.{one_played, unended, refused, fault_behind}
use Rattle.desk_hall.proofs.SeenLemmas.{is_none, is_some, free_seen, taken_seen}
use Rattle.desk_hall.proofs.sight.look.Goals as goal

pub returns-in_default : goal.returns-in_default
returns-in_default g c = subst (λ (f : Front g.row.P.Denot). MeetsFault g.P.Position.reads f c.args.text.now) c.before_first.ensures c.in_default.ensures

-- from the first deal on
pub returns-then-is_empty : goal.returns-then-is_empty
returns-then-is_empty g c =
    let reads = g.P.Position.reads in
    let on = subst (λ (f : Front g.row.P.Denot). PlaysOn reads f c.args.text.now (Some c.saturating_sub.result) (front_in c.in-Some.front) c.in-Some.rest.now) c.before_first.ensures c.in-Some.ensures in
    let asked = subst (λ (n : ℕ). PlaysOn reads (first_front c.args.start.now) c.args.text.now (Some n) (front_in c.in-Some.front) c.in-Some.rest.now) c.saturating_sub.ensures on in
    free_seen reads c.args.start.now c.args.text.now c.args.number (front_in c.in-Some.front) c.in-Some.rest.now asked (is_none c.in-Some.rest.now c.if-is_empty.ensures)

pub returns-in_default-next_deal : goal.returns-in_default-next_deal
returns-in_default-next_deal g c =
    let reads = g.P.Position.reads in
    let on = subst (λ (f : Front g.row.P.Denot). PlaysOn reads f c.args.text.now (Some c.saturating_sub.result) (front_in c.in-Some.front) c.in-Some.rest.now) c.before_first.ensures c.in-Some.ensures in
    unended reads (first_front c.args.start.now) (front_in c.in-Some.front) c.args.text.now c.in-Some.rest.now on.plays c.in_default-next_deal.ensures (is_some c.in-Some.rest.now c.if-is_empty.ensures)

pub returns-in_default-with_deal : goal.returns-in_default-with_deal
returns-in_default-with_deal g c =
    let reads = g.P.Position.reads in
    let on = subst (λ (f : Front g.row.P.Denot). PlaysOn reads f c.args.text.now (Some c.saturating_sub.result) (front_in c.in-Some.front) c.in-Some.rest.now) c.before_first.ensures c.in-Some.ensures in
    refused reads (first_front c.args.start.now) (front_in c.in-Some.front) c.args.text.now c.in-Some.rest.now (deal_by c.in-Some-next_deal.deal) c.in-Some-next_deal.behind.now on.plays c.in-Some-next_deal.ensures c.in_default-with_deal.ensures

pub returns-in_default-play_on : goal.returns-in_default-play_on
returns-in_default-play_on g c =
    let reads = g.P.Position.reads in
    let on = subst (λ (f : Front g.row.P.Denot). PlaysOn reads f c.args.text.now (Some c.saturating_sub.result) (front_in c.in-Some.front) c.in-Some.rest.now) c.before_first.ensures c.in-Some.ensures in
    let next = one_played reads (first_front c.args.start.now) (front_in c.in-Some.front) (front_in c.in-Some-with_deal.next) c.args.text.now c.in-Some.rest.now (deal_by c.in-Some-next_deal.deal) c.in-Some-next_deal.behind.now
    on.plays c.in-Some-next_deal.ensures c.in-Some-with_deal.ensures.0 c.in-Some-with_deal.ensures.1 in
    fault_behind reads (first_front c.args.start.now) (front_in c.in-Some-with_deal.next) c.args.text.now c.in-Some-next_deal.behind.now next c.in_default-play_on.ensures

pub returns : goal.returns
returns g c =
    let reads = g.P.Position.reads in
    let on = subst (λ (f : Front g.row.P.Denot). PlaysOn reads f c.args.text.now (Some c.saturating_sub.result) (front_in c.in-Some.front) c.in-Some.rest.now) c.before_first.ensures c.in-Some.ensures in
    let asked = subst (λ (n : ℕ). PlaysOn reads (first_front c.args.start.now) c.args.text.now (Some n) (front_in c.in-Some.front) c.in-Some.rest.now) c.saturating_sub.ensures on in
    taken_seen reads c.args.start.now c.args.text.now c.args.number (front_in c.in-Some.front) c.in-Some.rest.now c.in-Some-next_deal.deal c.in-Some-next_deal.behind.now (front_in c.in-Some-with_deal.next)
    (front_in c.in-Some-play_on.whole) c.in-Some-play_on.field-0-1.now asked c.in-Some-next_deal.ensures c.in-Some-with_deal.ensures.0 c.in-Some-with_deal.ensures.1 c.in-Some-play_on.ensures
