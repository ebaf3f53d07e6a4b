use Rattle.std.proofs.Common.{ℕ, ◌+◌, ap, ◌∙◌}
use Rattle.riichi_rows.specs.Lanes.{capped}
use Rattle.riichi_rows.specs.Seen.{added_seen, seen}
use Rattle.riichi_rows.proofs.RankLanes.{few_cost, lanes_of_rank, own_cost, with_room}
use Rattle.riichi_rows.proofs.added.Added.lanes.Goals as goal

pub returns-clause-others : goal.returns-clause-others
returns-clause-others c runs have limit bit other counts caps a b later low are apart few sum is least =
    let zero = c.of.ensures have limit bit low are in
    lanes_of_rank runs counts caps a b c.args.runs_open have limit sum low later (added_seen other c.args.self.now) is least _ _ _ _ _
    (λ s p hs hp. c.lacking-zero.ensures.others bit other s p zero.mark hs hp apart (few_cost _ _ _ _ low zero.tiles) (with_room _ (few.zero s p hs hp)) ∙ ap (λ (n : ℕ). capped (seen other c.args.self.now.zero s p + n)) zero.tiles)
    (λ s p hs hp. c.or_taking-one.ensures.others have limit bit other s p low are apart hs hp (few.one s p hs hp))
    (λ s p hs hp. c.or_taking-two.ensures.others have limit bit other s p low are apart hs hp (few.two s p hs hp))
    (λ s p hs hp. c.or_taking-three.ensures.others have limit bit other s p low are apart hs hp (few.three s p hs hp))
    (λ s p hs hp. c.or_taking.ensures.others have limit bit other s p low are apart hs hp (few.four s p hs hp))

pub returns-clause-own : goal.returns-clause-own
returns-clause-own c runs have limit bit counts caps a b later low are some few same sum is least =
    let zero = c.of.ensures have limit bit low are in
    lanes_of_rank runs counts caps a b c.args.runs_open (have + 1) limit sum low later (added_seen 0 c.args.self.now) is least _ _ _ _ _
    (λ s p hs hp. c.lacking-zero.ensures.own bit s p zero.mark hs hp some (few_cost _ _ _ _ low zero.tiles) (with_room _ (few.zero s p hs hp)) (λ none. same.zero s p hs hp) ∙ ap (λ (n : ℕ). capped (seen 0 c.args.self.now.zero s p + n)) (own_cost _ _ _ _ low zero.tiles))
    (λ s p hs hp. c.or_taking-one.ensures.own have limit bit s p low are some hs hp (few.one s p hs hp) (same.one s p hs hp))
    (λ s p hs hp. c.or_taking-two.ensures.own have limit bit s p low are some hs hp (few.two s p hs hp) (same.two s p hs hp))
    (λ s p hs hp. c.or_taking-three.ensures.own have limit bit s p low are some hs hp (few.three s p hs hp) (same.three s p hs hp))
    (λ s p hs hp. c.or_taking.ensures.own have limit bit s p low are some hs hp (few.four s p hs hp) (same.four s p hs hp))
