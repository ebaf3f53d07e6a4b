use Rattle.std.proofs.Common.{ℕ, ◌+◌, min, ap, ◌∙◌}
use Rattle.riichi_rows.specs.Lanes.{capped}
use Rattle.riichi_rows.specs.Seen.{seen}
use Rattle.riichi_rows.proofs.RankLanes.{beyond_four, few_cost, own_cost, with_room}
use Rattle.riichi_rows.proofs.added.or_taking.Goals as goal

pub returns-then-used-gt4-clause-others : goal.returns-then-used-gt4-clause-others
returns-then-used-gt4-clause-others c = λ have limit bit other s p low are apart hs hp few most. beyond_four (seen other c.args.some s p) (seen other c.args.others s p) have limit c.args.used low c.if-used-gt4.true most

pub returns-then-used-gt4-clause-own : goal.returns-then-used-gt4-clause-own
returns-then-used-gt4-clause-own c = λ have limit bit s p low are some hs hp few same most. beyond_four (seen bit c.args.some s p) (seen 0 c.args.others s p) (have + 1) limit c.args.used low c.if-used-gt4.true most

pub returns-else-used-gt4-clause-others : goal.returns-else-used-gt4-clause-others
returns-else-used-gt4-clause-others c = λ have limit bit other s p low are apart hs hp few most.
    (let is = c.of.ensures have limit bit low are in
    let more = c.lacking.ensures.others bit other s p is.mark hs hp apart (few_cost _ _ _ _ low is.tiles) (with_room _ few) ∙ ap (λ (n : ℕ). capped (seen other c.args.others s p + n)) is.tiles in
    c.or.ensures other s p hs hp ∙ ap (λ (n : ℕ). min (seen other c.args.some s p) n) more)

pub returns-else-used-gt4-clause-own : goal.returns-else-used-gt4-clause-own
returns-else-used-gt4-clause-own c = λ have limit bit s p low are some hs hp few same most.
    (let is = c.of.ensures have limit bit low are in
    let more = c.lacking.ensures.own bit s p is.mark hs hp some (few_cost _ _ _ _ low is.tiles) (with_room _ few) (λ none. same) ∙ ap (λ (n : ℕ). capped (seen 0 c.args.others s p + n)) (own_cost _ _ _ _ low is.tiles) in
    c.or.ensures bit s p hs hp ∙ ap (λ (n : ℕ). min (seen bit c.args.some s p) n) more)
