use Rattle.std.proofs.Common.{refl}
use Rattle.riichi_rows.specs.Seen.{begun_seen}
use Rattle.riichi_rows.proofs.Tables.{few_added, same_added}
use Rattle.riichi_rows.proofs.open.Open.before.Goals as goal

pub returns-clause-others : goal.returns-clause-others
returns-clause-others c = λ other counts caps apart few least. record {
  zero_open = record {
    zero_begun = c.lanes.ensures.others c.args.runs c.args.have c.args.limit c.args.bit other counts caps 0 0 (begun_seen other c.args.self.now.zero) c.requires c.new-costs.ensures apart (few_added c.args.runs _ _ (c.added-none_open.ensures 0) few.zero) refl (c.added-none_open.ensures other) least.zero_open;
    one_begun = c.lanes-2.ensures.others c.args.runs c.args.have c.args.limit c.args.bit other counts caps 1 0 (begun_seen other c.args.self.now.one) c.requires c.new-costs.ensures apart (few_added c.args.runs _ _ (c.added-one_open.ensures 0) few.one) refl (c.added-one_open.ensures other) least.one_open;
    two_begun = c.lanes-3.ensures.others c.args.runs c.args.have c.args.limit c.args.bit other counts caps 2 0 (begun_seen other c.args.self.now.two) c.requires c.new-costs.ensures apart (few_added c.args.runs _ _ (c.added-two_open.ensures 0) few.two) refl (c.added-two_open.ensures other) least.two_open;
  };
  one_open = record {
    zero_begun = c.lanes-4.ensures.others c.args.runs c.args.have c.args.limit c.args.bit other counts caps 0 1 (begun_seen other c.args.self.now.zero) c.requires c.new-costs.ensures apart (few_added c.args.runs _ _ (c.added-none_open.ensures 0) few.zero) refl (c.added-none_open.ensures other) least.zero_open;
    one_begun = c.lanes-5.ensures.others c.args.runs c.args.have c.args.limit c.args.bit other counts caps 1 1 (begun_seen other c.args.self.now.one) c.requires c.new-costs.ensures apart (few_added c.args.runs _ _ (c.added-one_open.ensures 0) few.one) refl (c.added-one_open.ensures other) least.one_open;
    two_begun = c.lanes-6.ensures.others c.args.runs c.args.have c.args.limit c.args.bit other counts caps 2 1 (begun_seen other c.args.self.now.two) c.requires c.new-costs.ensures apart (few_added c.args.runs _ _ (c.added-two_open.ensures 0) few.two) refl (c.added-two_open.ensures other) least.two_open;
  };
  two_open = record {
    zero_begun = c.lanes-7.ensures.others c.args.runs c.args.have c.args.limit c.args.bit other counts caps 0 2 (begun_seen other c.args.self.now.zero) c.requires c.new-costs.ensures apart (few_added c.args.runs _ _ (c.added-none_open.ensures 0) few.zero) refl (c.added-none_open.ensures other) least.zero_open;
    one_begun = c.lanes-8.ensures.others c.args.runs c.args.have c.args.limit c.args.bit other counts caps 1 2 (begun_seen other c.args.self.now.one) c.requires c.new-costs.ensures apart (few_added c.args.runs _ _ (c.added-one_open.ensures 0) few.one) refl (c.added-one_open.ensures other) least.one_open;
    two_begun = c.lanes-9.ensures.others c.args.runs c.args.have c.args.limit c.args.bit other counts caps 2 2 (begun_seen other c.args.self.now.two) c.requires c.new-costs.ensures apart (few_added c.args.runs _ _ (c.added-two_open.ensures 0) few.two) refl (c.added-two_open.ensures other) least.two_open;
  };
}

pub returns-clause-own : goal.returns-clause-own
returns-clause-own c = λ counts caps some few same least. record {
  zero_open = record {
    zero_begun = c.lanes.ensures.own c.args.runs c.args.have c.args.limit c.args.bit counts caps 0 0 (begun_seen 0 c.args.self.now.zero) c.requires c.new-costs.ensures some (few_added c.args.runs _ _ (c.added-none_open.ensures 0) few.zero) (same_added c.args.runs _ _ _ _ (c.added-none_open.ensures c.args.bit) (c.added-none_open.ensures 0) same.zero) refl (c.added-none_open.ensures 0) least.zero_open;
    one_begun = c.lanes-2.ensures.own c.args.runs c.args.have c.args.limit c.args.bit counts caps 1 0 (begun_seen 0 c.args.self.now.one) c.requires c.new-costs.ensures some (few_added c.args.runs _ _ (c.added-one_open.ensures 0) few.one) (same_added c.args.runs _ _ _ _ (c.added-one_open.ensures c.args.bit) (c.added-one_open.ensures 0) same.one) refl (c.added-one_open.ensures 0) least.one_open;
    two_begun = c.lanes-3.ensures.own c.args.runs c.args.have c.args.limit c.args.bit counts caps 2 0 (begun_seen 0 c.args.self.now.two) c.requires c.new-costs.ensures some (few_added c.args.runs _ _ (c.added-two_open.ensures 0) few.two) (same_added c.args.runs _ _ _ _ (c.added-two_open.ensures c.args.bit) (c.added-two_open.ensures 0) same.two) refl (c.added-two_open.ensures 0) least.two_open;
  };
  one_open = record {
    zero_begun = c.lanes-4.ensures.own c.args.runs c.args.have c.args.limit c.args.bit counts caps 0 1 (begun_seen 0 c.args.self.now.zero) c.requires c.new-costs.ensures some (few_added c.args.runs _ _ (c.added-none_open.ensures 0) few.zero) (same_added c.args.runs _ _ _ _ (c.added-none_open.ensures c.args.bit) (c.added-none_open.ensures 0) same.zero) refl (c.added-none_open.ensures 0) least.zero_open;
    one_begun = c.lanes-5.ensures.own c.args.runs c.args.have c.args.limit c.args.bit counts caps 1 1 (begun_seen 0 c.args.self.now.one) c.requires c.new-costs.ensures some (few_added c.args.runs _ _ (c.added-one_open.ensures 0) few.one) (same_added c.args.runs _ _ _ _ (c.added-one_open.ensures c.args.bit) (c.added-one_open.ensures 0) same.one) refl (c.added-one_open.ensures 0) least.one_open;
    two_begun = c.lanes-6.ensures.own c.args.runs c.args.have c.args.limit c.args.bit counts caps 2 1 (begun_seen 0 c.args.self.now.two) c.requires c.new-costs.ensures some (few_added c.args.runs _ _ (c.added-two_open.ensures 0) few.two) (same_added c.args.runs _ _ _ _ (c.added-two_open.ensures c.args.bit) (c.added-two_open.ensures 0) same.two) refl (c.added-two_open.ensures 0) least.two_open;
  };
  two_open = record {
    zero_begun = c.lanes-7.ensures.own c.args.runs c.args.have c.args.limit c.args.bit counts caps 0 2 (begun_seen 0 c.args.self.now.zero) c.requires c.new-costs.ensures some (few_added c.args.runs _ _ (c.added-none_open.ensures 0) few.zero) (same_added c.args.runs _ _ _ _ (c.added-none_open.ensures c.args.bit) (c.added-none_open.ensures 0) same.zero) refl (c.added-none_open.ensures 0) least.zero_open;
    one_begun = c.lanes-8.ensures.own c.args.runs c.args.have c.args.limit c.args.bit counts caps 1 2 (begun_seen 0 c.args.self.now.one) c.requires c.new-costs.ensures some (few_added c.args.runs _ _ (c.added-one_open.ensures 0) few.one) (same_added c.args.runs _ _ _ _ (c.added-one_open.ensures c.args.bit) (c.added-one_open.ensures 0) same.one) refl (c.added-one_open.ensures 0) least.one_open;
    two_begun = c.lanes-9.ensures.own c.args.runs c.args.have c.args.limit c.args.bit counts caps 2 2 (begun_seen 0 c.args.self.now.two) c.requires c.new-costs.ensures some (few_added c.args.runs _ _ (c.added-two_open.ensures 0) few.two) (same_added c.args.runs _ _ _ _ (c.added-two_open.ensures c.args.bit) (c.added-two_open.ensures 0) same.two) refl (c.added-two_open.ensures 0) least.two_open;
  };
}
