use Rattle.riichi_chances.proofs.FractionLemmas.{is_more, lowest_is, reduced}
use Rattle.riichi_chances.proofs.fraction.Fraction.reduced.Goals as goal

pub nonzero_div-result : goal.nonzero_div-result
nonzero_div-result c = is_more c.args.self.part c.args.self.whole c.common_divisor-divisor.result c.common_divisor-divisor.ensures c.requires

pub nonzero_div-result-2 : goal.nonzero_div-result-2
nonzero_div-result-2 c = is_more c.args.self.part c.args.self.whole c.common_divisor-divisor.result c.common_divisor-divisor.ensures c.requires

pub returns-clause-value : goal.returns-clause-value
returns-clause-value c = lowest_is c.args.self c.common_divisor-divisor.result c.common_divisor-divisor.ensures

pub returns-clause-reduced : goal.returns-clause-reduced
returns-clause-reduced c = reduced c.args.self c.common_divisor-divisor.result c.requires c.common_divisor-divisor.ensures
