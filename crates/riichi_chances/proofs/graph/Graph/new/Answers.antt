use Rattle.std.proofs.Common.{refl, arith}
use Rattle.std.proofs.lemmas.List.{get_or-replicate}
use Rattle.riichi_chances.proofs.PlaceLemmas.{none_distinct, none_indexed}
use Rattle.riichi_chances.proofs.graph.Graph.new.Goals as goal

pub invariant_of-result : goal.invariant_of-result
invariant_of-result c = none_indexed c.args.places.now _ c.min-most_hands.result (omega (arith, c.min.ensures, c.min-most_hands.ensures)) (omega (arith, c.min-most_hands.ensures)) (λ bucket low. get_or-replicate 4096 bucket 0 0 low)

pub returns-clause-graph : goal.returns-clause-graph
returns-clause-graph c = λ root. record { each = refl; once = none_distinct; few = omega arith; node = λ place node low. absurd (omega (arith, low)) }
