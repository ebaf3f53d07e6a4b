use Rattle.std.proofs.Common.{arith}
use Rattle.riichi_tiles.proofs.Reading.{zero_at}
use Rattle.riichi_tiles.proofs.melded.meld_tiles.Goals as goal

pub add_melds-requires : goal.add_melds-requires
add_melds-requires c = λ kind. omega (arith, zero_at 34 kind)

pub returns-clause-value : goal.returns-clause-value
returns-clause-value c = λ kind. omega (arith, c.add_melds.ensures.value kind, zero_at 34 kind)

pub returns-clause-most : goal.returns-clause-most
returns-clause-most c = λ kind. omega (arith, c.add_melds.ensures.most kind, zero_at 34 kind)
