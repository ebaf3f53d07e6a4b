use Rattle.std.proofs.Common.{ap, arith}
use Rattle.riichi_tiles.specs.Melds.{tiles}
use Rattle.riichi_shape.proofs.ShapeFacts.{melds_few}
use Rattle.riichi_deeper.specs.Calls.{calls_of}
use Rattle.riichi_deeper.proofs.gains.calls.Goals as goal

pub shanten_with-shanten-requires : goal.shanten_with-shanten-requires
shanten_with-shanten-requires g c = λ kind low. omega (arith, melds_few c.args.asked.now c.tiles.ensures.shape kind low, ap (λ m. tiles m kind) c.melds.ensures)

pub returns-clause-value : goal.returns-clause-value
unfolding calls_of
returns-clause-value g c = cc (c.call_of-highest.ensures.value, c.call_of-middle.ensures.value, c.call_of-lowest.ensures.value, c.call_of-triplet.ensures.value)
