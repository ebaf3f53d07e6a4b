use Rattle.std.proofs.Common.{refl}
use Rattle.riichi_tiles.specs.declared.suit.Suit.TheVariants.{Characters}
use Rattle.riichi_rows.specs.Lanes.{lane}
use Rattle.riichi_rows.proofs.joined.join_rows.Goals as goal

pub returns : goal.returns
returns c = c.with.ensures Characters c.args.rows.now refl (record { last_two = lane c.join_two-far.result.sums.lacks; two_least = c.join_two-far.ensures; least = c.and.ensures })
