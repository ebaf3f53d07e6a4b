use Rattle.riichi_rows.specs.Lanes.{lane}
use Rattle.riichi_shape.specs.Rows.{far_half}
use Rattle.riichi_shape.proofs.hand_joins.beside.Goals as goal

pub returns : goal.returns
returns c = record {
  last_two = lane (far_half c.args.halves.now c.args.suit).sums.lacks;
  two_least = c.requires c.args.suit;
  least = rw (c.lent.ensures, c.partner.ensures, c.far.ensures) at c.and.ensures;
}
