use Rattle.std.proofs.Common.{rules}
use Rattle.riichi_shape.proofs.LackedRows.{suits_lacked}
use Rattle.riichi_shape.proofs.hand_joins.HandJoins.lacked.Goals as goal

pub returns : goal.returns
returns c = λ hand melds are are_joins few none_less.
    suits_lacked hand melds c.args.rows.now are few c.args.sets c.args.least c.requires.sets c.requires.least none_less c.args.self.now are_joins _
    (λ suit. (let post = c.of.ensures suit in search rules))
