use Rattle.std.proofs.Common.{ap, subst, ◌∙◌}
use Rattle.riichi_tiles.specs.Suits.{of_suit}
use Rattle.riichi_tiles.specs.declared.suit.Suit.{Suit}
use Rattle.riichi_rows.specs.declared.joined.JoinedRows.{JoinedRows}
use Rattle.riichi_shape.proofs.KeptJoins.{JoinsWith, changed}
use Rattle.riichi_shape.proofs.hand_joins.HandJoins.standard_with.Goals as goal

pub returns : goal.returns
returns c = λ hand melds joins few row.
    (let is = c.lent.ensures ∙ ap (λ (suit : Suit). of_suit c.args.self.now.beside suit) c.suit.ensures.value in
    changed c.args.kind hand melds c.args.self.now joins few c.args.sets c.requires c.args.row.now c.with.result row
    (subst (λ (joined : JoinedRows). JoinsWith c.args.row.now joined c.args.sets c.with.result) is c.with.ensures))
