use Rattle.std.proofs.Common.{Bool, sym, subst, ◌∙◌}
use Rattle.riichi_split.specs.SuitTiles.{AreCut, AreSets}
use Rattle.riichi_split.proofs.SuitCuts.{triplets-alone}
use Rattle.riichi_split.proofs.suit_tiles.SuitTiles.can_be_cut.Goals as goal

pub returns-else-self : goal.returns-else-self
returns-else-self c =
    let i = triplets-alone c.self.inside.held in
    let P : Bool → Type 0 = λ runs. AreCut runs 0 0 c.self.inside.held in (
      λ t. subst AreSets c.self.view_is (subst P (sym c.if-self.false) (i.0 (sym c.are_triplets.ensures ∙ t))),
      λ s. c.are_triplets.ensures ∙ i.1 (subst P c.if-self.false (subst AreSets (sym c.self.view_is) s)),
    )
