use Rattle.std.proofs.Common.{◌+◌, ◌*◌, ◌%◌, inl, inr, sym, ◌∙◌, arith}
use Rattle.std.proofs.lemmas.Bool.{both_ways, iff_false}
use Rattle.riichi_split.proofs.SuitCuts.{pair-of, one-of-three}
use Rattle.riichi_split.proofs.suit_tiles.SuitTiles.are_sets_and_pair_by.Goals as goal
use Rattle.riichi_split.proofs.suit_tiles.SuitTiles.are_sets_and_pair_by.Goals.{then-are_sets_beside, else-are_sets_beside}

pub returns-then-are_sets_beside-2 : goal.returns-then-are_sets_beside-2
returns-then-are_sets_beside-2 c = (
  λ t. elim c.if-are_sets_beside.branch [
    | then-are_sets_beside w ↦ pair-of c.args.self.now (2 * c.args.third % 3) (omega (arith, c.requires)) (c.are_sets_beside.ensures.pair.0 w.if-are_sets_beside.true)
    | else-are_sets_beside w ↦ pair-of c.args.self.now ((2 * c.args.third % 3) + 3) (omega (arith, c.requires)) (w.are_sets_beside-else-are_sets_beside.ensures.pair.0 (sym w.value-is ∙ t))
  ],
  λ p. c.if-are_sets_beside-2.true,
)

pub returns-else-are_sets_beside-2 : goal.returns-else-are_sets_beside-2
returns-else-are_sets_beside-2 c = (
  λ t. pair-of c.args.self.now ((2 * c.args.third % 3) + 6) (omega (arith, c.requires)) (c.are_sets_beside-else-are_sets_beside-2.ensures.pair.0 t),
  λ p. elim (one-of-three c.args.self.now (2 * c.args.third % 3) c.are_sets_beside.ensures.nine (omega (arith, c.requires)) p) [
    | inl first ↦ elim c.if-are_sets_beside.branch [
      | then-are_sets_beside w ↦ absurd (both_ways _ c.if-are_sets_beside-2.false (w.value-is ∙ w.if-are_sets_beside.true))
      | else-are_sets_beside w ↦ absurd (iff_false c.are_sets_beside.ensures.pair w.if-are_sets_beside.false first)
    ]
    | inr other ↦ elim other [
      | inl second ↦ elim c.if-are_sets_beside.branch [
        | then-are_sets_beside w ↦ absurd (both_ways _ c.if-are_sets_beside-2.false (w.value-is ∙ w.if-are_sets_beside.true))
        | else-are_sets_beside w ↦ absurd (both_ways _ c.if-are_sets_beside-2.false (w.value-is ∙ w.are_sets_beside-else-are_sets_beside.ensures.pair.1 second))
      ]
      | inr third ↦ c.are_sets_beside-else-are_sets_beside-2.ensures.pair.1 third
    ]
  ],
)
