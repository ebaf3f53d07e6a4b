use Rattle.std.proofs.Common.{sym, ◌∙◌}
use Rattle.riichi_tiles.specs.declared.suit.Suit.TheVariants.{Characters, Circles, Bamboos, Honours}
use Rattle.riichi_tiles.proofs.Suits.{each_suit}
use Rattle.riichi_shape.proofs.KeptJoins.{half_kept}
use Rattle.riichi_shape.proofs.halves.Halves.with.Goals as goal

pub returns-then-is_low : goal.returns-then-is_low
returns-then-is_low c =
    let kept = half_kept c.args.own c.args.self.now c.args.rows.now c.requires in
    let low = sym c.is_low.ensures ∙ c.if-is_low.true in
    each_suit _ (kept Characters low) (kept Circles low) c.join_half.ensures c.join_half.ensures

pub returns-else-is_low : goal.returns-else-is_low
returns-else-is_low c =
    let kept = half_kept c.args.own c.args.self.now c.args.rows.now c.requires in
    let high = sym c.is_low.ensures ∙ c.if-is_low.false in
    each_suit _ c.join_half-else-is_low.ensures c.join_half-else-is_low.ensures (kept Bamboos high) (kept Honours high)
