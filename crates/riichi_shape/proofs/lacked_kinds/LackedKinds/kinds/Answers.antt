use Rattle.std.proofs.Common.{◌≡◌, Bool, true, false, ap, ◌∙◌, sym}
use Rattle.std.specs.Prelude.{◌||◌}
use Rattle.riichi_tiles.specs.HeldKinds.{is_held}
use Rattle.riichi_shape.specs.LackedKinds.{suits_lack}
use Rattle.riichi_tiles.proofs.KindSets.{either_at}
use Rattle.riichi_shape.proofs.lacked_kinds.LackedKinds.kinds.Goals as goal

alone : (a b : Bool) → b ≡ false → a ≡ (a || b)
alone true b none = cc
alone false b none = sym none

pub returns-else-is_empty : goal.returns-else-is_empty
returns-else-is_empty c = λ kind low.
    ap (λ s. is_held s kind) c.either.ensures ∙ either_at c.kinds_lacked-kinds.result c.kinds.result kind ∙ ap (λ t. t || is_held c.kinds.result kind) (c.kinds_lacked-kinds.ensures kind low)
    ∙ ap (λ t. suits_lack c.args.self.now.suits kind || t) (c.kinds.ensures kind low)
