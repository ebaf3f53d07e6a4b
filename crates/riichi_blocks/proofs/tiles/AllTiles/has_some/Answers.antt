use Rattle.std.proofs.Common.{◌∙◌, ◌&&◌, not, ap}
use Rattle.std.specs.List.{list_any}
use Rattle.riichi_tiles.specs.HeldKinds.{is_held}
use Rattle.riichi_tiles.specs.Melds.{every_kind}
use Rattle.riichi_blocks.specs.Held.{some}
use Rattle.riichi_tiles.proofs.KindSets.{twice}
use Rattle.riichi_blocks.proofs.KindWords.{some_where}
use Rattle.riichi_blocks.proofs.tiles.AllTiles.has_some.Goals as goal

pub returns : goal.returns
returns c = λ is_so kinds_are.
    let held = c.self.inside.held in
    ap not c.is_disjoint.ensures
    ∙ twice (list_any (λ kind. is_held c.args.kinds kind && is_held held kind) every_kind)
    ∙ ap (λ kinds. list_any (λ kind. is_held kinds kind && is_held held kind) every_kind) kinds_are
    ∙ some_where c.self.inside.counts held c.self.invariant is_so
    ∙ ap (some is_so) c.self.view_is
