use Rattle.std.proofs.Common.{◌∙◌, ◌||◌, not, ap}
use Rattle.std.specs.List.{list_all}
use Rattle.riichi_tiles.specs.HeldKinds.{is_held}
use Rattle.riichi_tiles.specs.Melds.{every_kind}
use Rattle.riichi_blocks.specs.Held.{every}
use Rattle.riichi_blocks.proofs.KindWords.{every_where}
use Rattle.riichi_blocks.proofs.tiles.AllTiles.are_all.Goals as goal

pub returns : goal.returns
returns c = λ is_so kinds_are.
    let held = c.self.inside.held in
    c.is_superset.ensures
    ∙ ap (λ kinds. list_all (λ kind. is_held kinds kind || not (is_held held kind)) every_kind) kinds_are
    ∙ every_where c.self.inside.counts held c.self.invariant is_so
    ∙ ap (every is_so) c.self.view_is
