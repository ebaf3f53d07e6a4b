use Rattle.std.proofs.Common.{◌∙◌, ap, not, nat_le}
use Rattle.std.specs.List.{list_any}
use Rattle.riichi_blocks.specs.HandBlocks.{runs_equal_to}
use Rattle.riichi_blocks.proofs.EqualRuns.{equal_runs}
use Rattle.riichi_blocks.proofs.blocks.Blocks.has_equal_runs.Goals as goal

pub returns : goal.returns
returns c =
    let s = c.self.inside in
    ap not c.is_empty.ensures
    ∙ equal_runs s.list.items s.runs_again c.self.invariant.runs_again_are
    ∙ ap (λ blocks. list_any (λ block. nat_le 2 (runs_equal_to blocks block)) blocks) c.self.view_is
