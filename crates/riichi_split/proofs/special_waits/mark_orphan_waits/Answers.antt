use Rattle.std.proofs.lemmas.Bool.{both_ways}
use Rattle.riichi_split.specs.SpecialWaits.{CompletesOrphans}
use Rattle.riichi_split.proofs.KindMarks.{adds_none}
use Rattle.riichi_split.proofs.SpecialKinds.{orphans_alone}
use Rattle.riichi_split.proofs.special_waits.mark_orphan_waits.Goals as goal

pub returns-then-not-are_orphans_alone : goal.returns-then-not-are_orphans_alone
returns-then-not-are_orphans_alone c = adds_none (CompletesOrphans c.args.tiles.now) 34 c.args.marks.now (λ kind small o.
    both_ways c.are_orphans_alone.result c.if-not-are_orphans_alone.true
    (c.are_orphans_alone.ensures.1 (rw c.as_array-counts.ensures.value (orphans_alone c.args.tiles.now kind c.as_array-counts.ensures.counts.each_kind small o))))
