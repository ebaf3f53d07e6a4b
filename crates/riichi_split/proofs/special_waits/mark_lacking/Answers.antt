use Rattle.std.proofs.Common.{sym, subst, ℕ, rules}
use Rattle.std.proofs.lemmas.Bool.{iff_false}
use Rattle.riichi_split.specs.SpecialWaits.{CompletesOrphans, Adds}
use Rattle.riichi_split.proofs.SpecialKinds.{lacked_is}
use Rattle.riichi_split.proofs.KindMarks.{adds_none, adds_one}
use Rattle.riichi_split.proofs.special_waits.mark_lacking.Goals as goal

pub returns-then-completes_orphans : goal.returns-then-completes_orphans
returns-then-completes_orphans c =
    let M : ℕ → Type 0 = λ marks. Adds (CompletesOrphans c.args.tiles.now) 34 c.args.marks.now marks in
    subst M (sym c.insert.ensures)
    (adds_one (CompletesOrphans c.args.tiles.now) c.args.lacking c.args.marks.now (search rules) (c.completes_orphans.ensures.0 c.if-completes_orphans.true)
    (λ kind l o. lacked_is c.args.tiles.now kind c.args.lacking (search rules) c.requires.orphan c.requires.none o))

pub returns-else-completes_orphans : goal.returns-else-completes_orphans
returns-else-completes_orphans c = adds_none (CompletesOrphans c.args.tiles.now) 34 c.args.marks.now (λ kind l o.
    iff_false c.completes_orphans.ensures c.if-completes_orphans.false (subst (CompletesOrphans c.args.tiles.now) (lacked_is c.args.tiles.now kind c.args.lacking (search rules) c.requires.orphan c.requires.none o) o))
