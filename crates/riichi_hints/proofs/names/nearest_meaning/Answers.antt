use Rattle.std.proofs.Common.{List, ℕ, subst, arith}
use Rattle.std.specs.List.{All}
use borrow.Author.Count.{below_more}
use Rattle.riichi_hints.specs.Near.{IsWithin, IsReached, IsNearest, names}
use Rattle.riichi_hints.proofs.NearLemmas.{nearest_at}
use Rattle.riichi_hints.proofs.names.nearest_meaning.Goals as goal

pub returns-in-Some : goal.returns-in-Some
returns-in-Some c =
    subst (λ (name : List ℕ). IsNearest name c.in-Some.meaning) c.in_ok-name.ensures
    (nearest_at c.in_ok-name.name.items c.loop-edits.edits c.in-Some.meaning (omega arith) (omega arith) c.loop-edits.invariant
    (subst (λ (name : List ℕ). IsReached c.loop-edits.edits name c.in-Some.meaning) c.as_slice.ensures.value c.in-Some.ensures.some))

pub loop-edits-preserved : goal.loop-edits-preserved
loop-edits-preserved c =
    below_more (λ fewer. All (λ row. IsWithin fewer row.0 c.in_ok-name.name.items → ⊥) names) c.loop-edits.edits c.loop-edits.invariant
    (subst (λ (name : List ℕ). All (λ row. IsWithin c.loop-edits.edits row.0 name → ⊥) names) c.as_slice.ensures.value c.in_default.ensures.none)
