use Rattle.std.proofs.Common.{List, ℕ, sym, subst, take, arith}
use Rattle.std.proofs.lemmas.List.{take_all}
use Rattle.std.proofs.lemmas.List.Elements.{All-same, All-more}
use Rattle.std.proofs.lemmas.Bool.Decides.{not_from_Decides}
use Rattle.riichi_hints.specs.Near.{IsWithin}
use Rattle.riichi_hints.proofs.NearLemmas.{none_reached, reached_at}
use Rattle.riichi_hints.proofs.names.near_meaning.Goals as goal

pub returns-then-is_near-clause-some : goal.returns-then-is_near-clause-some
returns-then-is_near-clause-some c =
    reached_at c.args.names.now c.loop-known.known-index c.args.edits c.args.name.now _ c.requires (omega arith)
    (subst (λ (known : List ℕ). IsWithin c.args.edits known c.args.name.now) c.as_bytes.ensures.value (c.is_near.ensures.0 c.if-is_near.true))

pub loop-known-preserved : goal.loop-known-preserved
loop-known-preserved c =
    All-more (λ row. IsWithin c.args.edits row.0.now c.args.name.now → ⊥) c.args.names.now c.loop-known.known-index _ (omega arith) c.loop-known.invariant
    (subst (λ (known : List ℕ). IsWithin c.args.edits known c.args.name.now → ⊥) c.as_bytes.ensures.value (not_from_Decides c.is_near.result c.is_near.ensures c.if-is_near.false))

pub returns-clause-none : goal.returns-clause-none
returns-clause-none c =
    none_reached c.args.names.now (λ row. IsWithin c.args.edits row.0 c.args.name.now → ⊥) c.requires
    (All-same (λ row. IsWithin c.args.edits row.0.now c.args.name.now → ⊥) c.args.names.now (take c.loop-known.known-index c.args.names.now) (sym (take_all c.loop-known.known-index c.args.names.now (omega arith))) c.loop-known.invariant)
