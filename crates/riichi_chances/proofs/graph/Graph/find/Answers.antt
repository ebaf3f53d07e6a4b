use Rattle.std.proofs.Common.{◌-◌, sym, subst, ◌∙◌, arith}
use Rattle.riichi_chances.specs.Places.{IsAbsent}
use Rattle.riichi_chances.proofs.PlaceLemmas.{earlier, finds_first, finds_next, finds_none, found, reads}
use Rattle.riichi_chances.proofs.graph.Graph.find.Goals as goal

pub loop-next-init : goal.loop-next-init
loop-next-init c = finds_first c.args.self.now c.self.inside.places.now c.self.inside.lasts c.self.inside.count c.self.inside.most_hands c.self.invariant (sym c.self.view_is) c.to_array-tiles.result c.bucket_of.result c.bucket_of.ensures.inside c.bucket_of.ensures.value

pub bounds-places-place : goal.bounds-places-place
bounds-places-place c = reads c.args.self.now c.self.inside.places.now c.self.inside.lasts c.self.inside.count c.self.inside.most_hands c.self.invariant (sym c.self.view_is) c.to_array-tiles.result c.loop-next.next (c.loop-next.next - 1) c.loop-next.invariant (omega (arith, c.loop-next-test.true))

pub returns-then-eq-clause-found : goal.returns-then-eq-clause-found
returns-then-eq-clause-found c =
    found c.args.self.now c.self.inside.places.now c.self.inside.lasts c.self.inside.count c.self.inside.most_hands c.self.invariant (sym c.self.view_is) c.to_array-tiles.result c.loop-next.next (c.loop-next.next - 1) c.loop-next.invariant (omega (arith, c.loop-next-test.true)) _ (sym c.eq.ensures ∙ c.if-eq.true) c.args.asked.now (c.to_array-tiles.ensures.value ∙ c.tiles.ensures.value)

pub loop-next-smaller : goal.loop-next-smaller
loop-next-smaller c =
    earlier c.args.self.now c.self.inside.places.now c.self.inside.lasts c.self.inside.count c.self.inside.most_hands c.self.invariant (sym c.self.view_is) c.to_array-tiles.result c.loop-next.next (c.loop-next.next - 1) c.loop-next.invariant (omega (arith, c.loop-next-test.true)) _

pub loop-next-preserved : goal.loop-next-preserved
loop-next-preserved c =
    finds_next c.args.self.now c.self.inside.places.now c.self.inside.lasts c.self.inside.count c.self.inside.most_hands c.self.invariant (sym c.self.view_is) c.to_array-tiles.result c.loop-next.next (c.loop-next.next - 1) c.loop-next.invariant (omega (arith, c.loop-next-test.true)) _ (sym c.eq.ensures ∙ c.if-eq.false)

pub returns-clause-none : goal.returns-clause-none
returns-clause-none c =
    subst (λ tiles. IsAbsent tiles c.args.self.now.hands) (c.to_array-tiles.ensures.value ∙ c.tiles.ensures.value)
    (finds_none c.args.self.now c.self.inside.places.now c.self.inside.lasts c.self.inside.count c.self.inside.most_hands c.self.invariant (sym c.self.view_is) c.to_array-tiles.result c.loop-next.next (omega (arith, c.loop-next-test.false)) c.loop-next.invariant)
