use Rattle.std.proofs.Common.{refl, arith}
use Rattle.riichi_shape.proofs.DiscardLemmas.{place_within, put_first, seen_are}
use Rattle.riichi_shape.proofs.discard_order.DiscardOrder.insert.Goals as goal

pub put_at-requires : goal.put_at-requires
put_at-requires c =
    let within = place_within c.self.inside.count c.self.inside.places c.args.self.now c.args.discard.live c.unwrap_or-place.result c.first_place.result c.self.invariant c.self.view_is c.first_place.ensures c.unwrap_or-place.ensures in
    omega (arith, within, (seen_are c.self.inside.count c.self.inside.places c.args.self.now c.self.invariant c.self.view_is).0, c.requires, c.self.invariant.long)

pub invariant_of-self : goal.invariant_of-self
invariant_of-self c =
    (put_first c.self.inside.count c.self.inside.places c.args.self.now c.args.discard.live c.unwrap_or-place.result c.first_place.result c.self.invariant c.self.view_is c.first_place.ensures c.unwrap_or-place.ensures
    c.args.discard c.put_at.new.places refl c.requires c.put_at.ensures).0

pub returns : goal.returns
returns c =
    (put_first c.self.inside.count c.self.inside.places c.args.self.now c.args.discard.live c.unwrap_or-place.result c.first_place.result c.self.invariant c.self.view_is c.first_place.ensures c.unwrap_or-place.ensures
    c.args.discard c.put_at.new.places refl c.requires c.put_at.ensures).1
