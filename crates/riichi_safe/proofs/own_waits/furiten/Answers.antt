use Rattle.std.proofs.Common.{◌∙◌, ap, subst}
use Rattle.riichi_hand.specs.Hand.{IsShape}
use Rattle.riichi_safe.specs.Safe.{own_among}
use Rattle.riichi_safe.proofs.FuritenLemmas.{furiten_none, furiten_ready}
use Rattle.riichi_safe.proofs.own_waits.furiten.Goals as goal

pub returns-in-Ok : goal.returns-in-Ok
returns-in-Ok c =
    let is : IsShape c.args.asked.now.hand = subst IsShape c.hand-hand.ensures c.tiles.ensures.shape in
    c.own_among.ensures ∙ ap (own_among c.args.asked.now) c.waits.ensures.value ∙ furiten_ready c.args.asked.now is c.in-Ok.ready (cc)

pub returns-in-Err : goal.returns-in-Err
returns-in-Err c =
    let is : IsShape c.args.asked.now.hand = subst IsShape c.hand-hand.ensures c.tiles.ensures.shape in
    furiten_none c.args.asked.now is c.in-Err.field-0 (cc)
