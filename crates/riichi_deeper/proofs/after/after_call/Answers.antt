use Rattle.std.proofs.Common.{◌<◌, List, ap, sym, ◌∙◌, length, arith}
use Rattle.riichi_tiles.specs.declared.meld.Meld.{Meld}
use Rattle.riichi_deeper.proofs.AfterLemmas.{call_answer, call_room, call_some}
use Rattle.riichi_deeper.proofs.DrawnLemmas.{made_is, never}
use Rattle.riichi_deeper.proofs.after.after_call.Goals as goal

pub push-requires-clause-room : goal.push-requires-clause-room
push-requires-clause-room c =
    let inside : c.args.tile < 34 = omega arith in
    omega (arith, call_room c.args.asked.now c.tiles-tiles.ensures.shape c.args.tile inside c.args.meld.now c.tiles-tiles.result c.add.new.self c.tiles-tiles.ensures.value c.add.ensures.value c.add.ensures.counts.each_kind c.requires.thirteen c.requires.left c.requires.proper c.requires.has_tile c.in_ok-left.left (sym c.in_ok-left.was ∙ c.laid_down.ensures), ap (λ (ms : List Meld). length ms) c.melds-melds.ensures)

pub unreachable-requires : goal.unreachable-requires
unreachable-requires c =
    let inside : c.args.tile < 34 = omega arith in
    never _ _ _ c.in-Err.is (call_answer c.args.asked.now c.tiles-tiles.ensures.shape c.args.tile inside c.args.meld.now c.tiles-tiles.result c.add.new.self c.tiles-tiles.ensures.value c.add.ensures.value c.add.ensures.counts.each_kind c.requires.thirteen c.requires.left c.requires.proper c.requires.has_tile c.in_ok-left.left (sym c.in_ok-left.was ∙ c.laid_down.ensures) c.melds-melds.result c.push.new.self c.seen-seen.result c.melds-melds.ensures c.push.ensures.value c.seen-seen.ensures c.new.result c.new.ensures)

pub returns-clause-value : goal.returns-clause-value
returns-clause-value c =
    let inside : c.args.tile < 34 = omega arith in
    call_some c.args.asked.now c.tiles-tiles.ensures.shape c.args.tile inside c.args.meld.now c.tiles-tiles.result c.add.new.self c.tiles-tiles.ensures.value c.add.ensures.value c.add.ensures.counts.each_kind c.requires.thirteen c.requires.left c.requires.proper c.requires.has_tile c.in_ok-left.left (sym c.in_ok-left.was ∙ c.laid_down.ensures) c.in-Ok.after (made_is _ _ _ c.in-Ok.is (call_answer c.args.asked.now c.tiles-tiles.ensures.shape c.args.tile inside c.args.meld.now c.tiles-tiles.result c.add.new.self c.tiles-tiles.ensures.value c.add.ensures.value c.add.ensures.counts.each_kind c.requires.thirteen c.requires.left c.requires.proper c.requires.has_tile c.in_ok-left.left (sym c.in_ok-left.was ∙ c.laid_down.ensures) c.melds-melds.result c.push.new.self c.seen-seen.result c.melds-melds.ensures c.push.ensures.value c.seen-seen.ensures c.new.result c.new.ensures))
