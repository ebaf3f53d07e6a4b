use Rattle.std.proofs.Common.{◌≡◌, ◌-◌, ◌<◌, ◌∙◌, ap, refl, sym, drop, length, arith}
use Rattle.riichi_study.specs.Prospects.{figure, ordered_by}
use Rattle.riichi_study.proofs.ProspectLemmas.{all_put, is_held_discard, none_put, one_put}
use Rattle.riichi_study.proofs.prospect.prospects.Goals as goal

pub loop-done-init : goal.loop-done-init
loop-done-init g c = record {
  stays = refl;
  many = omega (arith, ap length c.new-prospects.ensures);
  kept = c.new-prospects.ensures ∙ none_put c.args.asked.now c.args.order c.args.discards.now;
}

pub deeper_without-outlook-requires-clause-held : goal.deeper_without-outlook-requires-clause-held
deeper_without-outlook-requires-clause-held g c =
    is_held_discard c.args.asked.now c.args.discards.now c.in-Some.discard (c.len-count.result - 1 - c.loop-done.done) c.requires.discards (sym c.get.ensures ∙ c.in-Some.is)

pub loop-done-preserved : goal.loop-done-preserved
loop-done-preserved g c =
    let parts = c.args.asked.now in
    let order = c.args.order in
    let discards = c.args.discards.now in
    let done = c.loop-done.done in
    let place = c.len-count.result - 1 - done in
    let low : done < length discards = omega (arith, c.loop-done-test.true, c.len-count.ensures.value) in
    let place_is : place ≡ length discards - 1 - done = ap (λ n. n - 1 - done) c.len-count.ensures.value in
    let so_far = c.loop-done.invariant in
    record {
      stays = c.deeper_without-outlook.ensures.stays ∙ so_far.stays;
      many = omega (arith, c.put.ensures.len, so_far.many);
      kept = one_put discards c.in-Some.discard done place low place_is (sym c.get.ensures ∙ c.in-Some.is) parts order c.loop-done.prospects.items c.put.new.prospects.items c.deeper_without-outlook.result c.deeper_without-outlook.ensures.value so_far.kept
          (λ same. c.put.ensures.items parts c.in-Some.discard (ordered_by (figure parts order) (drop (length discards - done) discards)) so_far.kept same);
    }

pub returns-clause-value : goal.returns-clause-value
returns-clause-value g c =
    all_put c.args.asked.now c.args.order c.args.discards.now c.loop-done.done c.loop-done.prospects.items (omega (arith, c.loop-done-test.false, c.len-count.ensures.value)) c.requires.discards c.loop-done.invariant.kept
