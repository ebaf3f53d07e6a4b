use Rattle.std.proofs.Common.{◌≡◌, ◌+◌, ◌∷◌, ◌++◌, [], ◌∙◌, List, map, take, subst, sym, ap, append_assoc, arith}
use Rattle.std.proofs.lemmas.List.{take_more}
use Rattle.std.proofs.lemmas.List.Elements.{All-get_or}
use Rattle.riichi_study.specs.WorthTexts.{IsRest}
use Rattle.riichi_worth.specs.declared.discards.DiscardWorth.{DiscardWorth}
use Rattle.desk_json.proofs.Chosen.{listed_more}
use Rattle.desk_json.proofs.Lists.{begun_one_more, is_begun}
use Rattle.desk_json.specs.Parts.{comma_if, listed}
use Rattle.desk_study.specs.WorthObjects.{worth_after_json}
use Rattle.desk_study.proofs.worths.put_each_member.Goals as goal

pub put_member-requires-clause-rest : goal.put_member-requires-clause-rest
put_member-requires-clause-rest c =
    subst (λ (one : DiscardWorth). IsRest one.worth.rest) (sym c.one-item.is) (All-get_or (λ (one : DiscardWorth). IsRest one.worth.rest) c.args.each.now c.loop-one.one-index c.one-item.result c.loop-one-test.true c.requires.rests)

pub loop-one-preserved : goal.loop-one-preserved
loop-one-preserved c =
    let before = c.args.outbox.now.bytes.items in
    let each = c.args.each.now in
    let place = c.loop-one.one-index in
    let one = c.one-item.result in
    let now = c.loop-one.outbox.bytes.items in
    let so_far = c.loop-one.invariant in
    let more : take (place + 1) each ≡ take place each ++ one ∷ [] = take_more each place one c.loop-one-test.true ∙ ap (λ (d : DiscardWorth). take place each ++ d ∷ []) (sym c.one-item.is) in
    record {
      bytes =
          listed_more (worth_after_json) before now c.put_member.new.outbox.bytes.items (take place each) one c.loop-one.later so_far.bytes so_far.begun
          (c.put_member.ensures.bytes ∙ sym (append_assoc now (comma_if c.loop-one.later) (worth_after_json one)))
          ∙ ap (λ (ds : List DiscardWorth). before ++ listed (map (worth_after_json) ds)) (sym more);
      begun = begun_one_more (take place each) one ∙ ap (λ (ds : List DiscardWorth). is_begun ds) (sym more);
      few = omega (arith, c.put_member.ensures.room, so_far.few);
    }
