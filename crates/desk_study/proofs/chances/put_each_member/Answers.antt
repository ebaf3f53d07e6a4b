use Rattle.std.proofs.Common.{◌≡◌, ◌+◌, ◌∷◌, ◌++◌, [], ◌∙◌, List, map, take, subst, sym, ap, append_assoc, arith}
use Rattle.std.proofs.lemmas.List.{take_more}
use Rattle.std.proofs.lemmas.List.Elements.{All-get_or}
use Rattle.riichi_chances.specs.declared.discards.DiscardChances.{DiscardChances}
use Rattle.riichi_chances.specs.declared.odds.DiscardOdds.{DiscardOdds}
use Rattle.desk_json.proofs.Chosen.{listed_more}
use Rattle.desk_json.proofs.Lists.{begun_one_more, is_begun}
use Rattle.desk_json.specs.Parts.{comma_if, listed}
use Rattle.desk_study.specs.Found.{AreAllParts, one_json}
use Rattle.desk_study.proofs.chances.put_each_member.Goals as goal

pub put_member-requires-clause-parts : goal.put_member-requires-clause-parts
put_member-requires-clause-parts c =
    subst (λ (one : DiscardChances). AreAllParts c.args.turns one.chances) (sym c.one-item.is) (All-get_or (λ (one : DiscardChances). AreAllParts c.args.turns one.chances) c.args.each.now c.loop-one.one-index c.one-item.result c.loop-one-test.true c.requires.parts)

pub loop-one-preserved : goal.loop-one-preserved
loop-one-preserved c =
    let before = c.args.outbox.now.bytes.items in
    let each = c.args.each.now in
    let place = c.loop-one.one-index in
    let one = c.one-item.result in
    let now = c.loop-one.outbox.bytes.items in
    let so_far = c.loop-one.invariant in
    let others = c.each_odds_at-others.result.items in
    let more : take (place + 1) each ≡ take place each ++ one ∷ [] = take_more each place one c.loop-one-test.true ∙ ap (λ (d : DiscardChances). take place each ++ d ∷ []) (sym c.one-item.is) in
    record {
      bytes =
          listed_more (one_json others c.args.turns) before now c.put_member.new.outbox.bytes.items (take place each) one c.loop-one.later so_far.bytes so_far.begun
          (c.put_member.ensures.bytes ∙ ap (λ (os : List DiscardOdds). now ++ (comma_if c.loop-one.later ++ one_json os c.args.turns one)) c.as_slice.ensures.value ∙ sym (append_assoc now (comma_if c.loop-one.later) (one_json others c.args.turns one)))
          ∙ ap (λ (ds : List DiscardChances). before ++ listed (map (one_json others c.args.turns) ds)) (sym more);
      begun = begun_one_more (take place each) one ∙ ap (λ (ds : List DiscardChances). is_begun ds) (sym more);
      few = omega (arith, c.put_member.ensures.room, so_far.few);
    }
