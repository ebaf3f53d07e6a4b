use Rattle.std.proofs.Common.{◌≡◌, ◌<◌, ◌+◌, ◌∷◌, ◌++◌, [], ◌∙◌, List, length, map, take, sym, ap, arith}
use Rattle.std.proofs.lemmas.List.{take_more}
use Rattle.std.proofs.lemmas.Option.{get_or_from_slice_get}
use Rattle.riichi_shape.specs.declared.discard.Discard.{Discard}
use Rattle.desk_json.proofs.Chosen.{listed_more}
use Rattle.desk_json.proofs.Lists.{begun_one_more, is_begun}
use Rattle.desk_json.specs.Parts.{listed}
use Rattle.desk_study.specs.Objects.{choice_json}
use Rattle.desk_study.proofs.objects.push_choices.Goals as goal

pub loop-place-preserved : goal.loop-place-preserved
loop-place-preserved c =
    let before = c.args.text.now.bytes in
    let discards = c.args.discards.now in
    let place = c.loop-place.place in
    let discard = c.in-Some.discard in
    let so_far = c.loop-place.invariant in
    let low : place < length discards = omega (arith, c.loop-place-test.true, c.len-place-end.ensures.value) in
    let more : take (place + 1) discards ≡ take place discards ++ discard ∷ [] =
    take_more discards place discard low ∙ ap (λ (d : Discard). take place discards ++ d ∷ []) (get_or_from_slice_get discards place discard discard (sym c.get.ensures ∙ c.in-Some.is)) in
    record {
      bytes =
          listed_more choice_json before c.loop-place.text.bytes c.push_choice.new.text.bytes (take place discards) discard c.loop-place.later so_far.bytes so_far.begun c.push_choice.ensures.bytes
          ∙ ap (λ (ds : List Discard). before ++ listed (map choice_json ds)) (sym more);
      begun = begun_one_more (take place discards) discard ∙ ap (λ (ds : List Discard). is_begun ds) (sym more);
      few = omega (arith, c.push_choice.ensures.len, so_far.few);
    }
