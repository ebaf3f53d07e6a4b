use Rattle.std.proofs.Common.{◌<◌, ◌+◌, ◌∙◌, ℕ, List, get_or, map, ap, arith, length-set, length}
use Rattle.std.proofs.lemmas.List.Edits.{fill_by_more}
use Rattle.std.proofs.lemmas.List.FromFn.{fill_by_all}
use Rattle.std.specs.List.{range_with_len}
use Rattle.riichi_study.proofs.worth_record.both.Goals as goal

pub loop-kind-preserved : goal.loop-kind-preserved
loop-kind-preserved c =
    let first = c.to_array-first.result in
    let second = c.to_array-second.result in
    let so_far = c.loop-kind.invariant in
    let place = c.loop-kind.kind in
    let inside : place < length c.loop-kind.both = omega (arith, so_far.length, c.loop-kind-test.true) in record {
      length = length-set c.loop-kind.both place (get_or first place 0 + get_or second place 0) ∙ so_far.length;
      put = fill_by_more (λ k. get_or first k 0 + get_or second k 0) c.loop-kind.both place 0 inside so_far.put;
    }

pub returns : goal.returns
returns c =
    let first = c.to_array-first.result in
    let second = c.to_array-second.result in
    fill_by_all (λ k. get_or first k 0 + get_or second k 0) c.loop-kind.both 34 0 c.loop-kind.invariant.length (λ k low. c.loop-kind.invariant.put k (omega (arith, low)))
    ∙ ap (λ (counts : List ℕ). map (λ k. get_or counts k 0 + get_or second k 0) (range_with_len 0 34)) c.to_array-first.ensures.value
    ∙ ap (λ (counts : List ℕ). map (λ k. get_or c.args.one.now k 0 + get_or counts k 0) (range_with_len 0 34)) c.to_array-second.ensures.value
