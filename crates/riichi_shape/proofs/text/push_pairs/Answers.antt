use Rattle.std.proofs.Common.{◌≡◌, ◌+◌, ◌++◌, get_or, sym, ap, ◌∙◌, arith}
use Rattle.std.proofs.lemmas.List.{append-nil}
use Rattle.std.specs.List.{flat_map}
use Rattle.riichi_shape.specs.Text.{pair_text}
use Rattle.riichi_shape.proofs.TextLemmas.{live_at, next_live, pairs_all, pairs_below, pairs_none, text_with}
use Rattle.riichi_shape.proofs.text.push_pairs.Goals as goal

pub loop-kind-init : goal.loop-kind-init
loop-kind-init c =
    let copies = c.args.copies.now in
    let first = c.first_from-kind in
    let before = c.args.text.now.bytes in
    record {
      bytes = sym (ap (λ ps. before ++ flat_map pair_text ps) (next_live copies c.of-live.result c.of-live.ensures 0 first.result (omega arith) first.ensures.none ∙ pairs_none copies) ∙ append-nil before);
      few = omega arith;
      most = first.ensures.end;
      live = λ inside. live_at copies c.of-live.result c.of-live.ensures first.result (first.ensures.held inside);
    }

pub loop-kind-preserved : goal.loop-kind-preserved
loop-kind-preserved c =
    let copies = c.args.copies.now in
    let before = c.args.text.now.bytes in
    let kind = c.loop-kind.kind in
    let next = c.first_from-kind-in-loop-kind in
    let so_far = c.loop-kind.invariant in
    record {
      bytes = c.push_pair.ensures.bytes ∙ ap (λ t. t ++ pair_text (kind, get_or copies kind 0)) so_far.bytes ∙ text_with before copies kind (so_far.live c.loop-kind-test.true)
          ∙ sym (ap (λ ps. before ++ flat_map pair_text ps) (next_live copies c.of-live.result c.of-live.ensures (kind + 1) next.result next.ensures.from next.ensures.none));
      few = omega (arith, c.push_pair.ensures.len, so_far.few, next.ensures.from);
      most = next.ensures.end;
      live = λ inside. live_at copies c.of-live.result c.of-live.ensures next.result (next.ensures.held inside);
    }

pub returns-clause-bytes : goal.returns-clause-bytes
returns-clause-bytes c =
    let before = c.args.text.now.bytes in
    let all : c.loop-kind.kind ≡ 34 = omega (arith, c.loop-kind.invariant.most, c.loop-kind-test.false) in
    c.loop-kind.invariant.bytes ∙ ap (λ n. before ++ flat_map pair_text (pairs_below c.args.copies.now n)) all ∙ ap (λ ps. before ++ flat_map pair_text ps) (pairs_all c.args.copies.now)
