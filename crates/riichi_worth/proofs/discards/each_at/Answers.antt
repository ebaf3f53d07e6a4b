use Rattle.std.proofs.Common.{◌≡◌, ◌+◌, ◌<◌, ◌++◌, [], ◌∷◌, List, ℕ, length, take, refl, sym, ap, ◌∙◌, arith}
use Rattle.std.proofs.lemmas.List.{get_or_default, take_all}
use Rattle.std.specs.Prelude.{slice_index}
use Rattle.riichi_shape.specs.declared.discard.Discard.{Discard}
use Rattle.riichi_chances.specs.Graph.{discard_kinds}
use Rattle.riichi_chances.proofs.CountingLemmas.{kinds_more}
use Rattle.riichi_worth.specs.Worths.{told_at}
use Rattle.riichi_worth.specs.declared.discards.DiscardWorth.{DiscardWorth}
use Rattle.riichi_worth.specs.declared.worth.Worth.{Worth}
use Rattle.riichi_worth.proofs.DiscardLemmas.{told_next}
use Rattle.riichi_worth.proofs.discards.each_at.Goals as goal

pub loop-at-preserved : goal.loop-at-preserved
loop-at-preserved c =
    let so_far = c.loop-at.invariant in
    let at = c.loop-at.at in
    let places = c.args.places.now in
    let discards = c.args.discards.now in
    let low : c.loop-at.at < length c.args.places.now = omega (arith, c.loop-at-test.true, c.len-at-end.ensures.value, c.requires.each) in
    let next = told_next c.args.rows.now c.args.span places discards at (slice_index places at) c.in-Some.discard.kind low c.requires.each refl (kinds_more discards at c.in-Some.discard (sym c.in-Some.is ∙ c.short_at.ensures)) in
    record {
      each = c.push.ensures.len ∙ ap (λ n. n + 1) so_far.each;
      told = c.push.ensures.items ∙ ap (λ (each : List DiscardWorth). each ++ (record { kind = c.in-Some.discard.kind; worth = c.worth_at-worth.result }) ∷ []) so_far.told
          ∙ ap (λ (worth : Worth). told_at c.args.rows.now c.args.span (take at places) (discard_kinds (take at discards)) ++ (record { kind = c.in-Some.discard.kind; worth = worth }) ∷ []) c.worth_at-worth.ensures ∙ sym next;
    }

pub returns : goal.returns
returns c =
    c.loop-at.invariant.told
    ∙ ap (λ (places : List ℕ). told_at c.args.rows.now c.args.span places (discard_kinds (take c.loop-at.at c.args.discards.now))) (take_all c.loop-at.at c.args.places.now (omega (arith, c.loop-at-test.false, c.len-at-end.ensures.value, c.requires.each)))
    ∙ ap (λ (discards : List Discard). told_at c.args.rows.now c.args.span c.args.places.now (discard_kinds discards)) (take_all c.loop-at.at c.args.discards.now (omega (arith, c.loop-at-test.false, c.len-at-end.ensures.value)))
