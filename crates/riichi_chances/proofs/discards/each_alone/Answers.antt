use Rattle.std.proofs.Common.{◌+◌, List, length, refl, sym, ap, subst, ◌∙◌, arith}
use Rattle.std.proofs.lemmas.List.{take_all}
use Rattle.riichi_hand.specs.HandParts.{ShapeParts}
use Rattle.riichi_tiles.proofs.Members.{IsIn, in-Contains}
use Rattle.riichi_deeper.specs.Drawn.{parts_without}
use Rattle.riichi_shape.specs.declared.discard.Discard.{Discard}
use Rattle.riichi_chances.specs.Chances.{AreAfter, AreAfterAtMost, AreAtMost, AreChances, IsNoPlayAbove, IsNoPlayAboveAfter, parts_told}
use Rattle.riichi_chances.specs.Draws.{unseen_of}
use Rattle.riichi_chances.specs.declared.discards.DiscardChances.{DiscardChances}
use Rattle.riichi_chances.proofs.ChancesLemmas.{after_more, after_none, told_alone, told_kinds, told_more}
use Rattle.riichi_chances.specs.Graph.{discard_kinds, most_hands_in}
use Rattle.riichi_chances.proofs.CountingLemmas.{best_at, never_past}
use Rattle.riichi_chances.specs.Reachable.{ComesToFew, ComesToMore, by_itself}
use Rattle.riichi_chances.proofs.ReachableLemmas.{each_more, kind_found, on_err}
use Rattle.riichi_chances.proofs.discards.each_alone.Goals as goal

pub loop-at-init : goal.loop-at-init
loop-at-init g c = record {
  places = refl;
  rows = refl;
  each = ap length c.new-each.ensures;
  stays = refl;
  told = ap told_kinds c.new-each.ensures;
  few = λ kind there. absurd there;
  after = subst (λ (each : List DiscardChances). AreAfter c.args.asked.now c.args.turns each) (sym c.new-each.ensures) (after_none (λ kind. AreChances (parts_without c.args.asked.now kind) c.args.turns));
  at_most = subst (λ (each : List DiscardChances). AreAfterAtMost c.args.asked.now c.args.turns each) (sym c.new-each.ensures) (after_none (λ kind. AreAtMost (parts_told c.args.asked.now kind) (unseen_of (parts_without c.args.asked.now kind)) c.args.turns));
  plays = subst (λ (each : List DiscardChances). IsNoPlayAboveAfter c.args.asked.now c.args.turns each) (sym c.new-each.ensures) (after_none (λ kind. IsNoPlayAbove (parts_without c.args.asked.now kind) c.args.turns));
}

pub without_tile-rest-requires-clause-held : goal.without_tile-rest-requires-clause-held
without_tile-rest-requires-clause-held g c = (best_at c.args.asked.now c.args.discards.now c.loop-at.at c.in-Some.discard c.requires.discards (sym c.in-Some.is ∙ c.short_at.ensures)).held

pub unreachable-requires : goal.unreachable-requires
unreachable-requires g c = never_past c.args.discards.now c.loop-at.at (omega (arith, c.loop-at-test.true, c.len-at-end.ensures.value)) (sym c.in-None.is ∙ c.short_at.ensures)

pub loop-at-preserved : goal.loop-at-preserved
loop-at-preserved g c =
    let so_far = c.loop-at.invariant in
    let asked = c.args.asked.now in
    let turns = c.args.turns in
    let rest_is = c.without_tile-rest.ensures.value in
    let most = ap (λ n. most_hands_in n (length c.loop-at.rows)) so_far.places ∙ ap (most_hands_in (length c.args.places.now)) so_far.rows in
    let one : DiscardChances = record { kind = c.in-Some.discard.kind; chances = c.in_ok-chances-in-Some.chances } in
    record {
      places = c.chances_of.auto.places ∙ so_far.places;
      rows = c.chances_of.auto.rows ∙ so_far.rows;
      each = c.push.ensures.len ∙ ap (λ n. n + 1) so_far.each;
      stays = c.chances_of.ensures.stays ∙ so_far.stays;
      told = told_more c.loop-at.each.items c.push.new.self.items one c.args.discards.now c.loop-at.at c.in-Some.discard (sym c.in-Some.is ∙ c.short_at.ensures) refl c.push.ensures.items so_far.told;
      few = each_more c.args.discards.now c.loop-at.at c.in-Some.discard (sym c.in-Some.is ∙ c.short_at.ensures) (λ kind. ComesToFew (most_hands_in (length c.args.places.now) (length c.args.rows.now)) (by_itself (parts_without c.args.asked.now kind))) so_far.few
          (subst (λ n. ComesToFew n (by_itself (parts_without c.args.asked.now c.in-Some.discard.kind))) most (subst (λ (parts : ShapeParts). ComesToFew (most_hands_in (length c.loop-at.places) (length c.loop-at.rows)) (by_itself parts)) c.without_tile-rest.ensures.value c.in_ok-chances-in-Some.ensures.few));
      after = after_more (λ kind. AreChances (parts_without asked kind) turns) c.loop-at.each.items c.push.new.self.items one so_far.after (subst (λ (parts : ShapeParts). AreChances parts turns one.chances) rest_is c.in_ok-chances-in-Some.ensures.chances) c.push.ensures.items;
      at_most = after_more (λ kind. AreAtMost (parts_told asked kind) (unseen_of (parts_without asked kind)) turns) c.loop-at.each.items c.push.new.self.items one so_far.at_most (told_alone asked c.without_tile-rest.result one.kind turns one.chances c.requires.won rest_is c.in_ok-chances-in-Some.ensures.at_most) c.push.ensures.items;
      plays = after_more (λ kind. IsNoPlayAbove (parts_without asked kind) turns) c.loop-at.each.items c.push.new.self.items one so_far.plays (subst (λ (parts : ShapeParts). IsNoPlayAbove parts turns one.chances) rest_is c.in_ok-chances-in-Some.ensures.plays) c.push.ensures.items;
    }

pub returns-clause-each : goal.returns-clause-each
returns-clause-each g c =
    c.loop-at.invariant.told ∙ ap (λ (discards : List Discard). discard_kinds discards) (take_all c.loop-at.at c.args.discards.now (omega (arith, c.loop-at-test.false, c.len-at-end.ensures.value)))

pub returns-clause-chances : goal.returns-clause-chances
returns-clause-chances g c = c.loop-at.invariant.after

pub returns-clause-few : goal.returns-clause-few
returns-clause-few g c = λ kind there.
    c.loop-at.invariant.few kind (subst (λ (discards : List Discard). IsIn kind (discard_kinds discards)) (sym (take_all c.loop-at.at c.args.discards.now (omega (arith, c.loop-at-test.false, c.len-at-end.ensures.value)))) (in-Contains kind (discard_kinds c.args.discards.now) there))

pub returns-in_err-chances-in-Some-clause-many : goal.returns-in_err-chances-in-Some-clause-many
returns-in_err-chances-in-Some-clause-many g c =
    let so_far = c.loop-at.invariant in
    let most = ap (λ n. most_hands_in n (length c.loop-at.rows)) so_far.places ∙ ap (most_hands_in (length c.args.places.now)) so_far.rows in
    on_err c.from_residual.result (
      c.in-Some.discard.kind,
      kind_found c.args.discards.now c.loop-at.at c.in-Some.discard (sym c.in-Some.is ∙ c.short_at.ensures),
      subst (λ n. ComesToMore n (by_itself (parts_without c.args.asked.now c.in-Some.discard.kind))) most
          (subst (λ (parts : ShapeParts). ComesToMore (most_hands_in (length c.loop-at.places) (length c.loop-at.rows)) (by_itself parts)) c.without_tile-rest.ensures.value c.in_err-chances-in-Some.ensures.many),
    )
