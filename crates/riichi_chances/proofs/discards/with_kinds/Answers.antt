use Rattle.std.proofs.Common.{◌+◌, refl, sym, ap, ◌∙◌, arith}
use Rattle.riichi_chances.proofs.ChancesLemmas.{chances_more, told_more}
use Rattle.riichi_chances.proofs.discards.with_kinds.Goals as goal

pub loop-at-preserved : goal.loop-at-preserved
loop-at-preserved c =
    let so_far = c.loop-at.invariant in
    let found = sym c.in-Some.is ∙ c.short_at.ensures in
    record {
      each = c.push.ensures.len ∙ ap (λ n. n + 1) so_far.each;
      kinds = told_more c.loop-at.each.items c.push.new.self.items _ c.args.discards.now c.loop-at.at c.in-Some.discard found refl c.push.ensures.items so_far.kinds;
      chances = chances_more c.loop-at.each.items c.push.new.self.items c.args.chances.now c.loop-at.at c.in-Some.discard.kind _ (omega (arith, c.requires, c.loop-at-test.true, c.len-at-end.ensures.value)) c.push.ensures.items so_far.chances;
    }
