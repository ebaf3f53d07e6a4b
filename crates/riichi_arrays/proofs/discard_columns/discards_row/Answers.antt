use Rattle.std.proofs.Common.{◌∙◌, to_z, of_z, sym, arith}
use Rattle.std.proofs.Common as width
use Rattle.riichi_arrays.proofs.DiscardLemmas.{one_more_short}
use Rattle.riichi_arrays.proofs.discard_columns.discards_row.Goals as goal

pub loop-place-preserved : goal.loop-place-preserved
loop-place-preserved c = record {
  told = one_more_short (to_z width.w8 (of_z width.w8 c.args.shanten)) c.args.discards.now c.loop-place.place c.in-Some.discard c.loop-place.told c.put.new.self (omega arith)
      (sym c.short_at.ensures ∙ c.in-Some.is) c.put.ensures.kind c.loop-place.invariant.told c.put.ensures.value;
  within = omega (arith, c.loop-place.invariant.within);
}
