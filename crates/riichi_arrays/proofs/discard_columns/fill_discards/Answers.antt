use Rattle.std.proofs.Common.{arith}
use Rattle.riichi_arrays.proofs.ColumnLemmas.{fill_next}
use Rattle.riichi_arrays.proofs.discard_columns.fill_discards.Goals as goal

pub loop-row-preserved : goal.loop-row-preserved
loop-row-preserved g c = record { shantens = grind (arith, fill_next); kinds = grind (arith, fill_next); accepts = grind (arith, fill_next); live = grind (arith, fill_next) }
