use Rattle.std.proofs.Common.{arith}
use Rattle.riichi_split.proofs.AllReadings.{the_readings}
use Rattle.riichi_split.proofs.Eight.{eight}
use Rattle.riichi_split.proofs.readings.Readings.new.Goals as goal

pub returns-clause-each : goal.returns-clause-each
returns-clause-each c =
    let splits = rw (← c.as_array-tiles.ensures.value) at c.new-2.ensures in
    rw (← c.count-melds.ensures.value, ← c.as_array-tiles.ensures.value, c.new.ensures) (the_readings c.as_array-tiles.result.now c.count-melds.result c.args.winning c.new-2.result c.are_seven_pairs.result c.are_thirteen_orphans.result splits c.are_seven_pairs.ensures c.are_thirteen_orphans.ensures)

pub returns-clause-few : goal.returns-clause-few
returns-clause-few c = eight _ _ _ c.as_array-tiles.ensures.counts (omega (arith, c.count-melds.ensures.melds)) _ (returns-clause-each c)
