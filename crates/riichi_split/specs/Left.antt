-- What `Splits` and `Readings` are seen as: those that are left.
use Rattle.std.specs.Prelude.{List, ◌++◌, drop, map}
use Rattle.std.specs.List.{flat_map}
use Rattle.riichi_split.specs.declared.reading.Reading.{Reading}
use Rattle.riichi_split.specs.declared.reading.Reading.TheVariants.{SevenPairs, Orphans}
use Rattle.riichi_split.specs.declared.readings.Readings.TheInside.{Inside}
use Rattle.riichi_split.specs.Dones.{flagged, dones, split_blocks, read_with, readings_with}

abbrev pub readings_left : Inside → List Reading
readings_left r =
    flagged r.seven_pairs SevenPairs ++ (flagged r.orphans Orphans
    ++ (map (read_with r.split) (dones r.winning (drop r.place (split_blocks r.split)))
    ++ flat_map (readings_with r.winning) r.splits))
