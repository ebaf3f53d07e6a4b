-- What `next` leaves.
use Rattle.std.proofs.Common.{◌≡◌, false, [], ◌++◌, drop, map, ap, ◌∙◌}
use Rattle.std.specs.List.{flat_map}
use Rattle.riichi_split.specs.declared.readings.Readings.TheInside.{Inside}
use Rattle.riichi_split.specs.declared.reading.Reading.TheVariants.{SevenPairs, Orphans}
use Rattle.riichi_split.specs.Dones.{dones, split_blocks, read_with, readings_with, flagged}
use Rattle.riichi_split.specs.Left.{readings_left}

-- the special shapes were given, and the readings that are left are as before
pub record IsUnderWay (before now : Inside) : Type 0 where
  pub no_seven_pairs : now.seven_pairs ≡ false
  pub no_orphans : now.orphans ≡ false
  pub left : readings_left now ≡ readings_left before

-- nothing is left where both lists have ended
pub none_left : (r : Inside) → r.seven_pairs ≡ false → r.orphans ≡ false → dones r.winning (drop r.place (split_blocks r.split)) ≡ [] → r.splits ≡ [] → readings_left r ≡ []
none_left r s o d f =
    ap (λ b. flagged b SevenPairs ++ (flagged r.orphans Orphans ++ (map (read_with r.split) (dones r.winning (drop r.place (split_blocks r.split))) ++ flat_map (readings_with r.winning) r.splits))) s
    ∙ ap (λ b. flagged b Orphans ++ (map (read_with r.split) (dones r.winning (drop r.place (split_blocks r.split))) ++ flat_map (readings_with r.winning) r.splits)) o
    ∙ ap (λ ds. map (read_with r.split) ds ++ flat_map (readings_with r.winning) r.splits) d
    ∙ ap (flat_map (readings_with r.winning)) f
