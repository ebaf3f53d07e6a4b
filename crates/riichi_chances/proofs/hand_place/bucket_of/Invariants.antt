use Rattle.std.proofs.Common.{◌≡◌, ◌<◌, drop}
use Rattle.riichi_chances.specs.Places.{bucket_from, bucket_of}
use Rattle.riichi_chances.proofs.hand_place.bucket_of.Given as goal

-- the counts that are left lead on to the hand's number
abbrev pub invariant-loop-count : goal.invariant-loop-count
invariant-loop-count l = record {
  small : l.number < 4096;
  rest : bucket_from l.number (drop l.count-index l.tiles) ≡ bucket_of l.tiles;
}
