use Rattle.std.proofs.Common.{◌≡◌, take}
use Rattle.std.specs.Prelude.{nat_eq, slice_index}
use Rattle.std.specs.List.{list_all}
use Rattle.riichi_tiles.specs.Melds.{every_kind, tiles_of}
use Rattle.riichi_tiles.proofs.meld.has_just.Given as goal

-- the same so far
abbrev pub invariant-loop-number : goal.invariant-loop-number
invariant-loop-number l = l.same ≡ list_all (λ kind. nat_eq (slice_index l.counts kind) (tiles_of l.meld kind)) (take l.number every_kind)
