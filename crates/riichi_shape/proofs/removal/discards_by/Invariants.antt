use Rattle.std.proofs.Common.{◌≡◌, ◌-◌, ◌≤◌, length, map}
use Rattle.std.specs.Prelude.{slice_index}
use Rattle.riichi_rows.proofs.Spread.{spread}
use Rattle.riichi_shape.specs.KeptDiscards.{AreKept, told}
use Rattle.riichi_shape.proofs.RemovalLemmas.{discards_from}
use Rattle.riichi_shape.proofs.removal.discards_by.Given as goal

abbrev pub invariant-loop-number : goal.invariant-loop-number
invariant-loop-number g l = record {
  stays : l.source ≡ l.fn.source;
  so_far : map (told l.live.copies) l.order ≡ discards_from l.hand l.melds l.seen l.number (34 - l.number);
  kept : AreKept l.live.copies l.order;
  few : length l.order ≤ spread (slice_index l.hand) l.number (34 - l.number);
}
