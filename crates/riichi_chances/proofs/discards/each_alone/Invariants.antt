use Rattle.std.proofs.Common.{◌≡◌, ℕ, length, take}
use Rattle.riichi_tiles.proofs.Members.{IsIn}
use Rattle.riichi_deeper.specs.Drawn.{parts_without}
use Rattle.riichi_chances.specs.Chances.{AreAfter, AreAfterAtMost, IsNoPlayAboveAfter}
use Rattle.riichi_chances.proofs.ChancesLemmas.{told_kinds}
use Rattle.riichi_chances.specs.Graph.{discard_kinds, most_hands_in}
use Rattle.riichi_chances.specs.Reachable.{ComesToFew, by_itself}
use Rattle.riichi_chances.proofs.discards.each_alone.Given as goal

-- the chances after the first discards
abbrev pub invariant-loop-at : goal.invariant-loop-at
invariant-loop-at g l = record {
  places : length l.places ≡ length l.fn.places;
  rows : length l.rows ≡ length l.fn.rows;
  each : length l.each.items ≡ l.at;
  stays : l.source ≡ l.fn.source;
  told : told_kinds l.each.items ≡ discard_kinds (take l.at l.discards);
  few : (kind : ℕ) → IsIn kind (discard_kinds (take l.at l.discards)) → ComesToFew (most_hands_in (length l.fn.places) (length l.fn.rows)) (by_itself (parts_without l.asked kind));
  after : AreAfter l.asked l.turns l.each.items;
  at_most : AreAfterAtMost l.asked l.turns l.each.items;
  plays : IsNoPlayAboveAfter l.asked l.turns l.each.items;
}
