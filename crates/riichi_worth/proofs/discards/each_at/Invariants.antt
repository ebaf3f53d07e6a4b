use Rattle.std.proofs.Common.{◌≡◌, length, take}
use Rattle.riichi_chances.specs.Graph.{discard_kinds}
use Rattle.riichi_worth.specs.Worths.{told_at}
use Rattle.riichi_worth.proofs.discards.each_at.Given as goal

-- those of the first discards
abbrev pub invariant-loop-at : goal.invariant-loop-at
invariant-loop-at l = record {
  each : length l.each.items ≡ l.at;
  told : l.each.items ≡ told_at l.rows l.span (take l.at l.places) (discard_kinds (take l.at l.discards));
}
