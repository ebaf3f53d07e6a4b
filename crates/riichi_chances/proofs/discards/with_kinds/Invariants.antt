use Rattle.std.proofs.Common.{◌≡◌, length, take}
use Rattle.riichi_chances.specs.Graph.{discard_kinds}
use Rattle.riichi_chances.proofs.ChancesLemmas.{told_chances, told_kinds}
use Rattle.riichi_chances.proofs.discards.with_kinds.Given as goal

-- those of the first discards
abbrev pub invariant-loop-at : goal.invariant-loop-at
invariant-loop-at l = record {
  each : length l.each.items ≡ l.at;
  kinds : told_kinds l.each.items ≡ discard_kinds (take l.at l.discards);
  chances : told_chances l.each.items ≡ take l.at l.chances;
}
