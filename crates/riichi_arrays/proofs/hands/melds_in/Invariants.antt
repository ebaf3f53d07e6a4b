use Rattle.std.proofs.Common.{◌≡◌, ◌≤◌, ◌++◌, length, drop}
use Rattle.riichi_arrays.specs.Hands.{melds_in}
use Rattle.std.specs.Option.{option_map}
use Rattle.riichi_arrays.proofs.hands.melds_in.Given as goal

abbrev pub invariant-loop-byte : goal.invariant-loop-byte
invariant-loop-byte l = record {
  melds : option_map (λ more. l.melds ++ more) (melds_in (drop l.byte-index l.row)) ≡ melds_in l.row;
  few : length l.melds ≤ l.byte-index;
}
