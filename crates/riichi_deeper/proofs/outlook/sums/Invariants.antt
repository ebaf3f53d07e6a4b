use Rattle.std.proofs.Common.{◌≡◌, ◌+◌, ◌*◌, ◌≤◌}
use Rattle.riichi_deeper.specs.Deeper.{good_by, good_of, second_by, second_of}
use Rattle.riichi_deeper.proofs.DeeperLemmas.{rest_of}
use Rattle.riichi_deeper.proofs.outlook.sums.Given as goal

-- the sums so far, and those of the kinds that are left
abbrev pub invariant-loop-number : goal.invariant-loop-number
invariant-loop-number g l = record {
  stays : l.source ≡ l.fn.source;
  second : l.second + rest_of (second_by l.asked) l.copies l.number ≡ second_of l.asked;
  good : l.good + rest_of (good_by l.asked) l.copies l.number ≡ good_of l.asked;
  second_few : l.second ≤ 1020 * l.number;
  good_few : l.good ≤ 4 * l.number;
}
