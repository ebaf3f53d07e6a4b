use Rattle.std.proofs.Common.{◌≡◌, ◌+◌, ◌<◌, ℕ, get_or, length}
use Rattle.riichi_study.proofs.worth_record.both.Given as goal

-- those so far are put
abbrev pub invariant-loop-kind : goal.invariant-loop-kind
invariant-loop-kind l = record {
  length : length l.both ≡ 34;
  put : (k : ℕ) → k < l.kind → get_or l.both k 0 ≡ get_or l.first k 0 + get_or l.second k 0;
}
