use Rattle.std.proofs.Common.{◌≡◌, ◌-◌, drop, length, map}
use Rattle.riichi_study.specs.Prospects.{figure, kept_prospect, ordered_by}
use Rattle.riichi_study.proofs.prospect.prospects.Given as goal

-- those from the last on stand in their order
abbrev pub invariant-loop-done : goal.invariant-loop-done
invariant-loop-done g l = record {
  stays : l.source ≡ l.fn.source;
  many : length l.prospects.items ≡ l.done;
  kept : l.prospects.items ≡ map (kept_prospect l.asked) (ordered_by (figure l.asked l.order) (drop (length l.discards - l.done) l.discards));
}
