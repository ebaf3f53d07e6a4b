use Rattle.std.proofs.Common.{◌≡◌, ◌+◌, ◌*◌, ◌-◌, ◌<◌, ◌≤◌, ◌++◌, length, get_or}
use Rattle.std.specs.List.{flat_map}
use Rattle.riichi_shape.specs.declared.text.TheConstants.{MOST_PAIR}
use Rattle.riichi_shape.specs.Text.{pair_text}
use Rattle.riichi_shape.proofs.TextLemmas.{pairs_below}
use Rattle.riichi_shape.proofs.text.push_pairs.Given as goal

abbrev pub invariant-loop-kind : goal.invariant-loop-kind
invariant-loop-kind l = record {
  bytes : l.text.bytes ≡ l.initial.text.bytes ++ flat_map pair_text (pairs_below l.copies l.kind);
  few : length l.text.bytes ≤ length l.initial.text.bytes + MOST_PAIR * l.kind;
  most : l.kind ≤ 34;
  live : l.kind < 34 → 0 < get_or l.copies l.kind 0;
}

abbrev pub decreases-loop-kind : goal.decreases-loop-kind
decreases-loop-kind l = 34 - l.kind
