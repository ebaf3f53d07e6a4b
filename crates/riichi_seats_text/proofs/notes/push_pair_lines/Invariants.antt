-- What is written and the pairs that are left are all pairs.
use Rattle.std.proofs.Common.{◌≡◌, ◌++◌, map, drop}
use Rattle.std.specs.List.{flat_map}
use Rattle.riichi_seats_text.specs.Notes as spec
use Rattle.riichi_seats_text.proofs.notes.push_pair_lines.Given as goal

abbrev pub invariant-loop-pair : goal.invariant-loop-pair
invariant-loop-pair l =
    l.text.items ++ flat_map (spec.pair_line (map (λ name. name.bytes) l.names)) (drop l.pair-index l.pairs)
    ≡ l.initial.text.items ++ flat_map (spec.pair_line (map (λ name. name.bytes) l.names)) l.pairs
