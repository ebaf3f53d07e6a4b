-- The lines of the players so far.
use Rattle.std.proofs.Common.{◌≡◌, ◌++◌, map}
use Rattle.std.specs.List.{flat_map, range_with_len}
use Rattle.riichi_seats_text.specs.Notes as spec
use Rattle.riichi_seats_text.proofs.notes.push_seats.Given as goal

abbrev pub invariant-loop-player : goal.invariant-loop-player
invariant-loop-player l =
    l.text.items ≡ l.initial.text.items
    ++ flat_map (spec.seats_line (map (λ name. name.bytes) l.names) l.games) (range_with_len 0 l.player)
