-- The names so far can be names, each once, and are not too many.
use Rattle.std.proofs.Common.{◌≤◌, map, vec_len}
use Rattle.riichi_seats_text.specs.Names as spec
use Rattle.riichi_seats_text.proofs.names.read_names.Given as goal

abbrev pub invariant-loop-line : goal.invariant-loop-line
invariant-loop-line l = record { few : vec_len l.names ≤ 400; seated : spec.AreOnce (map (λ name. name.bytes) l.names.items) }
