use Rattle.std.proofs.Common.{◌≡◌, ◌++◌}
use Rattle.std.specs.Prelude.{string_bytes}
use Rattle.riichi_standings_text.specs.Cells.{blanks}
use Rattle.riichi_standings_text.proofs.cells.push_spaces.Given as goal

-- the spaces so far are written
abbrev pub invariant-loop-place : goal.invariant-loop-place
invariant-loop-place l = string_bytes l.text ≡ string_bytes l.initial.text ++ blanks l._place
