use Rattle.std.proofs.Common.{◌≡◌, ◌≤◌, ◌+◌, ◌*◌, ℕ, take, get_or}
use Rattle.riichi_tiles.specs.Melds.{tiles}
use Rattle.riichi_tiles.proofs.melded.add_melds.Given as goal

-- the tiles of the melds so far
abbrev pub invariant-loop-place : goal.invariant-loop-place
invariant-loop-place l =
    ((kind : ℕ) → get_or l.held kind 0 ≡ get_or l.fn.held kind 0 + tiles (take l.place l.melds) kind) × ((kind : ℕ) → get_or l.held kind 0 ≤ get_or l.fn.held kind 0 + 4 * l.place)
