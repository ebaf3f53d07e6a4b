use Rattle.std.proofs.Common.{◌≡◌, ℕ, ◌-◌, ◌<◌, ◌≤◌, length, get_or}
use Rattle.riichi_tiles.specs.Melds.{tiles_of}
use Rattle.riichi_deeper.proofs.after.laid_down.Given as goal

-- the tiles of the kinds before are laid down
abbrev pub invariant-loop-number : goal.invariant-loop-number
invariant-loop-number l = record {
  long : length l.left ≡ 34;
  each : (k : ℕ) → k < l.number → (get_or l.left k 0 ≡ get_or l.held k 0 - tiles_of l.meld k) × (tiles_of l.meld k ≤ get_or l.held k 0);
  later : (k : ℕ) → l.number ≤ k → get_or l.left k 0 ≡ get_or l.held k 0;
}
