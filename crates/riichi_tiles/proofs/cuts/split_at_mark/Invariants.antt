use Rattle.std.proofs.Common.{◌≡◌, take, true}
use Rattle.std.specs.List.{list_all}
use Rattle.riichi_tiles.proofs.CutLemmas.{plain}
use Rattle.riichi_tiles.proofs.cuts.split_at_mark.Given as goal

-- no mark so far
abbrev pub invariant-loop-place : goal.invariant-loop-place
invariant-loop-place l = list_all (plain l.mark) (take l.place l.text) ≡ true
