use Rattle.std.proofs.Common.{◌≡◌, take}
use Rattle.riichi_win_arrays.specs.WinRows.{counts_of_bytes}
use Rattle.riichi_win_arrays.proofs.indicators.shown.Given as goal

abbrev pub invariant-loop-byte : goal.invariant-loop-byte
invariant-loop-byte l = l.shown ≡ counts_of_bytes (take l.byte-index l.bytes)
