use Rattle.std.proofs.Common.{◌≡◌, length}
use Rattle.riichi_game_text.specs.Words.{said_in}
use Rattle.riichi_game_text.specs.HandLines.{behind_entries}
use Rattle.riichi_game_text.proofs.win.behind_entries.Given as goal

abbrev pub invariant-loop-after : goal.invariant-loop-after
invariant-loop-after l = behind_entries (said_in l.rest) ≡ behind_entries (said_in l.fn.text)

abbrev pub decreases-loop-after : goal.decreases-loop-after
decreases-loop-after l = length l.rest
