use Rattle.std.proofs.Common.{◌≡◌, length}
use Rattle.riichi_game_text.specs.Words.{said_in}
use Rattle.riichi_game_text.specs.HandLines.{entry_value}
use Rattle.riichi_game_text.proofs.hand_line.entry_value.Given as goal

abbrev pub invariant-loop-word : goal.invariant-loop-word
invariant-loop-word l = entry_value l.key (said_in l.rest) ≡ entry_value l.key (said_in l.fn.text)

abbrev pub decreases-loop-word : goal.decreases-loop-word
decreases-loop-word l = length l.rest
