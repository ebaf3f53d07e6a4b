use Rattle.std.proofs.Common.{◌≡◌, length}
use Rattle.riichi_game_text.specs.Words.{said_in}
use Rattle.riichi_game_text.specs.HandLines.{words_with_equals, has_known}
use Rattle.riichi_game_text.proofs.hand_line.has_known.Given as goal

abbrev pub invariant-loop-word : goal.invariant-loop-word
invariant-loop-word l = has_known (words_with_equals (said_in l.rest)) ≡ has_known (words_with_equals (said_in l.fn.text))

abbrev pub decreases-loop-word : goal.decreases-loop-word
decreases-loop-word l = length l.rest
