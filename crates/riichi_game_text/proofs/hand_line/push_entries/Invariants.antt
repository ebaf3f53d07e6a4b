use Rattle.std.proofs.Common.{◌≡◌, ◌++◌, length}
use Rattle.std.specs.List.{flat_map}
use Rattle.riichi_game_text.specs.Words.{said_in}
use Rattle.riichi_game_text.specs.HandLines.{words_with_equals, spaced}
use Rattle.riichi_game_text.proofs.hand_line.push_entries.Given as goal

abbrev pub invariant-loop-word : goal.invariant-loop-word
invariant-loop-word l = l.line.items ++ flat_map spaced (words_with_equals (said_in l.rest)) ≡ l.fn.line.items ++ flat_map spaced (words_with_equals (said_in l.fn.text))

abbrev pub decreases-loop-word : goal.decreases-loop-word
decreases-loop-word l = length l.rest
