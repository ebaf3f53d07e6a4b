use Rattle.std.proofs.Common.{◌≡◌, length}
use Rattle.riichi_game_text.specs.Words.{said_in, rule_words}
use Rattle.riichi_game_text.specs.TableWords.{has_twice}
use Rattle.riichi_game_text.proofs.table_words.has_twice.Given as goal

abbrev pub invariant-loop-word : goal.invariant-loop-word
invariant-loop-word l = has_twice (rule_words (said_in l.rest)) ≡ has_twice (rule_words (said_in l.fn.text))

abbrev pub decreases-loop-word : goal.decreases-loop-word
decreases-loop-word l = length l.rest
