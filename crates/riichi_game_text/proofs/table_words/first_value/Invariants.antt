use Rattle.std.proofs.Common.{◌≡◌, length}
use Rattle.riichi_game_text.specs.Words.{said_in, rule_words}
use Rattle.riichi_game_text.specs.TableWords.{first_value}
use Rattle.riichi_game_text.proofs.table_words.first_value.Given as goal

abbrev pub invariant-loop-word : goal.invariant-loop-word
invariant-loop-word l = first_value l.key (rule_words (said_in l.rest)) ≡ first_value l.key (rule_words (said_in l.fn.text))

abbrev pub decreases-loop-word : goal.decreases-loop-word
decreases-loop-word l = length l.rest
