use Rattle.std.proofs.Common.{◌≡◌, length, Some}
use Rattle.riichi_game_text.specs.Words.{said_in, rule_words}
use Rattle.riichi_game_text.specs.TableWords.{change_by_all}
use Rattle.riichi_game_text.proofs.table_words.change_by_all.Given as goal

abbrev pub invariant-loop-word : goal.invariant-loop-word
invariant-loop-word l = change_by_all (rule_words (said_in l.rest)) (Some l.rules) ≡ change_by_all (rule_words (said_in l.fn.text)) (Some l.fn.rules)

abbrev pub decreases-loop-word : goal.decreases-loop-word
decreases-loop-word l = length l.rest
