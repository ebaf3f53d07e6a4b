use Rattle.std.proofs.Common.{◌≡◌, ◌≤◌, length}
use Rattle.riichi_game_text.specs.Words.{said_in, rule_words}
use Rattle.riichi_game_text.proofs.words.from_rule_word.Given as goal

-- no word so far is one of these
abbrev pub invariant-loop-word : goal.invariant-loop-word
invariant-loop-word l = (rule_words (said_in l.rest) ≡ rule_words (said_in l.fn.text)) × (length l.rest ≤ length l.fn.text)

abbrev pub decreases-loop-word : goal.decreases-loop-word
decreases-loop-word l = length l.rest
