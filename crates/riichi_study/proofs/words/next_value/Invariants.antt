use Rattle.std.proofs.Common.{◌≡◌, length}
use Rattle.riichi_hand.specs.Words.{words_of}
use Rattle.riichi_study.specs.Words.{own_values}
use Rattle.riichi_study.proofs.words.next_value.Given as goal

-- no word so far has the key
abbrev pub invariant-loop-word : goal.invariant-loop-word
invariant-loop-word l = own_values l.key (words_of l.text) ≡ own_values l.key (words_of l.rest)

abbrev pub decreases-loop-word : goal.decreases-loop-word
decreases-loop-word l = length l.rest
