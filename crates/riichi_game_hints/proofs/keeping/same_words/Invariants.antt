use Rattle.std.proofs.Common.{◌≡◌, length}
use Rattle.riichi_hand.specs.Words.{words_of}
use Rattle.riichi_game_hints.proofs.keeping.same_words.Given as goal

-- where the words that are left are the same, all are
abbrev pub invariant-loop-word : goal.invariant-loop-word
invariant-loop-word l = words_of l.rest ≡ words_of l.others → words_of l.one ≡ words_of l.other

abbrev pub decreases-loop-word : goal.decreases-loop-word
decreases-loop-word l = length l.rest
