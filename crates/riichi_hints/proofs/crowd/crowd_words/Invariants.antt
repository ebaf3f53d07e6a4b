use Rattle.std.proofs.Common.{◌≡◌, ◌≤◌, ◌++◌, length}
use Rattle.riichi_hand.specs.Words.{words_of}
use Rattle.riichi_hints.specs.Crowd.{crowd_text, places_text}
use Rattle.riichi_hints.proofs.crowd.crowd_words.Given as goal

-- where there is room for all, the words that are left make up the whole
abbrev pub invariant-loop-word : goal.invariant-loop-word
invariant-loop-word l =
    let whole = crowd_text l.tile.digit l.tile.suit l.line in
    length whole ≤ 128 → l.words.items ++ places_text l.tile.digit l.tile.suit l.mark (words_of l.rest) ≡ whole

abbrev pub decreases-loop-word : goal.decreases-loop-word
decreases-loop-word l = length l.rest
