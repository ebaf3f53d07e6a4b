use Rattle.std.proofs.Common.{◌≡◌, ◌+◌, ◌*◌, ◌≤◌, ◌++◌, length}
use Rattle.riichi_hand.specs.Words.{words_of}
use Rattle.riichi_study.specs.Words.{shape_words, space_before_each}
use Rattle.riichi_study.specs.declared.words.TheConstants.{SHAPE_ROOM}
use Rattle.riichi_study.proofs.words.push_others.Given as goal

-- the words so far are written, and those that are left come behind them
abbrev pub invariant-loop-word : goal.invariant-loop-word
invariant-loop-word l = record {
  written : l.initial.room.items ++ space_before_each (shape_words l.job (words_of l.text)) ≡ l.room.items ++ space_before_each (shape_words l.job (words_of l.rest));
  fits : length l.room.items + 2 * length l.rest ≤ SHAPE_ROOM;
}

abbrev pub decreases-loop-word : goal.decreases-loop-word
decreases-loop-word l = length l.rest
