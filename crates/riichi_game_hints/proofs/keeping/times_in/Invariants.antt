use Rattle.std.proofs.Common.{◌≡◌, ◌+◌, ◌≤◌, length}
use Rattle.riichi_hand.specs.Words.{words_of}
use Rattle.riichi_game_text.specs.Names.{names_in}
use Rattle.riichi_game_hints.specs.Keeping as spec
use Rattle.riichi_game_hints.proofs.keeping.times_in.Given as goal

-- those of the words so far and those of the rest are all
abbrev pub invariant-loop-word : goal.invariant-loop-word
invariant-loop-word l = record {
  few : l.times + length l.rest ≤ length l.text;
  all : l.times + spec.times_in (names_in l.names) l.player (words_of l.rest) ≡ spec.times_in (names_in l.names) l.player (words_of l.text);
}

abbrev pub decreases-loop-word : goal.decreases-loop-word
decreases-loop-word l = length l.rest
