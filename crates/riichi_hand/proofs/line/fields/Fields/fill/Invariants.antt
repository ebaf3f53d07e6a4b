use Rattle.std.proofs.Common.{◌≡◌, ℕ, List, ◌++◌, map, false, length}
use Rattle.std.specs.Prelude.{option_map}
use Rattle.std.specs.List.{list_any}
use Rattle.riichi_hand.specs.Words.{begins_with_space, from_words, word_of}
use Rattle.riichi_hand.specs.Entries.{is_bad, entries_of, Holds}
use Rattle.riichi_hand.specs.Places.{doubled_from}
use Rattle.riichi_hand.proofs.line.fields.Fields.fill.Given as goal

-- the fields of the words so far, each an entry, and where a key came again; and no space before the rest
abbrev pub invariant-loop-rest : goal.invariant-loop-rest
invariant-loop-rest l = (froms : List (List ℕ)) × record {
  from : from_words l.words.entries.now ≡ froms ++ from_words l.rest;
  good : list_any (is_bad l.words.job) (map word_of froms) ≡ false;
  holds : Holds l.self (entries_of l.words.job (map word_of froms));
  again : option_map (λ from. from.now) l.self.at_fault ≡ doubled_from l.words.job froms;
  begins : begins_with_space l.rest ≡ false;
}

abbrev pub decreases-loop-rest : goal.decreases-loop-rest
decreases-loop-rest l = length l.rest
