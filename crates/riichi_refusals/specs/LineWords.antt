-- The word of a line at which a fault stands.
use Rattle.std.specs.Prelude.{ℕ, List, Option, option_map}
use Rattle.riichi_hand.specs.declared.fault.LineCode.{LineCode}
use Rattle.riichi_hand.specs.declared.fault.TextName.{TextName}
use Rattle.riichi_hand.specs.Words.{word_of}
use Rattle.riichi_hand.specs.Places.{code_from, text_from}

abbrev pub word_at_fault : LineCode → List ℕ → Option (List ℕ)
word_at_fault code line = option_map word_of (code_from code line)

-- the word with a text of tiles
abbrev pub text_word : TextName → List ℕ → Option (List ℕ)
text_word name line = option_map word_of (text_from name line)
