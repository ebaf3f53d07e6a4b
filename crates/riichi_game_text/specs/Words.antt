-- The words of a line of a game.
use Rattle.std.specs.Prelude.{ℕ, ◌==◌, List, [], ◌∷◌, Bool, false, not, is_some, if◌then◌else◌}
use Rattle.std.specs.List.{filter}
use Rattle.riichi_hand.specs.Words.{words_of}
use Rattle.riichi_hand.specs.Entries.{cut_at_equals}

-- a word that begins with `#` begins a note
abbrev pub begins_note : List ℕ → Bool
begins_note [] = false
begins_note (byte ∷ bytes) = byte == 35

abbrev pub before_note : List (List ℕ) → List (List ℕ)
before_note [] = []
before_note (word ∷ words) = if begins_note word then [] else word ∷ before_note words

-- Words are parted by spaces, and a note goes up to the end of its line.
abbrev pub said_in : List ℕ → List (List ℕ)
said_in text = before_note (words_of text)

abbrev pub has_equals : List ℕ → Bool
has_equals word = is_some (cut_at_equals word)

-- the words with `=`, and those without
abbrev pub rule_words : List (List ℕ) → List (List ℕ)
rule_words words = filter has_equals words

abbrev pub name_words : List (List ℕ) → List (List ℕ)
name_words words = filter (λ word. not (has_equals word)) words
