-- The words of a line, and the items of a value.
use Rattle.std.specs.Prelude.{◌≡◌, ℕ, ◌==◌, List, [], ◌∷◌, ◌++◌, Bool, true, false, not, map, take, if◌then◌else◌}
use Rattle.std.specs.List.{slice_split, list_all, position_or_len}

abbrev pub is_space : ℕ → Bool
is_space byte = byte == 32

-- a word begins at a byte that is no space, where none goes on
abbrev pub starts : Bool → List ℕ → List (List ℕ)
starts goes_on [] = []
starts true (byte ∷ bytes) = starts (not (is_space byte)) bytes
starts false (byte ∷ bytes) = if is_space byte then starts false bytes else (byte ∷ bytes) ∷ starts true bytes

-- the text from each word on
abbrev pub from_words : List ℕ → List (List ℕ)
from_words line = starts false line

-- the word with which a text begins
abbrev pub word_of : List ℕ → List ℕ
word_of from = take (position_or_len is_space from) from

-- Words are separated by one or more spaces. Spaces at either end don't count.
abbrev pub words_of : List ℕ → List (List ℕ)
words_of line = map word_of (from_words line)

-- Items are separated by one comma each, so an item may be empty.
abbrev pub items_of : List ℕ → List (List ℕ)
items_of value = slice_split (λ byte. byte == 44) value

-- without the spaces that it begins with
abbrev pub without_spaces : List ℕ → List ℕ
without_spaces [] = []
without_spaces (byte ∷ bytes) = if is_space byte then without_spaces bytes else byte ∷ bytes

abbrev pub begins_with_space : List ℕ → Bool
begins_with_space [] = false
begins_with_space (byte ∷ bytes) = byte == 32

-- a text is spaces and then the rest
pub record BeginsWithSpaces (text rest : List ℕ) : Type 0 where
  pub spaces : List ℕ
  pub are_spaces : list_all (λ byte. byte == 32) spaces ≡ true
  pub text_is : text ≡ spaces ++ rest
