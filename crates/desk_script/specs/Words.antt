-- The words of a line of a script.
use Rattle.std.specs.Prelude.{ℕ, ◌==◌, List, [], ◌∷◌, length, take, drop, Bool, false, ◌&&◌, ◌||◌, nat_le}
use Rattle.std.specs.List.{list_all, position_or_len}
use Rattle.riichi_hand.specs.Words.{is_space, without_spaces}

-- what stands before and after the first space
abbrev pub before_space : List ℕ → List ℕ
before_space text = take (position_or_len is_space text) text

abbrev pub after_space : List ℕ → List ℕ
after_space text = drop (position_or_len is_space text) text

-- the first word, empty where there is none, and what comes after it
abbrev pub first_word : List ℕ → List ℕ
first_word text = before_space (without_spaces text)

abbrev pub after_word : List ℕ → List ℕ
after_word text = after_space (without_spaces text)

-- a comment begins with `#`, whatever follows
abbrev pub is_comment : List ℕ → Bool
is_comment [] = false
is_comment (byte ∷ bytes) = byte == 35

-- a comment, or nothing but spaces
abbrev pub is_blank : List ℕ → Bool
is_blank line = is_comment line || list_all is_space line

-- one of A to Z, a to z, 0 to 9, `_` and `-`
abbrev pub is_within : ℕ → ℕ → ℕ → Bool
is_within low high byte = nat_le low byte && nat_le byte high

abbrev pub is_name_byte : ℕ → Bool
is_name_byte byte = is_within 65 90 byte || is_within 97 122 byte || is_within 48 57 byte || (byte == 95) || (byte == 45)

-- the name of a table has 1 to 32 of these bytes
abbrev pub is_name : List ℕ → Bool
is_name word = is_within 1 32 (length word) && list_all is_name_byte word
