-- A stream of bytes as lines.
use Rattle.std.specs.Prelude.{ℕ, ◌==◌, List, [], ◌∷◌, ◌++◌, map, Bool, not, if◌then◌else◌}
use Rattle.std.specs.List.{list_all}

-- A text up to its last line feed is lines that a line feed ends, without it; after that comes the rest.
pub record Cut : Type 0 where
  pub ended : List (List ℕ)
  pub rest : List ℕ

-- a byte that is no line feed, at the front of the first line, or of the rest where there is no line
abbrev pub byte_in_front : ℕ → List (List ℕ) → List ℕ → Cut
byte_in_front byte [] rest = record { ended = []; rest = byte ∷ rest }
byte_in_front byte (line ∷ lines) rest = record { ended = (byte ∷ line) ∷ lines; rest = rest }

abbrev pub with_front : ℕ → Cut → Cut
with_front byte cut = if byte == 10 then record { ended = [] ∷ cut.ended; rest = cut.rest } else byte_in_front byte cut.ended cut.rest

abbrev pub cut_of : List ℕ → Cut
cut_of [] = record { ended = []; rest = [] }
cut_of (byte ∷ bytes) = with_front byte (cut_of bytes)

-- one carriage return at the end is dropped
abbrev pub without_return : List ℕ → List ℕ
without_return [] = []
without_return (byte ∷ []) = if byte == 13 then [] else byte ∷ []
without_return (byte ∷ next ∷ bytes) = byte ∷ without_return (next ∷ bytes)

-- the lines of a text that a line feed ends
abbrev pub ended_lines : List ℕ → List (List ℕ)
ended_lines text = map without_return (cut_of text).ended

-- what stands after the last line feed is a line where it isn't empty
abbrev pub last_line : List ℕ → List (List ℕ)
last_line [] = []
last_line (byte ∷ bytes) = without_return (byte ∷ bytes) ∷ []

abbrev pub lines : List ℕ → List (List ℕ)
lines text = ended_lines text ++ last_line (cut_of text).rest

-- no byte is a line feed
abbrev pub is_plain : List ℕ → Bool
is_plain text = list_all (λ byte. not (byte == 10)) text
