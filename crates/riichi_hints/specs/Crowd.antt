-- The tiles of a line, and what is told of one of which it has more than four copies.
use Rattle.std.specs.Prelude.{◌≡◌, ℕ, ◌<◌, ◌≤◌, ◌==◌, ◌+◌, List, [], ◌∷◌, ◌++◌, Bool, ◌&&◌, length, take, nat_lt, decimal, codes, if◌then◌else◌}
use Rattle.std.specs.List.{All, position}
use Rattle.std.specs.Option.{option_map_or}
use Rattle.riichi_tiles.specs.Notation.{is_digit}
use Rattle.riichi_hand.specs.Words.{words_of}
use Rattle.riichi_hints.specs.Near.{is_mark}
use Rattle.riichi_hints.specs.declared.text.TheConstants.{PART}

-- ---- the tiles of a line

-- the first byte that is no digit, 0 where there is none: a digit is of the suit with the letter behind it
abbrev pub letter_in : List ℕ → ℕ
letter_in [] = 0
letter_in (byte ∷ rest) = if is_digit byte then letter_in rest else byte

-- a `0` is a five
abbrev pub five_if_zero : ℕ → ℕ
five_if_zero byte = if byte == 48 then 53 else byte

abbrev pub is_tile : ℕ → ℕ → ℕ → List ℕ → Bool
is_tile digit suit byte rest = is_digit byte && ((five_if_zero byte == digit) && (letter_in rest == suit))

-- how many copies of a tile a line has, in all its words
abbrev pub copies_on_line : ℕ → ℕ → List ℕ → ℕ
copies_on_line digit suit [] = 0
copies_on_line digit suit (byte ∷ rest) = (if is_tile digit suit byte rest then 1 else 0) + copies_on_line digit suit rest

-- of no digit of a suit with that letter the line has more than four copies
abbrev pub HasNoneCrowded : ℕ → List ℕ → Type 0
HasNoneCrowded suit line = (digit : ℕ) → 49 ≤ digit → digit ≤ 57 → copies_on_line digit suit line ≤ 4

-- nor of a tile of any suit
abbrev pub IsNotCrowded : List ℕ → Type 0
IsNotCrowded line = All (λ suit. HasNoneCrowded suit line) (codes "mpsz")

-- ---- what is told of it

-- a number of things: `no tile`, `1 tile`, `2 tiles`
abbrev pub many_text : ℕ → List ℕ
many_text count = if count == 0 then codes "no" else decimal count

abbrev pub plural_end : ℕ → List ℕ
plural_end count = if nat_lt 1 count then codes "s" else []

abbrev pub count_text : ℕ → List ℕ → List ℕ
count_text count thing = many_text count ++ (codes " " ++ (thing ++ plural_end count))

-- a word with a key is named by it
abbrev pub place_text : List ℕ → List ℕ
place_text word = option_map_or (λ at. codes " in " ++ take at word) (position is_mark word) (codes " in the hand")

-- how many copies a word has, and which word it is; of one that has none nothing is told
abbrev pub word_text : ℕ → ℕ → List ℕ → List ℕ → List ℕ
word_text digit suit mark word = let copies = copies_on_line digit suit word in if copies == 0 then [] else mark ++ (decimal copies ++ place_text word)

-- what stands before the next word that is told
abbrev pub next_mark : ℕ → ℕ → List ℕ → List ℕ → List ℕ
next_mark digit suit mark word = if copies_on_line digit suit word == 0 then mark else codes ", "

abbrev pub places_text : ℕ → ℕ → List ℕ → List (List ℕ) → List ℕ
places_text digit suit mark [] = []
places_text digit suit mark (word ∷ words) = word_text digit suit mark word ++ places_text digit suit (next_mark digit suit mark word) words

-- how many copies the line has, and how many each of its words
abbrev pub crowd_text : ℕ → ℕ → List ℕ → List ℕ
crowd_text digit suit line = (codes " stands " ++ count_text (copies_on_line digit suit line) (codes "time")) ++ places_text digit suit (codes ": ") (words_of line)

-- The note names a tile of which the line has more than four copies, and tells of it, where there is room.
pub record IsCrowdNote (line note : List ℕ) : Type 0 where
  pub digit : ℕ
  pub suit : ℕ
  pub more : List ℕ
  pub note_is : note ≡ digit ∷ suit ∷ more
  pub crowded : 4 < copies_on_line digit suit line
  pub told : length (crowd_text digit suit line) + 2 ≤ PART → more ≡ crowd_text digit suit line
