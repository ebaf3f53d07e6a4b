-- What is shown of a line: printable, and of few columns.
use Rattle.std.specs.Prelude.{ℕ, ◌==◌, ◌+◌, ◌-◌, ◌/◌, ◌%◌, List, [], ◌∷◌, ◌++◌, Bool, false, ◌&&◌, ◌||◌, not, Option, None, Some, nat_lt, unwrap_or, take, drop, replicate, codes, if◌then◌else◌}
use Rattle.std.specs.List.{flat_map}
use Rattle.std.specs.Option.{option_or}
use Rattle.std.specs.Str.{is_utf8}
use Rattle.riichi_hand.specs.Lines.{is_other_byte}

abbrev pub hex_digit : ℕ → ℕ
hex_digit number = if nat_lt number 10 then 48 + number else 87 + number

-- a byte outside printable ASCII as `\xNN`
unfoldable pub byte_text : ℕ → List ℕ
byte_text byte = if is_other_byte byte then 92 ∷ 120 ∷ hex_digit (byte / 16) ∷ hex_digit (byte % 16) ∷ [] else byte ∷ []

abbrev pub shown : List ℕ → List ℕ
shown text = flat_map byte_text text

-- ---- texts that are seen as they are

-- A byte behind another isn't seen: it is a control byte, or in a character that is one, parts lines, turns their direction or has no
-- width (those up to U+00BF, U+2000 to U+207F, and the byte order mark).
abbrev pub hides : ℕ → ℕ → Bool
hides before byte = nat_lt byte 32 || ((byte == 127) || ((byte == 194) || ((before == 226 && nat_lt byte 130) || (before == 239 && (byte == 187)))))

-- one of the bytes of a text behind another isn't seen
abbrev pub has_hidden : ℕ → List ℕ → Bool
has_hidden before [] = false
has_hidden before (byte ∷ text) = hides before byte || has_hidden byte text

abbrev pub is_seen : List ℕ → Bool
is_seen text = not (has_hidden 0 text) && is_utf8 text

abbrev pub seen_as_is : List ℕ → Option (List ℕ)
seen_as_is text = if is_seen text then Some text else None

-- ---- around a place

-- of a text up to 36 bytes before a place, and some from it on
abbrev pub around : ℕ → ℕ → List ℕ → List ℕ
around after place text = take (place - (place - 36) + after) (drop (place - 36) text)

unfoldable pub shown_line : List ℕ → List ℕ
shown_line text = codes "  " ++ shown text ++ codes "\n"

-- the same up to 36 bytes from the place on, and up to three fewer where a character would be cut
abbrev pub seen_around : ℕ → List ℕ → Option (List ℕ)
seen_around place text = option_or (seen_as_is (around 36 place text)) (option_or (seen_as_is (around 35 place text)) (option_or (seen_as_is (around 34 place text)) (seen_as_is (around 33 place text))))

-- as it is where it is seen, else up to nine bytes from the place on
abbrev pub foreign_text : ℕ → List ℕ → List ℕ
foreign_text place text = unwrap_or (seen_around place text) (shown (around 9 place text))

unfoldable pub foreign_line : ℕ → List ℕ → List ℕ
foreign_line place text = codes "  " ++ foreign_text place text ++ codes "\n"

-- a mark under a column, with what may stand there
unfoldable pub mark_line : ℕ → List ℕ → List ℕ
mark_line column words = codes "  " ++ replicate column 32 ++ codes "^ " ++ words ++ codes "\n"

-- what is shown around a place, and below it the mark
unfoldable pub marked_lines : ℕ → ℕ → List ℕ → List ℕ → List ℕ
marked_lines after place text words = shown_line (around after place text) ++ mark_line (place - (place - 36)) words

-- the same around a byte that is no printable ASCII
unfoldable pub foreign_marked : ℕ → List ℕ → List ℕ → List ℕ
foreign_marked place text words = foreign_line place text ++ mark_line (place - (place - 36)) words
