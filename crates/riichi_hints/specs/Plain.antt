-- A line that is read loosely as it stands.
use Rattle.std.specs.Prelude.{◌≡◌, ℕ, ◌==◌, ◌≤◌, List, [], ◌∷◌, Bool, true, false, ◌&&◌, ◌||◌, not, length, nat_lt, codes, if◌then◌else◌}
use Rattle.std.specs.List.{list_any}
use Rattle.riichi_hints.specs.Near.{is_mark}
use Rattle.riichi_hints.specs.declared.text.TheConstants.{MOST}

-- it parts words, or is left out: a quote, or one of these marks
abbrev pub parts_words : ℕ → Bool
parts_words byte = list_any (λ other. other == byte) (codes "\"'`+,;|/")

-- a byte that stands for itself in a word: printable, or of a character outside ASCII
abbrev pub is_of_word : ℕ → Bool
is_of_word byte = nat_lt 32 byte && not ((byte == 127) || parts_words byte)

-- behind one byte another stays as it is: one space parts words, and beside `=` and `:` there is none
abbrev pub stays_plain : ℕ → ℕ → Bool
stays_plain before byte = if byte == 32 then not (before == 32 || is_mark before) else is_of_word byte && not (is_mark byte && before == 32)

abbrev pub begins_with : ℕ → List ℕ → Bool
begins_with byte [] = false
begins_with byte (first ∷ rest) = first == byte

-- The first character may be a mark outside ASCII, or a full-width letter: it is one of U+0080 to U+00BF, U+2000 to U+2FFF,
-- U+3000 to U+303F, or from U+F000 on.
abbrev pub begins_mark : List ℕ → Bool
begins_mark [] = false
begins_mark (first ∷ rest) = (first == 194) || ((first == 226) || ((first == 239) || ((first == 227) && begins_with 128 rest)))

-- each byte stays, the first behind this one, and no character is a mark outside ASCII
abbrev pub is_plain_behind : ℕ → List ℕ → Bool
is_plain_behind before [] = true
is_plain_behind before (byte ∷ bytes) = not (begins_mark (byte ∷ bytes)) && (stays_plain before byte && is_plain_behind byte bytes)

-- A line is made plain: a plain one stays as it is, in whatever script.
abbrev pub IsMadePlain : List ℕ → List ℕ → Type 0
IsMadePlain line plain = is_plain_behind 0 line ≡ true → length line ≤ MOST → plain ≡ line
