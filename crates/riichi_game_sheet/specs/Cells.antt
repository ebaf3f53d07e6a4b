-- Cells of a row: texts that fill so many columns.
use Rattle.std.specs.Prelude.{ℕ, zero, suc, ◌-◌, List, [], ◌∷◌, ◌++◌, length, take, replicate, chars, Bool, false, ◌&&◌, nat_le, if◌then◌else◌}
use Rattle.std.specs.Str.{is_utf8}
use Rattle.unicode_width.specs.Width.{str_width}

abbrev pub spaces : ℕ → List ℕ
spaces count = replicate count 32

-- the columns that a text takes
abbrev pub width_of : List ℕ → ℕ
width_of text = str_width false (chars text)

-- bytes that are a text, and take so many columns at most
unfoldable pub fits_in : ℕ → List ℕ → Bool
fits_in columns bytes = is_utf8 bytes && nat_le (width_of bytes) columns

-- of the beginnings of so many bytes or fewer the longest that fits
unfoldable pub front_within : ℕ → List ℕ → ℕ → List ℕ
front_within columns text zero = []
front_within columns text (suc n) = if fits_in columns (take (suc n) text) then take (suc n) text else front_within columns text n

-- the longest beginning that fits
abbrev pub front : ℕ → List ℕ → List ℕ
front columns text = front_within columns text (length text)

-- U+2026 in UTF-8
abbrev pub ellipsis : List ℕ
ellipsis = 226 ∷ 128 ∷ 166 ∷ []

-- a text that is too wide is cut, so that an ellipsis stands behind its front
unfoldable pub cut : ℕ → List ℕ → List ℕ
cut columns text = if nat_le (width_of text) columns then text else front (columns - 1) text ++ ellipsis

-- at the left end of so many columns, with a space behind it at least
unfoldable pub left_cell : ℕ → List ℕ → List ℕ
left_cell columns text = cut (columns - 1) text ++ spaces (columns - width_of (cut (columns - 1) text))

-- at the right end of so many columns, with a space before it at least
unfoldable pub right_cell : ℕ → List ℕ → List ℕ
right_cell columns text = spaces (columns - width_of (cut (columns - 1) text)) ++ cut (columns - 1) text
