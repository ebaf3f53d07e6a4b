-- Cells of a line.
use Rattle.std.specs.Prelude.{ℕ, ◌-◌, List, ◌++◌, length, max, replicate, chars, false}
use Rattle.unicode_width.specs.Width.{str_width}

abbrev pub blanks : ℕ → List ℕ
blanks count = replicate count 32

-- a text at the left of so many columns, by those that it takes itself
abbrev pub name_cell : ℕ → List ℕ → List ℕ
name_cell columns name = name ++ blanks (columns - str_width false (chars name))

-- digits, signs or letters of ASCII at the right of so many columns, behind a space at least
abbrev pub number_cell : ℕ → List ℕ → List ℕ
number_cell columns cell = blanks (max (columns - length cell) 1) ++ cell
