-- The answers of several tables, one after the other.
use Rattle.std.specs.Prelude.{ℕ, suc, List, [], ◌∷◌, ◌++◌, map, Option, None, Some, codes, decimal, if◌then◌else◌}
use Rattle.riichi_hand.specs.Lines.{is_other_byte}

-- the line that stands before the answers of a table
abbrev pub table_line : ℕ → List ℕ
table_line number = (codes "table " ++ decimal number) ++ 10 ∷ []

-- a byte of a name as it is shown: a question mark where it isn't printed ASCII
abbrev pub shown_byte : ℕ → ℕ
shown_byte byte = if is_other_byte byte then 63 else byte

-- behind the number of a table its name, where it is told
abbrev pub name_behind : Option (List ℕ) → List ℕ
name_behind None = []
name_behind (Some name) = 32 ∷ map shown_byte name

-- the line that stands before the answers of a table whose name may be told
abbrev pub head_line : ℕ → Option (List ℕ) → List ℕ
head_line number name = (codes "table " ++ decimal number) ++ (name_behind name ++ 10 ∷ [])

-- the answers of tables, numbered on from this number, each behind the line of its number
abbrev pub tables_from : (ℕ → List ℕ) → ℕ → List (List ℕ) → List ℕ
tables_from head number [] = []
tables_from head number (answers ∷ tables) = (head number ++ answers) ++ tables_from head (suc number) tables

-- the answers of all tables, numbered from 0
abbrev pub tables_text : List (List ℕ) → List ℕ
tables_text tables = tables_from table_line 0 tables
