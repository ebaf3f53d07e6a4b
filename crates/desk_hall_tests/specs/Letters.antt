-- A game of letters.
use Rattle.std.specs.Prelude.{ℕ, ◌==◌, List, [], ◌∷◌, Option, None, Some, if◌then◌else◌}
use Rattle.desk_hall_tests.specs.declared.letters.Letter.{Letter}

-- a line says its first byte, which has to be another one than the last
abbrev pub letter_after : Letter → List ℕ → Option Letter
letter_after last [] = None
letter_after last (byte ∷ bytes) = if byte == last.said then None else Some (record { said = byte })
