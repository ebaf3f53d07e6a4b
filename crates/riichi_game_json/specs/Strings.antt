-- Strings of JSON, and lists of four values.
use Rattle.std.specs.Prelude.{ℕ, List, ◌++◌, ◌==◌, chars, codes, encode_utf8, if◌then◌else◌}
use Rattle.std.specs.List.{flat_map}
use Rattle.riichi_table.specs.declared.player.Player.{Player}
use Rattle.riichi_table.specs.declared.player.Player.TheVariants.{First, Second, Third, Fourth}

-- a backslash stands before a quotation mark, and before a backslash
abbrev pub escaped_character : ℕ → List ℕ
escaped_character character =
    if character == 34 then codes "\\\"" else if character == 92 then codes "\\\\" else encode_utf8 character

-- A text in a string of JSON. It has no control bytes, which alone would have to be escaped besides.
abbrev pub escaped : List ℕ → List ℕ
escaped text = flat_map escaped_character (chars text)

abbrev pub quoted : List ℕ → List ℕ
quoted text = codes "\"" ++ escaped text ++ codes "\""

-- a value of each player, in the order of their numbers
abbrev pub four_values : (Player → List ℕ) → List ℕ
four_values value =
    (codes "[" ++ value First) ++ (codes "," ++ value Second) ++ (codes "," ++ value Third) ++ (codes "," ++ value Fourth) ++ codes "]"
