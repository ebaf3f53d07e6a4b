use Rattle.std.proofs.Common.{◌≡◌, ◌≤◌, ◌+◌, ◌*◌, ◌++◌, length}
use Rattle.std.specs.List.{flat_map}
use Rattle.arrayvec.specs.ArrayString.{array_string_len}
use Rattle.riichi_game_json.specs.Strings.{escaped_character}
use Rattle.riichi_game_json.proofs.values.push_escaped.Given as goal

-- the characters so far are written
abbrev pub invariant-loop-character : goal.invariant-loop-character
invariant-loop-character l =
    (l.text.bytes ≡ l.initial.text.bytes ++ flat_map escaped_character l.yielded)
    × (array_string_len l.text ≤ array_string_len l.initial.text + 4 * length l.yielded)
