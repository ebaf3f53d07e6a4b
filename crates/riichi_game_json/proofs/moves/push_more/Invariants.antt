use Rattle.std.proofs.Common.{◌≡◌, ◌≤◌, ◌+◌, ◌*◌, ◌++◌, length, take}
use Rattle.std.specs.Prelude.{codes}
use Rattle.std.specs.List.{flat_map}
use Rattle.arrayvec.specs.ArrayString.{array_string_len}
use Rattle.riichi_game_json.specs.MoveValues.{move_json}
use Rattle.riichi_game_json.specs.declared.moves.TheConstants.{MOST_LISTED_MOVE}
use Rattle.riichi_game_json.proofs.moves.push_more.Given as goal

-- the moves so far are written
abbrev pub invariant-loop-moved : goal.invariant-loop-moved
invariant-loop-moved l =
    (l.text.bytes ≡ l.initial.text.bytes ++ flat_map (λ next. codes "," ++ move_json l.counters l.outcome next) (take l.moved-index l.moves))
    × (array_string_len l.text ≤ array_string_len l.initial.text + l.moved-index * MOST_LISTED_MOVE)
