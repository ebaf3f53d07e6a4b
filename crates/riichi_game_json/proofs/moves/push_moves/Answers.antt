use Rattle.std.proofs.Common.{◌++◌, ◌-◌, flat_map, length, take, drop, sym, ap, ◌∙◌}
use Rattle.std.specs.Prelude.{codes}
use Rattle.riichi_text.proofs.Pieces.{pushed-two}
use Rattle.riichi_game_json.specs.MoveValues.{move_json}
use Rattle.riichi_game_json.proofs.Pieces.{joined_first}
use Rattle.riichi_game_json.proofs.moves.push_moves.Goals as goal

pub returns-in-len1-up-clause-bytes : goal.returns-in-len1-up-clause-bytes
returns-in-len1-up-clause-bytes c =
    let text_of = move_json c.args.counters c.args.outcome.now in
    let moves = c.args.moves.now in
    let others = flat_map (λ next. codes "," ++ text_of next) (take (length moves - 1) (drop 1 moves)) in
    pushed-two c.args.text.now.bytes _ others c.push_move.ensures.bytes c.push_more.ensures.bytes
    ∙ ap (λ all. c.args.text.now.bytes ++ all) (sym (joined_first (codes ",") text_of moves _ c.in-len1-up.len_at_least))
