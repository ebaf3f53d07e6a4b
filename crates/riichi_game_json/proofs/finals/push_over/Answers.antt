use Rattle.std.proofs.Common.{ℕ, ◌++◌, ap, ◌∙◌, decimal}
use Rattle.std.specs.Prelude.{codes}
use Rattle.riichi_table.specs.Players.{of_player}
use Rattle.riichi_game_text.specs.Names.{names_in}
use Rattle.riichi_text.proofs.Pieces.{pushed_four}
use Rattle.riichi_game_json.specs.Finals.{final_json}
use Rattle.riichi_game_json.specs.Strings.{four_values}
use Rattle.riichi_game_json.proofs.finals.push_over.Goals as goal

pub returns-clause-bytes : goal.returns-clause-bytes
returns-clause-bytes c =
    let players = four_values (λ player. final_json (of_player (names_in c.args.names.now) player) (of_player c.args.finals.now player)) in
    pushed_four c.args.text.now.bytes (codes "\"answer\":\"over\",\"left\":" ++ decimal c.args.sticks) (codes ",\"players\":") players (codes "}")
    (c.push_natural.ensures.bytes ∙ ap (λ (n : ℕ). c.args.text.now.bytes ++ (codes "\"answer\":\"over\",\"left\":" ++ decimal n)) c.from.ensures) c.push_str.ensures.bytes c.push_players.ensures.bytes c.push_str-2.ensures.bytes
