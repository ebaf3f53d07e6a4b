use Rattle.std.proofs.Common.{◌++◌, decimal}
use Rattle.std.specs.Prelude.{codes}
use Rattle.riichi_table.specs.Players.{of_player}
use Rattle.riichi_game_text.specs.Names.{names_in}
use Rattle.riichi_game_json.specs.Begun.{number_member}
use Rattle.riichi_game_json.specs.Strings.{four_values, quoted}
use Rattle.riichi_game_json.proofs.Pieces.{pushed_six}
use Rattle.riichi_game_json.proofs.begun.push_begun.Goals as goal

pub returns-clause-bytes : goal.returns-clause-bytes
returns-clause-bytes c =
    let line = c.args.line.now in
    pushed_six c.args.text.now.bytes (codes "\"answer\":\"game\",\"names\":") (four_values (λ player. quoted (of_player (names_in line.names) player)))
    (codes ",\"start\":" ++ decimal line.rules.start) (number_member (codes ",\"session\":") line.session) (number_member (codes ",\"at\":") line.at) (codes "}")
    c.push_str.ensures.bytes c.push_names.ensures.bytes c.push_natural.ensures.bytes c.push_said.ensures.bytes c.push_said-2.ensures.bytes c.push_str-2.ensures.bytes
