use Rattle.std.proofs.Common.{◌++◌}
use Rattle.std.specs.Prelude.{codes}
use Rattle.riichi_table.specs.Players.{of_player}
use Rattle.riichi_text.proofs.Pieces.{pushed-two, pushed_five}
use Rattle.riichi_game_text.specs.Answers.{signed_text}
use Rattle.riichi_game_json.specs.Strings.{four_values}
use Rattle.riichi_game_json.proofs.states.push_four.Goals as goal

pub returns-clause-bytes : goal.returns-clause-bytes
returns-clause-bytes c =
    let points = c.args.points.now in
    pushed-two c.args.text.now.bytes c.args.name.now (four_values (λ player. signed_text (of_player points player))) c.push_str.ensures.bytes
    (pushed_five c.push_str.new.self.bytes (codes "[" ++ signed_text points.first) (codes "," ++ signed_text points.second) (codes "," ++ signed_text points.third)
    (codes "," ++ signed_text points.fourth) (codes "]")
    c.push_of.ensures.bytes c.push_of-2.ensures.bytes c.push_of-3.ensures.bytes c.push_of-4.ensures.bytes c.push_str-2.ensures.bytes)
