use Rattle.std.proofs.Common.{ℕ, List, ◌++◌, ap, ◌∙◌}
use Rattle.std.specs.Prelude.{codes}
use Rattle.riichi_text.proofs.Pieces.{pushed_four}
use Rattle.riichi_game_json.specs.States.{table_members, four_points, stands_members}
use Rattle.riichi_game_json.proofs.states.push_stands.Goals as goal

pub returns-clause-bytes : goal.returns-clause-bytes
unfolding stands_members
returns-clause-bytes c =
    let state = c.args.state.now in
    pushed_four c.args.text.now.bytes (codes "\"answer\":\"stands\",") (table_members state) (four_points (codes ",\"points\":") state.points) (codes "}")
    c.push_str.ensures.bytes c.push_table.ensures.bytes
    (c.push_four.ensures.bytes ∙ ap (λ points. c.push_table.new.text.bytes ++ four_points (codes ",\"points\":") points) c.widened.ensures) c.push_str-2.ensures.bytes
