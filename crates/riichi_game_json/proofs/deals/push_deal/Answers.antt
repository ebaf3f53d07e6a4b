use Rattle.std.proofs.Common.{◌++◌, ap, ◌∙◌}
use Rattle.std.specs.Prelude.{codes}
use Rattle.riichi_game_json.specs.Deals.{deal_members, head_members, moves_member, over_member}
use Rattle.riichi_game_json.specs.States.{table_members, four_points}
use Rattle.riichi_game_text.specs.Answers.{point_changes}
use Rattle.riichi_game_json.proofs.Pieces.{pushed_seven}
use Rattle.riichi_game_json.proofs.deals.push_deal.Goals as goal

pub returns-clause-bytes : goal.returns-clause-bytes
unfolding deal_members
returns-clause-bytes c =
    let rules = c.args.rules.now in
    let before = c.args.before.now in
    let after = c.args.after.now in
    let outcome = c.args.outcome.now in
    pushed_seven c.args.text.now.bytes (head_members outcome) (table_members before.state) (four_points (codes ",\"changes\":") (point_changes before.state.points after.state.points))
    (four_points (codes ",\"points\":") after.state.points) (moves_member rules before.state outcome) (over_member rules before after outcome) (codes "}")
    c.push_head.ensures.bytes c.push_table.ensures.bytes
    (c.push_four.ensures.bytes ∙ ap (λ points. c.push_table.new.text.bytes ++ four_points (codes ",\"changes\":") points) c.point_changes-changes.ensures)
    (c.push_four-2.ensures.bytes ∙ ap (λ points. c.push_four.new.text.bytes ++ four_points (codes ",\"points\":") points) c.widened.ensures)
    c.push_all_moves.ensures.bytes c.push_why_over.ensures.bytes c.push_str.ensures.bytes
