use Rattle.std.proofs.Common.{ℕ, List, ◌++◌, ap, ◌∙◌}
use Rattle.riichi_game_text.specs.Answers.{deal_text}
use Rattle.desk_games.specs.Below.{below_deal, step_in}
use Rattle.desk_games.specs.Forms.{front_text}
use Rattle.desk_games.proofs.PendingLemmas.{answer_put}
use Rattle.desk_games.proofs.puts.put_deal.Goals as goal

pub returns : goal.returns
returns c =
    let step = c.args.step.now in
    let answer = deal_text step.before.now.state step.after.now.state.points in
    let now = c.put_below.new.outbox in
    answer_put c.args.outbox.now.bytes.items now.bytes.items now.text.bytes c.put_text.new.self.bytes.items c.push_deal.new.text.bytes
    (front_text c.args.manner.form c.args.manner.front) answer (below_deal c.args.manner.form (step_in step))
    (c.push_deal.ensures.bytes ∙ ap (λ (text : List ℕ). text ++ answer) c.begin_text.ensures.bytes) c.put_below.ensures.pending c.put_text.ensures.told
