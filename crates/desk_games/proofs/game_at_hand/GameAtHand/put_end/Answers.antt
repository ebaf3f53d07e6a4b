use Rattle.std.proofs.Common.{ℕ, List, [], ◌++◌, ap, ◌∙◌}
use Rattle.desk_games.specs.Desks.{end_text_in, below_end_of}
use Rattle.desk_games.proofs.PendingLemmas.{answer_put}
use Rattle.desk_games.proofs.game_at_hand.GameAtHand.put_end.Goals as goal

pub returns-clause-put : goal.returns-clause-put
returns-clause-put c =
    let game = c.args.self.now in
    let now = c.put_below_end.new.outbox in
    answer_put c.args.outbox.now.bytes.items now.bytes.items now.text.bytes c.put_text.new.self.bytes.items c.push_end_in.new.text.bytes
    [] (end_text_in c.args.form game) (below_end_of c.args.form game)
    (c.push_end_in.ensures.bytes ∙ ap (λ (text : List ℕ). text ++ end_text_in c.args.form game) c.clear.ensures) c.put_below_end.ensures.pending c.put_text.ensures.told
