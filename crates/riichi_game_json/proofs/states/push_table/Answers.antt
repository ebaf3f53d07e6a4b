use Rattle.std.proofs.Common.{ℕ, ◌++◌, ap, ◌∙◌, decimal}
use Rattle.std.specs.Prelude.{codes}
use Rattle.riichi_text.proofs.Pieces.{pushed-three}
use Rattle.riichi_game_json.specs.States.{round_members}
use Rattle.riichi_game_json.proofs.states.push_table.Goals as goal

pub returns-clause-bytes : goal.returns-clause-bytes
returns-clause-bytes c =
    let state = c.args.state.now in
    pushed-three c.args.text.now.bytes (round_members state) (codes ",\"counters\":" ++ decimal state.counters) (codes ",\"sticks\":" ++ decimal state.sticks)
    c.push_round.ensures.bytes
    (c.push_natural.ensures.bytes ∙ ap (λ (n : ℕ). c.push_round.new.text.bytes ++ (codes ",\"counters\":" ++ decimal n)) c.from.ensures)
    (c.push_natural-2.ensures.bytes ∙ ap (λ (n : ℕ). c.push_natural.new.text.bytes ++ (codes ",\"sticks\":" ++ decimal n)) c.from-2.ensures)
