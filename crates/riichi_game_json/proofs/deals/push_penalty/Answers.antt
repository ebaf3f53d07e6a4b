use Rattle.std.proofs.Common.{ℕ, ◌++◌, ap, ◌∙◌, decimal}
use Rattle.std.specs.Prelude.{codes}
use Rattle.riichi_places.specs.Places.{seat_number}
use Rattle.riichi_text.proofs.Pieces.{pushed-three}
use Rattle.riichi_game_json.proofs.deals.push_penalty.Goals as goal

pub returns-clause-bytes : goal.returns-clause-bytes
returns-clause-bytes c =
    let head = codes "\"answer\":\"penalty\",\"player\":" in
    pushed-three c.args.text.now.bytes (head ++ decimal (seat_number c.args.player)) (codes ",\"points\":" ++ decimal c.args.points) (codes "}")
    (c.push_natural.ensures.bytes ∙ ap (λ (n : ℕ). c.args.text.now.bytes ++ (head ++ decimal n)) c.player_index.ensures)
    c.push_natural-2.ensures.bytes c.push_str.ensures.bytes
