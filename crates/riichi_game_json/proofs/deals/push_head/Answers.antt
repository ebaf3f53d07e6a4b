use Rattle.std.proofs.Common.{ℕ, List, ◌++◌, ap, ◌∙◌}
use Rattle.std.specs.Prelude.{codes}
use Rattle.riichi_text.proofs.Pieces.{pushed-three}
use Rattle.riichi_game_json.specs.Deals.{outcome_word}
use Rattle.riichi_game_json.proofs.deals.push_head.Goals as goal

pub returns-clause-bytes : goal.returns-clause-bytes
returns-clause-bytes c =
    pushed-three c.args.text.now.bytes (codes "\"answer\":\"deal\",\"outcome\":\"") (outcome_word c.args.outcome.now) (codes "\",")
    c.push_str.ensures.bytes (c.push_str-2.ensures.bytes ∙ ap (λ (t : List ℕ). c.push_str.new.self.bytes ++ t) c.outcome_word.ensures.value) c.push_str-3.ensures.bytes
