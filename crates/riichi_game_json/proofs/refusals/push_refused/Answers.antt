use Rattle.std.proofs.Common.{ℕ, List, ◌++◌, ap, ◌∙◌}
use Rattle.std.specs.Prelude.{codes}
use Rattle.riichi_text.proofs.Pieces.{pushed_five}
use Rattle.riichi_game_text.specs.FaultTexts.{code_text}
use Rattle.riichi_game_json.specs.Refusals.{hand_member}
use Rattle.riichi_game_json.proofs.refusals.push_refused.Goals as goal

pub returns-clause-bytes : goal.returns-clause-bytes
returns-clause-bytes c =
    pushed_five c.args.text.now.bytes (codes "\"answer\":\"refused\",\"code\":\"") (code_text c.args.fault.now) (codes "\"") (hand_member c.args.fault.now) (codes "}")
    c.push_str.ensures.bytes (c.push_str-2.ensures.bytes ∙ ap (λ (t : List ℕ). c.push_str.new.self.bytes ++ t) c.code_text.ensures.value) c.push_str-3.ensures.bytes
    c.push_hand_if.ensures.bytes c.push_str-4.ensures.bytes
