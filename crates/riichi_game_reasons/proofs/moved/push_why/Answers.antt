use Rattle.std.proofs.Common.{◌∙◌, ◌++◌, ap, append_assoc, List, ℕ}
use Rattle.std.specs.Prelude.{codes}
use Rattle.riichi_game_reasons.specs.MoveLines.{won_words}
use Rattle.riichi_game_reasons.proofs.moved.push_why.Goals as goal

pub returns-in-Tsumo-clause-bytes : goal.returns-in-Tsumo-clause-bytes
returns-in-Tsumo-clause-bytes c =
    let hand = won_words c.args.outcome.now c.args.win in
    rw c.in-Tsumo.is (c.push_won_hand-in-Tsumo.ensures.bytes ∙ ap (λ (text : List ℕ). text ++ hand) c.push_str-in-Tsumo.ensures.bytes ∙ append_assoc c.args.text.now.bytes (codes "self-draw, ") hand)

pub returns-in-Ready-clause-bytes : goal.returns-in-Ready-clause-bytes
returns-in-Ready-clause-bytes c = rw c.in-Ready.is c.push_str-in-Ready.ensures.bytes
