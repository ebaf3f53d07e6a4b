use Rattle.std.proofs.Common.{◌≡◌, ℕ, List, ◌++◌, ap, ◌∙◌, append_assoc}
use Rattle.riichi_text.specs.Tiles.{kind_text}
use Rattle.riichi_shape.specs.Text.{discard_text, list_text}
use Rattle.riichi_shape.proofs.text.push_discard.Goals as goal

regroup : (a b c d : List ℕ) → ((a ++ b) ++ c) ++ d ≡ a ++ ((b ++ c) ++ d)
regroup a b c d = simp append_assoc

pub returns-clause-bytes : goal.returns-clause-bytes
unfolding discard_text
returns-clause-bytes c =
    c.push_accepted.ensures.bytes
    ∙ ap (λ t. t ++ list_text c.args.discard.now.accepted) (c.push_kind.ensures.bytes ∙ ap (λ t. t ++ kind_text c.args.discard.now.kind) c.push_str.ensures.bytes)
    ∙ regroup c.args.text.now.bytes _ (kind_text c.args.discard.now.kind) (list_text c.args.discard.now.accepted)
