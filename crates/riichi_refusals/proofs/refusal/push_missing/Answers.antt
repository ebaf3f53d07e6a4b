use Rattle.std.proofs.Common.{◌∙◌, ◌++◌, ℕ, List, ap, codes}
use Rattle.riichi_hand.specs.Keys.{key_name}
use Rattle.riichi_text.proofs.Pieces.{pushed-two}
use Rattle.riichi_refusals.proofs.refusal.push_missing.Goals as goal

pub returns-in-Some-clause-bytes : goal.returns-in-Some-clause-bytes
returns-in-Some-clause-bytes c =
    let named = c.push_str.ensures.bytes ∙ ap (λ (name : List ℕ). c.args.text.now.bytes ++ name) c.name.ensures.value in
    rw c.in-Some.is (pushed-two c.args.text.now.bytes (key_name c.in-Some.key) (codes " is missing: ") named c.push_str-in-Some.ensures.bytes)
