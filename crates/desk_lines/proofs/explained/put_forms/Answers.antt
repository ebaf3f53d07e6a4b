use Rattle.std.proofs.Common.{ℕ, List, [], ◌∷◌, ◌++◌, refl, ap, ◌∙◌, append_assoc}
use Rattle.riichi_explain.specs.Forms.{shanten_line}
use Rattle.riichi_shape.specs.Answer.{shape_answer_of}
use Rattle.riichi_shape.specs.Text.{shape_text}
use Rattle.desk_lines.proofs.explained.put_forms.Goals as goal

pub returns : goal.returns
returns g c =
    let forms = c.explain_shape.result in
    let before = c.args.outbox.now.bytes.items in
    let answer = shape_text (shape_answer_of c.args.tiles.now) ++ 10 ∷ [] in
    let pushed = c.push_shanten_line.ensures.bytes ∙ ap (λ (t : List ℕ). t ++ shanten_line forms) c.clear.ensures in (
      shanten_line forms,
      record { forms = forms; distances = c.explain_shape.ensures.forms; text_is = refl },
      c.put_why.ensures.told ∙ ap (λ (t : List ℕ). t ++ c.push_shanten_line.new.text.bytes) c.put_shape.ensures.told
          ∙ append_assoc before answer c.push_shanten_line.new.text.bytes ∙ ap (λ (why : List ℕ). before ++ (answer ++ why)) pushed,
    )
