use Rattle.std.proofs.Common.{ℕ, List, [], ◌∷◌, ◌++◌, refl, ap, ◌∙◌, append_assoc}
use Rattle.riichi_score.specs.Best.{best_of}
use Rattle.riichi_score.specs.Text.{win_text}
use Rattle.riichi_explain.specs.Explanation.{win_lines}
use Rattle.desk_lines.proofs.explained.put_best.Goals as goal

pub returns-clause-told : goal.returns-clause-told
returns-clause-told g c =
    let w = c.args.win.now in
    let explanation = c.explain_win-explanation.result in
    let why = win_lines explanation w in
    let before = c.args.outbox.now.bytes.items in
    let answer = win_text (best_of w) ++ 10 ∷ [] in
    let said = c.push_win.ensures ∙ ap (λ (t : List ℕ). t ++ win_text c.answer.result) c.clear.ensures ∙ ap win_text (c.answer.ensures ∙ c.explain_win-explanation.ensures.answer) in
    let told = c.put_text.ensures.told ∙ ap (λ (t : List ℕ). before ++ (t ++ 10 ∷ [])) said in
    let pushed = c.push_win_lines.ensures ∙ ap (λ (t : List ℕ). t ++ why) c.clear-2.ensures in (
      why,
      record { explanation = explanation; answer = c.explain_win-explanation.ensures.answer; explains = c.explain_win-explanation.ensures.explains; text_is = refl },
      c.put_why.ensures.told ∙ ap (λ (t : List ℕ). t ++ c.push_win_lines.new.text.bytes) told
          ∙ append_assoc before answer c.push_win_lines.new.text.bytes ∙ ap (λ (t : List ℕ). before ++ (answer ++ t)) pushed,
      c.reading-best.ensures,
    )
