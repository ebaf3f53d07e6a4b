use Rattle.std.proofs.Common.{ℕ, List, [], ◌∷◌, ◌++◌, Option, refl, ap, subst, ◌∙◌, append_assoc}
use Rattle.riichi_split.specs.declared.reading.Reading.{Reading}
use Rattle.riichi_score.specs.Best.{best_of}
use Rattle.riichi_score.specs.Text.{win_text}
use Rattle.riichi_explain.specs.Explanation.{AreOthers}
use Rattle.desk_lines.proofs.explained.put_win.Goals as goal

pub returns-in-EveryReading : goal.returns-in-EveryReading
returns-in-EveryReading g c =
    let w = c.args.win.now in
    let put = c.put_best-best.ensures.told in
    let more = c.put_others.ensures in
    let before = c.args.outbox.now.bytes.items in
    let answer = win_text (best_of w) ++ 10 ∷ [] in
    rw c.in-EveryReading.is (
      put.0 ++ more.0,
      record {
        best = put.0;
        is_best = put.1;
        others = more.0;
        are_others = subst (λ (best : Option Reading). AreOthers best w more.0) put.3 more.1;
        text_is = refl;
      },
      more.2 ∙ ap (λ (t : List ℕ). t ++ more.0) put.2 ∙ append_assoc before (answer ++ put.0) more.0 ∙ ap (λ (t : List ℕ). before ++ t) (append_assoc answer put.0 more.0),
    )
