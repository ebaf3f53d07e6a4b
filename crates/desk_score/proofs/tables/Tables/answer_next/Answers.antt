use Rattle.std.proofs.Common.{◌≡◌, ◌∙◌, ℕ, Bool, List, length, ◌++◌, Option, is_some, map, option_map, ap, sym, append_assoc}
use Rattle.std.proofs.lemmas.Result.{on_ok_weaker}
use Rattle.desk_lines.specs.Lines.{lines}
use Rattle.desk_score.specs.Heads.{head_line}
use Rattle.desk_score.specs.Score.{head_of}
use Rattle.desk_score.specs.Shown.{answers_shown}
use Rattle.desk_score.proofs.ScoreLemmas.{score_by-last, names-is_some}
use Rattle.desk_score.proofs.tables.Tables.answer_next.Goals as goal

pub returns-in-Ok-clause-ok : goal.returns-in-Ok-clause-ok
returns-in-Ok-clause-ok g c =
    let names = option_map (λ names. map (λ name. name.now) names.now) c.args.names in
    let rules = c.args.rules in
    let old = c.args.self.now in
    let got = c.in-Ok.ensures.ok in
    let all = lines got.0 in
    let shown = answers_shown (is_some names) rules all in
    let numbered : c.is_some.result ≡ is_some names = c.is_some.ensures ∙ sym (names-is_some (λ names. map (λ name. name.now) names.now) c.args.names) in
    on_ok_weaker c.count_table.result (λ counted texts answered. (
      got.0,
      got.1,
      record {
        told = ap (λ paper. paper.text.items) c.count_table.ensures.same ∙ got.2
            ∙ ap (λ (b : Bool). c.put_head.new.self.text.items ++ answers_shown b rules all) numbered
            ∙ ap (λ front. front ++ shown) (c.in_ok-put_head.ensures ∙ ap (λ (name : Option (List ℕ)). old.answers.text.items ++ head_line old.count name) c.name_at-name.ensures)
            ∙ append_assoc old.answers.text.items (head_of names old.count) shown
            ∙ ap (λ (n : ℕ). old.answers.text.items ++ (head_of names n ++ shown)) answered.counted.count
            ∙ ap (λ before. before ++ (head_of names (length texts) ++ shown)) answered.told
            ∙ sym (score_by-last names rules texts got.0);
        counted = counted rules texts got.0 (record { count = answered.counted.count; limit = answered.counted.limit; report = answered.counted.report; slips = answered.counted.slips }) got.3;
      },
    )) c.count_table.ensures.ok
