use Rattle.std.proofs.Common.{◌++◌, codes, refl, sym, ap, ◌∙◌}
use Rattle.riichi_text.proofs.Pieces.{pushed-three}
use Rattle.desk_core.specs.declared.answer.Answer.TheVariants as answer
use Rattle.desk_json.specs.Text.{json_text, answer_json}
use Rattle.desk_json.specs.Trees.{Named}
use Rattle.desk_reasons.specs.Trees.{why_tree}
use Rattle.desk_reasons.proofs.Members.{why_member, win_more}
use Rattle.desk_reasons.proofs.why.push_explained_win.Goals as goal

pub returns : goal.returns
returns g c =
    let old = c.args.text.now.bytes in
    let opened = c.push_open_win.new.text.bytes in
    let explained = c.explain_ranked-explanation in
    let ranked = c.ranked_readings-ranked in
    let tree = why_tree explained.result ranked.result.items in
    let named : Named = (codes "why", tree) in
    let rules = c.args.win.now.rules in
    let whole = c.push_open_win.ensures.bytes ∙ ap (λ told. old ++ answer_json told (answer.Win c.answer.result)) c.rules.ensures
    ∙ ap (λ win. old ++ answer_json rules (answer.Win win)) (c.answer.ensures ∙ explained.ensures.answer) in
    let why = c.push_why.ensures.bytes ∙ ap (λ told. c.push_str.new.self.bytes ++ json_text (why_tree explained.result told)) c.as_slice-2.ensures.value in (
      _,
      record {
        explanation = explained.result;
        answer = explained.ensures.answer;
        explains = explained.ensures.explains;
        ranked = ranked.result.items;
        are_ranked = ranked.ensures.ranked;
        object_is = refl;
      },
      pushed-three opened (codes ",\"why\":") (json_text tree) (codes "}") c.push_str.ensures.bytes why c.push_str-2.ensures.bytes
          ∙ ap (λ t. opened ++ (t ++ codes "}")) (sym (why_member tree))
          ∙ win_more old opened rules _ named whole,
    )
