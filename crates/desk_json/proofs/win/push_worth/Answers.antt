use Rattle.std.proofs.Common.{◌++◌, ap, ◌∙◌, decimal}
use Rattle.std.specs.Prelude.{codes}
use Rattle.riichi_yaku.specs.YakuSets.{is_yakuman}
use Rattle.desk_json.specs.Parts.{truth_json, worth_json}
use Rattle.desk_json.proofs.Behind.{eight}
use Rattle.desk_json.proofs.win.push_worth.Goals as goal

pub returns-clause-bytes : goal.returns-clause-bytes
unfolding worth_json
returns-clause-bytes c =
    let score = c.args.score.now in
    c.push_after-3.ensures.bytes
    ∙ ap (λ n. (c.push_after-2.new.text.bytes ++ codes ",\"dora\":") ++ decimal n) c.from-3.ensures
    ∙ ap (λ t. (t ++ codes ",\"dora\":") ++ decimal score.dora) (c.push_after-2.ensures.bytes
    ∙ ap (λ n. (c.push_after.new.text.bytes ++ codes ",\"fu\":") ++ decimal n) c.from-2.ensures
    ∙ ap (λ t. (t ++ codes ",\"fu\":") ++ decimal score.fu) (c.push_after.ensures.bytes
    ∙ ap (λ n. (c.push_str-2.new.self.bytes ++ codes ",\"han\":") ++ decimal n) c.from.ensures
    ∙ ap (λ t. (t ++ codes ",\"han\":") ++ decimal score.han) (c.push_str-2.ensures.bytes
    ∙ ap (λ s. c.push_str.new.self.bytes ++ s) (c.truth_text.ensures.value ∙ ap truth_json c.is_yakuman.ensures)
    ∙ ap (λ t. t ++ truth_json (is_yakuman score.yaku)) c.push_str.ensures.bytes)))
    ∙ eight c.args.text.now.bytes (codes "{\"answer\":\"won\",\"yakuman\":") (truth_json (is_yakuman score.yaku)) (codes ",\"han\":") (decimal score.han)
    (codes ",\"fu\":") (decimal score.fu) (codes ",\"dora\":") (decimal score.dora)
