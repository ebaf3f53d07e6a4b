use Rattle.std.proofs.Common.{◌++◌, ◌-◌, flat_map, length, take, drop, sym, ap, ◌∙◌}
use Rattle.riichi_text.proofs.Items.{joined_items}
use Rattle.riichi_text.proofs.Pieces.{pushed-two}
use Rattle.riichi_text.proofs.list.push_list.Goals as goal

pub returns-in-len1-up-clause-bytes : goal.returns-in-len1-up-clause-bytes
returns-in-len1-up-clause-bytes g c =
    let text_of = g.T.ListItem.item_text in
    let old = c.args.text.now.bytes in
    let separator = c.args.separator.now in
    let others = flat_map (λ next. separator ++ text_of next) (take (length c.args.items.now - 1) (drop 1 c.args.items.now)) in
    pushed-two old (text_of c.first-item.result) others c.push.ensures.bytes c.push_more.ensures.bytes
    ∙ ap (λ all. old ++ all) (sym (joined_items separator text_of c.args.items.now c.first-item.result c.in-len1-up.len_at_least c.first-item.is))
