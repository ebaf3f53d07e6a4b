use Rattle.std.proofs.Common.{codes}
use Rattle.riichi_explain.specs.Text.{payer_name, added_text, each_text, pay_row_text}
use Rattle.riichi_text.proofs.Pieces.{pushed-three}
use Rattle.riichi_explain.proofs.points_text.PayRowListItemREASONS_ROOM.push.Goals as goal

pub returns-clause-bytes : goal.returns-clause-bytes
unfolding pay_row_text
returns-clause-bytes c =
    let row = c.args.self.now in
    pushed-three c.args.text.now.bytes (payer_name row.payer) (added_text (codes " for counters = ") row.points row.counters) (each_text row.payer)
    c.push_payer.ensures.bytes c.push_added.ensures.bytes c.push_each.ensures.bytes
