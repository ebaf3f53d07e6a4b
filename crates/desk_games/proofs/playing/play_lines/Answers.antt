use Rattle.std.proofs.Common.{[]}
use Rattle.desk_games.proofs.PlayLemmas.{none_played, line_played, all_played}
use Rattle.desk_games.proofs.playing.play_lines.Goals as goal

pub loop-line-init : goal.loop-line-init
loop-line-init c = none_played c.new-games.result c.args.text.now c.new-games.ensures.numbered c.new-games.ensures.form

pub loop-line-preserved : goal.loop-line-preserved
loop-line-preserved c =
    let one = c.answer_alone-kind.ensures.reply in
    let next = c.in-Some.ensures in
    line_played c.new-games.result c.loop-line.games c.answer_alone-kind.new.games c.args.text.now c.loop-line.rest.now c.in-Some.line.now c.in-Some.after.now c.loop-line.lines c.loop-line.refused one.0
    c.answer_alone-kind.result [] c.answer_alone-kind.new.outbox.bytes.items c.loop-line.invariant next.0 next.1 c.answer_alone-kind.ensures.given one.1 one.2 c.refusals_of-refused.result c.refusals_of-refused.ensures.value c.refusals_of-refused.ensures.most

pub returns : goal.returns
returns c =
    all_played c.args.given c.into_desk.result c.new-games.result c.loop-line.games c.args.text.now c.loop-line.rest.now c.loop-line.lines c.loop-line.refused c.new-games.ensures.given c.into_desk.ensures
    c.new-games.ensures.desk c.requires c.in_default.ensures c.loop-line.invariant
