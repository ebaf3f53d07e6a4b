use Rattle.riichi_game_rows.proofs.PlayLemmas.{play_more, play_more_without_fault, play_refused, play_all}
use Rattle.riichi_game_rows.proofs.playing.play.Goals as goal

pub returns-in-Err : goal.returns-in-Err
returns-in-Err c =
    play_refused c.args.progress.now c.loop-accepted.reached c.args.rules.now c.args.rows.now c.loop-accepted.accepted _ c.after_row.result c.in-Err.fault
    c.loop-accepted.invariant.reached c.after_row.ensures c.in-Err.is c.loop-accepted-test.true c.loop-accepted.invariant.none_before

pub loop-accepted-preserved : goal.loop-accepted-preserved
loop-accepted-preserved c = record {
  reached = play_more c.args.progress.now c.loop-accepted.reached c.in-Ok.next c.args.rules.now c.args.rows.now c.loop-accepted.accepted _ c.after_row.result
      c.loop-accepted.invariant.reached c.after_row.ensures c.in-Ok.is c.loop-accepted-test.true;
  none_before = play_more_without_fault c.args.progress.now c.loop-accepted.reached c.in-Ok.next c.args.rules.now c.args.rows.now c.loop-accepted.accepted _ c.after_row.result
      c.loop-accepted.invariant.reached c.after_row.ensures c.in-Ok.is c.loop-accepted-test.true c.loop-accepted.invariant.none_before;
}

pub returns : goal.returns
returns c =
    play_all c.args.progress.now c.loop-accepted.reached c.args.rules.now c.args.rows.now c.loop-accepted.accepted
    c.loop-accepted.auto.accepted-end c.loop-accepted-test.false c.loop-accepted.invariant.reached c.loop-accepted.invariant.none_before
