use Rattle.std.proofs.Common.{rules, arith, ◌∙◌, ap, refl, length-set}
use Rattle.std.proofs.Math.Seq.{map-set_same}
use Rattle.desk_run.specs.declared.player.Player.{Player}
use Rattle.desk_run.proofs.Players.{done_none, done_more}
use Rattle.desk_run.proofs.playing.play_round.Goals as goal

pub loop-number-init : goal.loop-number-init
loop-number-init c = record {
  count = search rules;
  lists = refl;
  finished = λ _. done_none c.args.players.now.items;
}

pub returns-in_err-turn-clause-lists : goal.returns-in_err-turn-clause-lists
returns-in_err-turn-clause-lists c = let i = c.loop-number.invariant in
    map-set_same (λ (p : Player). p.jobs.now) c.loop-number.players.items c.loop-number.number _ c.index_mut.result.now (ap (λ b. b.now) c.turn.ensures.jobs ∙ ap (λ (p : Player). p.jobs.now) c.index_mut.ensures.value)
    ∙ i.lists

pub loop-number-preserved : goal.loop-number-preserved
loop-number-preserved c = let i = c.loop-number.invariant in record {
  count = length-set _ _ _ ∙ i.count;
  lists = map-set_same (λ (p : Player). p.jobs.now) c.loop-number.players.items c.loop-number.number _ c.index_mut.result.now (ap (λ b. b.now) c.turn.ensures.jobs ∙ ap (λ (p : Player). p.jobs.now) c.index_mut.ensures.value)
      ∙ i.lists;
  finished = λ done. let both = c.with-round.ensures done in
      done_more c.loop-number.number c.loop-number.players.items _ c.turn.new.self (i.finished both.0) refl (c.in_ok-turn.ensures.finished both.1);
}

pub returns-clause-lists : goal.returns-clause-lists
returns-clause-lists c = c.loop-number.invariant.lists

pub returns-clause-finished : goal.returns-clause-finished
returns-clause-finished c done i player lt at = let n = c.loop-number.invariant.count in let all = c.loop-number-test.false in c.loop-number.invariant.finished done i player (omega arith) at
