use Rattle.std.proofs.Common.{rules, arith, ◌∙◌, ◌++◌, ap, map, reverse, List}
use Rattle.std.specs.Global.{Vec}
use Rattle.desk_core.specs.declared.answer.Answer.{Answer}
use Rattle.desk_run.specs.Played.{values}
use Rattle.desk_run.specs.Players.{job_lists}
use Rattle.desk_run.proofs.Players.{done_last, done_fewer, given_more, given_out}
use Rattle.desk_run.proofs.playing.answers_of.Goals as goal

pub loop-init : goal.loop-init
loop-init c = record {
  count = search rules;
  room = search rules;
  done = c.requires.done;
  given = ap (λ (l : List (Vec Answer)). map (λ v. v.items) l ++ reverse (map values (job_lists c.args.players.items))) c.requires.room.0;
}

pub loop-preserved : goal.loop-preserved
loop-preserved c = let i = c.loop.invariant in let a = i.count in let r = i.room in let n = c.in-Some.ensures.len in let m = c.push_reserved.ensures.len in let s = c.push_reserved.ensures.capacity in record {
  count = omega arith;
  room = omega arith;
  done = done_fewer c.loop.players.items c.pop.new.self.items c.in-Some.player c.in-Some.ensures.items i.done;
  given = given_more c.loop.answers.items _ c.loop.players.items c.pop.new.self.items c.in-Some.player c.into_answers.result _ c.in-Some.ensures.items c.push_reserved.ensures.items
      (c.into_answers.ensures ∙ done_last c.loop.players.items c.pop.new.self.items c.in-Some.player c.in-Some.ensures.items i.done) i.given;
}

pub returns : goal.returns
returns c = let i = c.loop.invariant in let all = c.loop-test.false in let n = i.count in
    given_out _ c.loop.players.items _ (search rules) i.given
