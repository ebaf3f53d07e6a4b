use Rattle.std.proofs.Common.{rules, arith, ◌∙◌}
use Rattle.desk_run.proofs.Parting.{last_table, fewer_tables}
use Rattle.desk_run.proofs.Players.{seated_none, seated_more, seated_all}
use Rattle.desk_run.proofs.playing.seat_all.Goals as goal

pub loop-table-init : goal.loop-table-init
loop-table-init c = record {
  tables = c.requires.tables;
  counts = search rules;
  lists = seated_none c.args.jobs.now c.in_ok-players.players.items c.in_ok-players.ensures.items;
}

pub new-requires-clause-here : goal.new-requires-clause-here
new-requires-clause-here c = let i = c.loop-table.invariant in
    (last_table _ _ _ _ _ i.tables.1 c.in-Some.ensures.items).0

pub new-requires-clause-new : goal.new-requires-clause-new
new-requires-clause-new c = let i = c.loop-table.invariant in
    (_, (last_table _ _ _ _ _ i.tables.1 c.in-Some.ensures.items).1)

pub loop-table-preserved : goal.loop-table-preserved
loop-table-preserved c = let i = c.loop-table.invariant in let n = i.counts in let some_left = c.loop-table-test.true in record {
  tables = (i.tables.0, fewer_tables _ _ _ _ _ i.tables.1 c.in-Some.ensures.items);
  counts = (let a = c.in-Some.ensures.len in let b = c.push_reserved.ensures.len in let r = c.push_reserved.ensures.capacity in (omega arith, omega arith, omega arith));
  lists = seated_more c.args.jobs.now c.loop-table.table _ c.loop-table.players.items _ c.in_ok-player.player c.index-jobs-table.result some_left (omega arith) c.index-jobs-table.is
      (c.in_ok-player.ensures ∙ c.as_slice.ensures.value) c.push_reserved.ensures.items i.lists;
}

pub returns : goal.returns
returns c = let none = c.loop-table-test.false in seated_all c.args.jobs.now c.loop-table.table _ _ (omega arith) c.loop-table.invariant.lists
