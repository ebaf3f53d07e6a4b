use Rattle.std.proofs.Common.{arith}
use Rattle.desk_run.proofs.Plays.{played_given, room_for}
use Rattle.desk_run.proofs.player.take_next.Goals as goal

pub add_answer-requires : goal.add_answer-requires
add_answer-requires c = let r = room_for _ _ _ _ c.in-Answer.seq _ c.in-Answer.answer c.in-Answer.ensures.first c.requires.played in let m = c.requires.room in omega arith

pub returns-in-Answer-clause-played : goal.returns-in-Answer-clause-played
returns-in-Answer-clause-played c = played_given _ _ _ _ c.in-Answer.seq _ _ c.in-Answer.answer c.in-Answer.ensures.first c.add_answer.ensures.items c.requires.played
