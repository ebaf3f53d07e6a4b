use Rattle.std.proofs.Common.{length}
use Rattle.desk_hall.specs.Playing.{front_in, MayHave, Plays}
use Rattle.desk_hall.proofs.played.play_on.Given as goal

-- the text up to the rest is played
abbrev pub invariant-loop-most : goal.invariant-loop-most
invariant-loop-most g l = record {
  plays : Plays g.P.Position.reads (front_in l.fn.from) l.fn.text (front_in l.played) l.rest;
  few : MayHave l.most l.played.count;
}

abbrev pub decreases-loop-most : goal.decreases-loop-most
decreases-loop-most g l = length l.rest
