use Rattle.std.proofs.Common.{◌∙◌}
use Rattle.desk_run.proofs.Plays.{played_collected}
use Rattle.desk_run.proofs.player.Player.collect.Goals as goal

pub invariant_of-self : goal.invariant_of-self
invariant_of-self c = record {
  here = c.collect.ensures.same.0 ∙ c.args.self.now.here;
  room = c.args.self.now.room;
  played = played_collected _ _ _ _ _ _ _ _ c.collect.ensures.arrived c.args.self.now.played;
}
