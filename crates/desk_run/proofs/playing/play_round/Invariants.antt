use Rattle.std.proofs.Common.{◌≡◌, length}
use Rattle.desk_run.specs.Players.{job_lists, AreDone}
use Rattle.desk_run.specs.declared.player.Turn.TheVariants as turn
use Rattle.desk_run.proofs.playing.play_round.Given as goal

abbrev pub invariant-loop-number : goal.invariant-loop-number
invariant-loop-number l = record {
  count : length l.players.items ≡ l.number-end;
  lists : job_lists l.players.items ≡ job_lists l.initial.players.items;
  finished : l.round ≡ turn.Finished → AreDone l.number l.players.items;
}
