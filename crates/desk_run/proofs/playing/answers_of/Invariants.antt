use Rattle.std.proofs.Common.{◌≡◌, ◌+◌, ◌≤◌, ◌++◌, map, reverse, length, vec_len, vec_capacity}
use Rattle.desk_run.specs.Played.{values}
use Rattle.desk_run.specs.Players.{job_lists, AreDone}
use Rattle.desk_run.proofs.playing.answers_of.Given as goal

abbrev pub invariant-loop : goal.invariant-loop
invariant-loop l = record {
  count : vec_len l.players + l.counter ≡ l.end;
  room : vec_len l.answers + vec_len l.players ≤ vec_capacity l.answers;
  done : AreDone (length l.players.items) l.players.items;
  given : map (λ given. given.items) l.answers.items ++ reverse (map values (job_lists l.players.items)) ≡ reverse (map values (job_lists l.initial.players.items));
}
