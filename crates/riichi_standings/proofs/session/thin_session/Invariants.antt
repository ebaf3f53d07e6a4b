use Rattle.std.proofs.Common.{ℕ, ◌≤◌, ◌<◌, ◌+◌}
use Rattle.riichi_standings.specs.Sessions.{first_session, players_in}
use Rattle.riichi_standings.proofs.session.thin_session.Given as goal

-- none of the sessions so far is thin
abbrev pub invariant-loop-before : goal.invariant-loop-before
invariant-loop-before l = (k : ℕ) → first_session l.results ≤ k → k < l.before → players_in k l.results ≤ players_in (k + 1) l.results
