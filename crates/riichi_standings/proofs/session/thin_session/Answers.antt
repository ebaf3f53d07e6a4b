use Rattle.std.proofs.Common.{ℕ, ◌≤◌, ◌+◌, arith}
use borrow.Author.Count.{below_more}
use Rattle.riichi_standings.specs.Sessions.{first_session, players_in}
use Rattle.riichi_standings.proofs.session.thin_session.Goals as goal

pub loop-before-preserved : goal.loop-before-preserved
loop-before-preserved c =
    let results = c.args.results.now in
    λ k from below. below_more (λ (k : ℕ). first_session results ≤ k → players_in k results ≤ players_in (k + 1) results) c.loop-before.before (λ k below from. c.loop-before.invariant k from below)
    (λ from. omega (arith, c.if-seats_in.false, c.seats_in.ensures, c.seats_in-in-loop-before.ensures)) k below from
