-- What has been brought to its place only changed places.
use Rattle.std.proofs.Common.{IsPermutation}
use Rattle.riichi_seats.proofs.session.arranged.Given as goal

abbrev pub invariant-loop-place : goal.invariant-loop-place
invariant-loop-place l = IsPermutation l.initial.order.items l.order.items
