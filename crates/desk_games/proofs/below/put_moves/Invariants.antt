use Rattle.std.proofs.Common.{◌≡◌, ◌≤◌, ◌+◌, ◌*◌, ◌++◌, length, take}
use Rattle.desk_games.specs.Below.{moves_below, step_in}
use Rattle.desk_games.specs.Pending.{pending}
use Rattle.desk_games.specs.declared.below.TheConstants.{MOST_MOVED}
use Rattle.desk_games.proofs.below.put_moves.Given as goal

-- the moves so far stand below the answer
abbrev pub invariant-loop-moved : goal.invariant-loop-moved
invariant-loop-moved l =
    (pending l.outbox ≡ pending l.initial.outbox
    ++ moves_below (step_in l.step) (take l.moved-index l.moves))
    × (length (pending l.outbox) ≤ length (pending l.initial.outbox) + l.moved-index * MOST_MOVED)
