-- What a taking answers, and leaves of the lane.
use Rattle.std.specs.Prelude.{◌≡◌, ◌+◌, ◌⊎◌, Bool, true, false, List, [], ◌∷◌}
use Rattle.desk_core.specs.Value.{value_of}
use Rattle.desk_core.specs.LaneState.{LaneState, PassesWithdrawn}
use Rattle.riichi_hand.specs.declared.job.Job.{Job}
use Rattle.desk_core.specs.declared.taken.Taken.{Taken}
use Rattle.desk_core.specs.declared.taken.Taken.TheVariants as taken

-- the value of the first job where its piece has arrived, and the withdrawn jobs behind it are
-- passed; else the lane stays: to wait where that
-- piece has not arrived or no job is left at an open table, and the end where none is left at a closed one
abbrev pub GivesFirst : LaneState → Taken → LaneState → Type 0
GivesFirst old (taken.Answer seq answer) new =
    (job : Job) × (rest : List (Job × Bool)) × (old.window ≡ (job, true) ∷ rest) × (seq ≡ old.next) × (answer ≡ value_of job)
    × PassesWithdrawn (record old { next = old.next + 1; window = rest }) new
GivesFirst old taken.Waiting new =
    (((job : Job) × (rest : List (Job × Bool)) × (old.window ≡ (job, false) ∷ rest)) ⊎ ((old.window ≡ []) × (old.closed ≡ false)))
    × (new ≡ old)
GivesFirst old taken.Finished new = (old.window ≡ []) × (old.closed ≡ true) × (new ≡ old)
