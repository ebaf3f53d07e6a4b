-- The sessions of a tournament.
use Rattle.std.specs.Prelude.{◌≡◌, ℕ, ◌==◌, ◌+◌, ◌<◌, ◌≤◌, List, Bool, false, nat_lt, Option, None, Some, fold, count_by, if◌then◌else◌}
use Rattle.riichi_standings.specs.declared.result.SeatResult.{SeatResult}

abbrev pub earlier_session : ℕ → Option ℕ → ℕ
earlier_session first None = first
earlier_session first (Some session) = if nat_lt session first then session else first

abbrev pub later_session : ℕ → Option ℕ → ℕ
later_session last None = last
later_session last (Some session) = if nat_lt last session then session else last

-- the first session of which there is a result; of none the greatest number
abbrev pub first_session : List SeatResult → ℕ
first_session results = fold (λ first seat. earlier_session first seat.session) 4294967295 results

-- the last session of which there is a result; of none 0
abbrev pub last_session : List SeatResult → ℕ
last_session results = fold (λ last seat. later_session last seat.session) 0 results

abbrev pub said_as : ℕ → Option ℕ → Bool
said_as session None = false
said_as session (Some own) = own == session

-- a result is of a session
abbrev pub is_in : ℕ → SeatResult → Bool
is_in session seat = said_as session seat.session

-- how many players have a result of a session
abbrev pub players_in : ℕ → List SeatResult → ℕ
players_in session results = count_by (is_in session) results

-- fewer players have a result of the session than of the one before it
abbrev pub IsThin : List SeatResult → ℕ → Type 0
IsThin results session = (before : ℕ) × (session ≡ before + 1) × (players_in session results < players_in before results)

-- of no session behind the first, up to the last
abbrev pub NoneIsThin : List SeatResult → Type 0
NoneIsThin results = (before : ℕ) → first_session results ≤ before → before < last_session results → players_in before results ≤ players_in (before + 1) results
