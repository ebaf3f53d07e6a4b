-- Laws of a game.
use Rattle.std.specs.Prelude.{◌≡◌, ℕ, ◌≤◌, ◌*◌, Bool, true, false, pos, ◌+ℤ◌, List, [], ◌∷◌, ◌++◌, Ok, Err}
use Rattle.riichi_table.specs.Players.{of_player}
use Rattle.riichi_table.specs.States.{first_state, all_points}
use Rattle.riichi_table.specs.declared.player.Player.{Player}
use Rattle.riichi_table.specs.declared.rules.TableRules.{TableRules}
use Rattle.riichi_table.specs.declared.state.GameState.{GameState}
use Rattle.riichi_table.specs.declared.fault.OutcomeFault.{OutcomeFault}
use Rattle.riichi_table.specs.declared.outcome.Outcome.{Outcome}
use Rattle.riichi_table.specs.declared.outcome.Outcome.TheVariants.{Penalty, Stands}
use Rattle.riichi_settle.specs.Settled.{change_by, moves_of}
use Rattle.riichi_game.specs.Faults.{are_kept, next_of}
use Rattle.riichi_game.specs.Following.{state_after}
use Rattle.riichi_game.specs.Games.{after_one, after_all}
use Rattle.riichi_game.specs.declared.game.Progress.{Progress}

-- the points of the four and 1000 for each stick are four times the start
abbrev pub HasAll : TableRules → GameState → Type 0
HasAll rules state = all_points state ≡ pos (4 * rules.start)

-- ---- nothing is lost or made

abbrev pub FirstHasAll : Type 0
FirstHasAll = (rules : TableRules) → rules.start ≤ 1000000 → HasAll rules (first_state rules)

-- nor by an outcome that is accepted
abbrev pub KeepsAll : Type 0
KeepsAll = (progress after : Progress) (rules : TableRules) (outcome : Outcome) → HasAll rules progress.state
    → next_of progress rules outcome ≡ Ok after → HasAll rules after.state

-- nor by any list of outcomes
abbrev pub KeepAll : Type 0
KeepAll = (progress : Progress) (rules : TableRules) (outcomes : List Outcome) → HasAll rules progress.state
    → HasAll rules (after_all progress rules outcomes).state

-- ---- one outcome after the other

-- an outcome that is refused changes nothing
abbrev pub RefusedChangesNothing : Type 0
RefusedChangesNothing = (progress : Progress) (rules : TableRules) (outcome : Outcome) (fault : OutcomeFault)
    → next_of progress rules outcome ≡ Err fault → after_one progress rules outcome ≡ progress

-- how far the game comes by more outcomes follows from how far it has come
abbrev pub GoesOnFromThere : Type 0
GoesOnFromThere = (progress : Progress) (rules : TableRules) (outcomes more : List Outcome)
    → after_all progress rules (outcomes ++ more) ≡ after_all (after_all progress rules outcomes) rules more

-- without the last outcome the game is as far as before it
abbrev pub LastComesLast : Type 0
LastComesLast = (progress : Progress) (rules : TableRules) (outcomes : List Outcome) (outcome : Outcome)
    → after_all progress rules (outcomes ++ outcome ∷ []) ≡ after_one (after_all progress rules outcomes) rules outcome

abbrev pub is_stands : Outcome → Bool
is_stands (Stands written) = true
is_stands other = false

-- an outcome is settled under the state that the table shows before it
abbrev pub SettledUnderItsState : Type 0
SettledUnderItsState = (progress after : Progress) (rules : TableRules) (outcome : Outcome) (player : Player)
    → is_stands outcome ≡ false → next_of progress rules outcome ≡ Ok after
    → of_player after.state.points player
    ≡ of_player progress.state.points player +ℤ change_by (moves_of progress.state rules outcome) player

-- and after a written state the table shows that
abbrev pub StandsAsWritten : Type 0
StandsAsWritten = (progress after : Progress) (rules : TableRules) (written : GameState)
    → next_of progress rules (Stands written) ≡ Ok after → after.state ≡ written

-- ---- what holds of every state

pub record IsInRoom (state : GameState) : Type 0 where
  pub counters : state.counters ≤ 99
  pub sticks : state.sticks ≤ 99
  pub points : are_kept state.points ≡ true

-- an accepted outcome leaves no more counters, sticks and points than a ledger keeps
abbrev pub StaysInRoom : Type 0
StaysInRoom = (progress after : Progress) (rules : TableRules) (outcome : Outcome) → next_of progress rules outcome ≡ Ok after
    → IsInRoom after.state

-- a penalty changes nothing that the table shows
abbrev pub PenaltyChangesNoState : Type 0
PenaltyChangesNoState = (state : GameState) (rules : TableRules) (player : Player) (points : ℕ) → state_after state rules (Penalty player points) ≡ state

-- nothing changes that the table shows once the game is over, and it stays over
abbrev pub OverStaysOver : Type 0
OverStaysOver = (progress : Progress) (rules : TableRules) (outcomes : List Outcome) → progress.is_over ≡ true
    → ((after_all progress rules outcomes).state ≡ progress.state) × ((after_all progress rules outcomes).is_over ≡ true)
