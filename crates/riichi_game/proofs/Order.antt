-- One outcome after the other.
use Rattle.std.proofs.Common.{◌≡◌, ℕ, ◌≤◌, Bool, true, false, not, ◌&&◌, nat_lt, [], ◌∷◌, ℤ, pos, ◌+ℤ◌, ◌-ℤ◌, Option, Some, None, Ok, refl, ◌∙◌, ap, arith}
use Rattle.std.proofs.lemmas.Bool.Decides.{nat_tests}
use Rattle.std.proofs.lemmas.Int.{ints}
use Rattle.riichi_table.specs.Players.{of_player, by_players}
use Rattle.riichi_table.specs.declared.player.Player.{Player}
use Rattle.riichi_table.specs.declared.player.Player.TheVariants.{First, Second, Third, Fourth}
use Rattle.riichi_table.specs.declared.player.ByPlayer.{ByPlayer}
use Rattle.riichi_table.specs.declared.rules.TableRules.{TableRules}
use Rattle.riichi_table.specs.declared.state.GameState.{GameState}
use Rattle.riichi_table.specs.declared.fault.OutcomeFault.{OutcomeFault}
use Rattle.riichi_table.specs.declared.outcome.Outcome.{Outcome}
use Rattle.riichi_table.specs.declared.outcome.Outcome.TheVariants.{Ron, Tsumo, Draw, Abort, Chombo, Penalty, Stands, End}
use Rattle.riichi_settle.specs.Settled.{change_by, sticks_by, moves_as_played, moves_of}
use Rattle.riichi_game.specs.Outcomes.{is_penalty}
use Rattle.riichi_game.specs.Following.{stays, counters_with, points_after, sticks_after, counters_after, round_by, dealer_by, state_after}
use Rattle.riichi_game.specs.Ends.{over_after}
use Rattle.riichi_game.specs.Faults.{are_kept, are_few, penalties_after, fault_of, progress_after, unless, next_of}
use Rattle.riichi_game.specs.Games.{or_as_before, after_one}
use Rattle.riichi_game.specs.Laws.{is_stands, RefusedChangesNothing, GoesOnFromThere, LastComesLast, SettledUnderItsState, StandsAsWritten, StaysInRoom, PenaltyChangesNoState, OverStaysOver}
use Rattle.riichi_game.proofs.Accepted.{accepted, no_fault, has_room}
use Rattle.riichi_game.specs.declared.game.Progress.{Progress}

pub refused_changes_nothing : RefusedChangesNothing
refused_changes_nothing progress rules outcome fault refused = ap (λ r. or_as_before r progress) refused

pub goes_on_from_there : GoesOnFromThere
goes_on_from_there progress rules [] more = refl
goes_on_from_there progress rules (outcome ∷ outcomes) more = goes_on_from_there (after_one progress rules outcome) rules outcomes more

pub last_comes_last : LastComesLast
last_comes_last progress rules outcomes outcome = goes_on_from_there progress rules outcomes (outcome ∷ [])

-- the next state where an outcome is accepted
next_state : (progress after : Progress) (rules : TableRules) (outcome : Outcome) → next_of progress rules outcome ≡ Ok after
    → after.state ≡ state_after progress.state rules outcome
unfolding progress_after
next_state progress after rules outcome ok =
    ap (λ (p : Progress). p.state) (accepted (fault_of progress rules outcome) (progress_after progress rules outcome) after ok)

points_of_four : (points : ByPlayer ℤ) (change : Player → ℤ) (player : Player)
    → of_player (by_players (λ one. of_player points one +ℤ change one)) player ≡ of_player points player +ℤ change player
points_of_four points change First = refl
points_of_four points change Second = refl
points_of_four points change Third = refl
points_of_four points change Fourth = refl

points_move : (state : GameState) (rules : TableRules) (outcome : Outcome) (player : Player) → is_stands outcome ≡ false
    → of_player (points_after state rules outcome) player ≡ of_player state.points player +ℤ change_by (moves_of state rules outcome) player
unfolding points_after
points_move state rules (Ron from wins riichi) player deal = points_of_four state.points (change_by (moves_of state rules (Ron from wins riichi))) player
points_move state rules (Tsumo winner win riichi) player deal = points_of_four state.points (change_by (moves_of state rules (Tsumo winner win riichi))) player
points_move state rules (Draw ready nagashi riichi) player deal = points_of_four state.points (change_by (moves_of state rules (Draw ready nagashi riichi))) player
points_move state rules (Abort riichi) player deal = points_of_four state.points (change_by (moves_of state rules (Abort riichi))) player
points_move state rules (Chombo one) player deal = points_of_four state.points (change_by (moves_of state rules (Chombo one))) player
points_move state rules (Penalty one points) player deal = points_of_four state.points (change_by (moves_of state rules (Penalty one points))) player
points_move state rules (Stands written) player deal = absurd (cc)
points_move state rules End player deal = points_of_four state.points (change_by (moves_of state rules End)) player

pub settled_under_its_state : SettledUnderItsState
settled_under_its_state progress after rules outcome player deal ok =
    ap (λ (state : GameState). of_player state.points player) (next_state progress after rules outcome ok) ∙ points_move progress.state rules outcome player deal

written_state : (state : GameState) (rules : TableRules) (written : GameState) → state_after state rules (Stands written) ≡ written
unfolding points_after sticks_after counters_with round_by dealer_by
written_state state rules written = refl

pub stands_as_written : StandsAsWritten
stands_as_written progress after rules written ok =
    next_state progress after rules (Stands written) ok ∙ written_state progress.state rules written

-- ---- room

at_most : (n : ℕ) → nat_lt 99 n ≡ false → n ≤ 99
at_most n h = grind (arith, nat_tests)

both_left : (one other : Bool) → not (one && other) ≡ false → one ≡ true
both_left true other h = refl
both_left false other h = absurd (cc)

pub stays_in_room : StaysInRoom
stays_in_room progress after rules outcome ok =
    let none = no_fault (fault_of progress rules outcome) (progress_after progress rules outcome) after ok in
    let room = has_room progress rules outcome none in
    let next = next_state progress after rules outcome ok in
    let counters : after.state.counters ≡ counters_after progress.state rules outcome = ap (λ (state : GameState). state.counters) next in
    let sticks : after.state.sticks ≡ sticks_after progress.state rules outcome = ap (λ (state : GameState). state.sticks) next in
    let few : counters_after progress.state rules outcome ≤ 99 = at_most (counters_after progress.state rules outcome) room.counters in
    let few_sticks : sticks_after progress.state rules outcome ≤ 99 = at_most (sticks_after progress.state rules outcome) room.sticks in
    record {
      counters = omega arith;
      sticks = omega arith;
      points = ap (λ (state : GameState). are_kept state.points) next
          ∙ both_left (are_kept (points_after progress.state rules outcome)) (are_few (penalties_after progress.penalties rules outcome)) room.points;
    }

-- ---- penalties, and a game that is over

nothing_added : (points : ℤ) → points +ℤ (pos 0 -ℤ pos 0) ≡ points
nothing_added points = omega (arith, ints)

same_points : (points : ByPlayer ℤ) → by_players (λ player. of_player points player +ℤ (pos 0 -ℤ pos 0)) ≡ points
same_points points = λ k. record { first = nothing_added points.first k; second = nothing_added points.second k; third = nothing_added points.third k; fourth = nothing_added points.fourth k }

same_sticks : (sticks : ℕ) → sticks_by sticks [] ≡ sticks
unfolding sticks_by
same_sticks sticks = omega arith

penalty_points : (state : GameState) (rules : TableRules) (player : Player) (points : ℕ) → points_after state rules (Penalty player points) ≡ state.points
unfolding points_after moves_of moves_as_played change_by
penalty_points state rules player points = same_points state.points

penalty_sticks : (state : GameState) (rules : TableRules) (player : Player) (points : ℕ) → sticks_after state rules (Penalty player points) ≡ state.sticks
unfolding sticks_after moves_of moves_as_played
penalty_sticks state rules player points = same_sticks state.sticks

pub penalty_changes_no_state : PenaltyChangesNoState
unfolding counters_with round_by dealer_by stays
penalty_changes_no_state state rules player points =
    λ k. record {
      points = penalty_points state rules player points k;
      round = state.round;
      dealer = state.dealer;
      counters = state.counters;
      sticks = penalty_sticks state rules player points k;
    }

-- that the table shows the same, and the game is over
record IsSame (progress after : Progress) : Type 0 where
  state : after.state ≡ progress.state
  is_over : after.is_over ≡ true

must_be_penalty : (progress : Progress) (rules : TableRules) (outcome : Outcome) → progress.is_over ≡ true → fault_of progress rules outcome ≡ None → is_penalty outcome ≡ true
must_be_penalty progress rules outcome over none =
    let room = has_room progress rules outcome none in
    let h : progress.is_over && not (is_penalty outcome) ≡ false = room.goes_on in
    grind (arith)

penalty_same : (progress : Progress) (rules : TableRules) (outcome : Outcome) → progress.is_over ≡ true → is_penalty outcome ≡ true
    → IsSame progress (progress_after progress rules outcome)
unfolding progress_after over_after
penalty_same progress rules (Penalty player points) over penalty = record { state = penalty_changes_no_state progress.state rules player points; is_over = over }
penalty_same progress rules (Ron from wins riichi) over penalty = absurd (cc)
penalty_same progress rules (Tsumo winner win riichi) over penalty = absurd (cc)
penalty_same progress rules (Draw ready nagashi riichi) over penalty = absurd (cc)
penalty_same progress rules (Abort riichi) over penalty = absurd (cc)
penalty_same progress rules (Chombo player) over penalty = absurd (cc)
penalty_same progress rules (Stands written) over penalty = absurd (cc)
penalty_same progress rules End over penalty = absurd (cc)

either_same : (fault : Option OutcomeFault) (progress after : Progress) → progress.is_over ≡ true → (fault ≡ None → IsSame progress after)
    → IsSame progress (or_as_before (unless fault after) progress)
either_same None progress after over same = same refl
either_same (Some fault) progress after over same = record { state = refl; is_over = over }

one_same : (progress : Progress) (rules : TableRules) (outcome : Outcome) → progress.is_over ≡ true → IsSame progress (after_one progress rules outcome)
one_same progress rules outcome over =
    either_same (fault_of progress rules outcome) progress (progress_after progress rules outcome) over
    (λ none. penalty_same progress rules outcome over (must_be_penalty progress rules outcome over none))

pub over_stays_over : OverStaysOver
over_stays_over progress rules [] over = (refl, over)
over_stays_over progress rules (outcome ∷ outcomes) over =
    let one = one_same progress rules outcome over in
    let rest = over_stays_over (after_one progress rules outcome) rules outcomes one.is_over in
    (rest.0 ∙ one.state, rest.1)
