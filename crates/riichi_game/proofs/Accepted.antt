-- What is known of an outcome that is accepted.
use Rattle.std.proofs.Common.{◌≡◌, Bool, true, false, not, ◌&&◌, nat_lt, List, [], ◌∷◌, Option, Some, None, Ok, refl}
use Rattle.riichi_table.specs.declared.rules.TableRules.{TableRules}
use Rattle.riichi_table.specs.declared.fault.OutcomeFault.{OutcomeFault}
use Rattle.riichi_table.specs.declared.fault.OutcomeFault.TheVariants as fault
use Rattle.riichi_table.specs.declared.outcome.Outcome.{Outcome}
use Rattle.riichi_game.specs.Outcomes.{is_penalty}
use Rattle.riichi_game.specs.Line.{fault_if, first_outcome_fault, line_fault}
use Rattle.riichi_game.specs.Following.{counters_after, sticks_after}
use Rattle.riichi_game.specs.Faults.{bet_of_too_few, riichi_not_ready, has_wrong_total, has_wrong_round, table_fault, points_fit, room_fault, either, fault_of, unless}
use Rattle.riichi_game.specs.declared.game.Progress.{Progress}

-- a value that is accepted
pub accepted : {T : Type 0} (fault : Option OutcomeFault) (value after : T) → unless fault value ≡ Ok after → after ≡ value
accepted None value after h = cc
accepted (Some fault) value after h = absurd (cc)

pub no_fault : {T : Type 0} (fault : Option OutcomeFault) (value after : T) → unless fault value ≡ Ok after → fault ≡ None
no_fault None value after h = refl
no_fault (Some fault) value after h = absurd (cc)

-- ---- lists of faults

holds_not : (holds : Bool) (fault : OutcomeFault) (rest : List (Option OutcomeFault)) → first_outcome_fault (fault_if fault holds ∷ rest) ≡ None → holds ≡ false
holds_not true fault rest h = absurd (cc)
holds_not false fault rest h = refl

rest_not : (holds : Bool) (fault : OutcomeFault) (rest : List (Option OutcomeFault)) → first_outcome_fault (fault_if fault holds ∷ rest) ≡ None → first_outcome_fault rest ≡ None
rest_not true fault rest h = absurd (cc)
rest_not false fault rest h = h

either_first : (one other : Option OutcomeFault) → either one other ≡ None → one ≡ None
either_first None other h = refl
either_first (Some fault) other h = absurd (cc)

either_other : (one other : Option OutcomeFault) → either one other ≡ None → other ≡ None
either_other None other h = h
either_other (Some fault) other h = absurd (cc)

-- ---- the tests of an outcome

table_none : (progress : Progress) (rules : TableRules) (outcome : Outcome) → fault_of progress rules outcome ≡ None → table_fault progress.state rules outcome ≡ None
unfolding fault_of
table_none progress rules outcome h =
    either_first (table_fault progress.state rules outcome) (room_fault progress rules outcome)
    (either_other (line_fault rules outcome) (either (table_fault progress.state rules outcome) (room_fault progress rules outcome)) h)

room_none : (progress : Progress) (rules : TableRules) (outcome : Outcome) → fault_of progress rules outcome ≡ None → room_fault progress rules outcome ≡ None
unfolding fault_of
room_none progress rules outcome h =
    either_other (table_fault progress.state rules outcome) (room_fault progress rules outcome)
    (either_other (line_fault rules outcome) (either (table_fault progress.state rules outcome) (room_fault progress rules outcome)) h)

total_none : (progress : Progress) (rules : TableRules) (outcome : Outcome) → table_fault progress.state rules outcome ≡ None → has_wrong_total rules outcome ≡ false
unfolding table_fault
total_none progress rules outcome h =
    let last = fault_if fault.StandsRound (has_wrong_round rules outcome) ∷ [] in
    let third = fault_if fault.StandsSum (has_wrong_total rules outcome) ∷ last in
    let second = fault_if fault.RiichiNotReady (riichi_not_ready outcome) ∷ third in
    holds_not (has_wrong_total rules outcome) fault.StandsSum last
    (rest_not (riichi_not_ready outcome) fault.RiichiNotReady third
    (rest_not (rules.bust && bet_of_too_few progress.state outcome) fault.BetOfTooFew second h))

pub right_total : (progress : Progress) (rules : TableRules) (outcome : Outcome) → fault_of progress rules outcome ≡ None → has_wrong_total rules outcome ≡ false
right_total progress rules outcome h = total_none progress rules outcome (table_none progress rules outcome h)

pub record HasRoom (progress : Progress) (rules : TableRules) (outcome : Outcome) : Type 0 where
  pub counters : nat_lt 99 (counters_after progress.state rules outcome) ≡ false
  pub sticks : nat_lt 99 (sticks_after progress.state rules outcome) ≡ false
  pub points : not (points_fit progress rules outcome) ≡ false
  pub goes_on : progress.is_over && not (is_penalty outcome) ≡ false

room_is : (progress : Progress) (rules : TableRules) (outcome : Outcome) → room_fault progress rules outcome ≡ None → HasRoom progress rules outcome
unfolding room_fault
room_is progress rules outcome h =
    let over = progress.is_over && not (is_penalty outcome) in
    let misfit = not (points_fit progress rules outcome) in
    let many_sticks = nat_lt 99 (sticks_after progress.state rules outcome) in
    let many_counters = nat_lt 99 (counters_after progress.state rules outcome) in
    let fourth = fault_if fault.GameOver over ∷ [] in
    let third = fault_if fault.OverPoints misfit ∷ fourth in
    let second = fault_if fault.OverSticks many_sticks ∷ third in
    let one = rest_not many_counters fault.OverCounters second h in
    let two = rest_not many_sticks fault.OverSticks third one in
    let three = rest_not misfit fault.OverPoints fourth two in
    record {
      counters = holds_not many_counters fault.OverCounters second h;
      sticks = holds_not many_sticks fault.OverSticks third one;
      points = holds_not misfit fault.OverPoints fourth two;
      goes_on = holds_not over fault.GameOver [] three;
    }

pub has_room : (progress : Progress) (rules : TableRules) (outcome : Outcome) → fault_of progress rules outcome ≡ None → HasRoom progress rules outcome
has_room progress rules outcome h = room_is progress rules outcome (room_none progress rules outcome h)
