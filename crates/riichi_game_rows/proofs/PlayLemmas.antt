-- A game goes on by one row more.
use Rattle.std.proofs.Common.{◌≡◌, ℕ, ◌+◌, ◌<◌, List, [], ◌∷◌, ◌++◌, length, take, get_or, Option, Some, None, Result, Ok, Err, refl, sym, ap, ◌∙◌, add-one, below_more, ◌≤◌, arith}
use Rattle.std.proofs.Math.Seq.{take-suc}
use Rattle.std.proofs.lemmas.List.Elements.{filter_map-append}
use Rattle.std.proofs.lemmas.Option.{slice_get-get_or, slice_get_past}
use Rattle.std.specs.List.{filter_map, cons_option}
use Rattle.std.specs.Prelude.{slice_get}
use Rattle.riichi_table.specs.declared.rules.TableRules.{TableRules}
use Rattle.riichi_table.specs.declared.fault.OutcomeFault.{OutcomeFault}
use Rattle.riichi_table.specs.declared.outcome.Outcome.{Outcome}
use Rattle.riichi_game.specs.Faults.{fault_of, progress_after, unless, next_of}
use Rattle.riichi_game.specs.Games.{or_as_before, after_all}
use Rattle.riichi_game.specs.declared.game.Progress.{Progress}
use Rattle.riichi_game.proofs.Order.{goes_on_from_there}
use Rattle.riichi_game_rows.specs.OutcomeRows.{outcome_in}
use Rattle.riichi_game_rows.specs.Playing.{row_fault_of, fault_by, or_refused, after_by, after_row, progress_at, fault_there, fault_behind, IsPlayedByRows}
use Rattle.riichi_game_rows.specs.declared.fault_numbers.RowFault.{RowFault}
use Rattle.riichi_game_rows.specs.declared.outcome_row.OutcomeRow.{OutcomeRow}

-- ---- one outcome, or none

kept : (next : Result Progress OutcomeFault) (before after : Progress) → or_refused next ≡ Ok after → or_as_before next before ≡ after
kept (Ok next) before after ok = cc
kept (Err fault) before after ok = absurd (cc)

one_more : (before after : Progress) (rules : TableRules) (outcome : Option Outcome) → after_by before rules outcome ≡ Ok after
    → after_all before rules (cons_option outcome []) ≡ after
one_more before after rules None ok = absurd (cc)
one_more before after rules (Some outcome) ok = kept (next_of before rules outcome) before after ok

none_of : (fault : Option OutcomeFault) (value after : Progress) → or_refused (unless fault value) ≡ Ok after → row_fault_of fault ≡ None
none_of None value after ok = refl
none_of (Some fault) value after ok = absurd (cc)

no_fault : (before after : Progress) (rules : TableRules) (outcome : Option Outcome) → after_by before rules outcome ≡ Ok after
    → fault_by before rules outcome ≡ None
no_fault before after rules None ok = absurd (cc)
no_fault before after rules (Some outcome) ok = none_of (fault_of before rules outcome) (progress_after before rules outcome) after ok

some_of : (fault : Option OutcomeFault) (value : Progress) (told : RowFault) → or_refused (unless fault value) ≡ Err told → row_fault_of fault ≡ Some told
some_of None value told err = absurd (cc)
some_of (Some fault) value told err = cc

a_fault : (before : Progress) (rules : TableRules) (outcome : Option Outcome) (told : RowFault) → after_by before rules outcome ≡ Err told
    → fault_by before rules outcome ≡ Some told
a_fault before rules None told err = cc
a_fault before rules (Some outcome) told err = some_of (fault_of before rules outcome) (progress_after before rules outcome) told err

-- ---- rows

module _ (progress : Progress) (rules : TableRules) (rows : List OutcomeRow) (place : ℕ) (none : OutcomeRow) (inside : place < length rows) where
  there : slice_get rows place ≡ Some (get_or rows place none)
  there = slice_get-get_or rows place none inside

  outcomes_more : filter_map outcome_in (take (place + 1) rows) ≡ filter_map outcome_in (take place rows) ++ filter_map outcome_in (get_or rows place none ∷ [])
  outcomes_more =
      ap (λ n. filter_map outcome_in (take n rows)) (add-one place)
      ∙ ap (filter_map outcome_in) (take-suc rows place none inside)
      ∙ filter_map-append outcome_in (take place rows) (get_or rows place none ∷ [])

  row_accepted : (after : Progress) → after_row (progress_at progress rules rows place) rules (get_or rows place none) ≡ Ok after
      → after ≡ progress_at progress rules rows (place + 1)
  row_accepted after ok =
      sym (ap (after_all progress rules) outcomes_more
      ∙ goes_on_from_there progress rules (filter_map outcome_in (take place rows)) (filter_map outcome_in (get_or rows place none ∷ []))
      ∙ one_more (progress_at progress rules rows place) after rules (outcome_in (get_or rows place none)) ok)

  row_without_fault : (after : Progress) → after_row (progress_at progress rules rows place) rules (get_or rows place none) ≡ Ok after
      → fault_behind progress rules rows place ≡ None
  row_without_fault after ok =
      ap (fault_there (progress_at progress rules rows place) rules) there
      ∙ no_fault (progress_at progress rules rows place) after rules (outcome_in (get_or rows place none)) ok

  row_refused : (told : RowFault) → after_row (progress_at progress rules rows place) rules (get_or rows place none) ≡ Err told
      → fault_behind progress rules rows place ≡ Some told
  row_refused told err =
      ap (fault_there (progress_at progress rules rows place) rules) there
      ∙ a_fault (progress_at progress rules rows place) rules (outcome_in (get_or rows place none)) told err

-- ---- the steps of a game

-- what is told of a row where the game has come so far
at_place : (progress reached : Progress) (rules : TableRules) (rows : List OutcomeRow) (place : ℕ) (row : OutcomeRow) (result : Result Progress RowFault)
    → reached ≡ progress_at progress rules rows place → result ≡ after_row reached rules row → after_row (progress_at progress rules rows place) rules row ≡ result
at_place progress reached rules rows place row result there is = sym (ap (λ one. after_row one rules row) there) ∙ sym is

pub play_more : (progress reached after : Progress) (rules : TableRules) (rows : List OutcomeRow) (place : ℕ) (none : OutcomeRow) (result : Result Progress RowFault)
    → reached ≡ progress_at progress rules rows place → result ≡ after_row reached rules (get_or rows place none) → result ≡ Ok after
    → place < length rows → after ≡ progress_at progress rules rows (place + 1)
play_more progress reached after rules rows place none result there is ok inside =
    row_accepted progress rules rows place none inside after (at_place progress reached rules rows place (get_or rows place none) result there is ∙ ok)

pub play_more_without_fault : (progress reached after : Progress) (rules : TableRules) (rows : List OutcomeRow) (place : ℕ) (none : OutcomeRow) (result : Result Progress RowFault)
    → reached ≡ progress_at progress rules rows place → result ≡ after_row reached rules (get_or rows place none) → result ≡ Ok after
    → place < length rows → ((number : ℕ) → number < place → fault_behind progress rules rows number ≡ None)
    → (number : ℕ) → number < place + 1 → fault_behind progress rules rows number ≡ None
play_more_without_fault progress reached after rules rows place none result there is ok inside before =
    below_more _ _ before
    (row_without_fault progress rules rows place none inside after (at_place progress reached rules rows place (get_or rows place none) result there is ∙ ok))

pub play_refused : (progress reached : Progress) (rules : TableRules) (rows : List OutcomeRow) (place : ℕ) (none : OutcomeRow) (result : Result Progress RowFault) (fault : RowFault)
    → reached ≡ progress_at progress rules rows place → result ≡ after_row reached rules (get_or rows place none) → result ≡ Err fault
    → place < length rows → ((number : ℕ) → number < place → fault_behind progress rules rows number ≡ None)
    → IsPlayedByRows progress rules rows (record { progress = reached; accepted = place; fault = Some fault })
play_refused progress reached rules rows place none result fault there is err inside before = record {
  some = omega arith;
  none_before = before;
  fault_is = sym (row_refused progress rules rows place none inside fault (at_place progress reached rules rows place (get_or rows place none) result there is ∙ err));
  all = λ without. absurd (cc);
  progress_is = there;
}

-- there is no row behind the last
behind_last : (progress : Progress) (rules : TableRules) (rows : List OutcomeRow) → fault_behind progress rules rows (length rows) ≡ None
behind_last progress rules rows =
    ap (fault_there (progress_at progress rules rows (length rows)) rules) (slice_get_past rows (length rows) (omega arith))

pub play_all : (progress reached : Progress) (rules : TableRules) (rows : List OutcomeRow) (place : ℕ) → place ≤ length rows → length rows ≤ place
    → reached ≡ progress_at progress rules rows place → ((number : ℕ) → number < place → fault_behind progress rules rows number ≡ None)
    → IsPlayedByRows progress rules rows (record { progress = reached; accepted = length rows; fault = None })
play_all progress reached rules rows place few all there before =
    let same : place ≡ length rows = omega arith in
    record {
      some = omega arith;
      none_before = λ number inside. before number (omega (arith, inside, same));
      fault_is = sym (behind_last progress rules rows);
      all = λ without. refl;
      progress_is = there ∙ ap (progress_at progress rules rows) same;
    }
