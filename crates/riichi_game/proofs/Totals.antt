-- No outcome makes points or loses any.
use Rattle.std.proofs.Common.{◌≡◌, ℕ, ◌*◌, false, not, [], ◌∷◌, ℤ, pos, ◌+ℤ◌, Option, Some, None, refl, ◌∙◌, ap, arith}
use Rattle.std.specs.Ordering.{int_eq}
use Rattle.std.proofs.lemmas.Int.{ints}
use Rattle.riichi_table.specs.States.{all_points}
use Rattle.riichi_table.specs.declared.player.Player.TheVariants.{First, Second, Third, Fourth}
use Rattle.riichi_table.specs.declared.rules.TableRules.{TableRules}
use Rattle.riichi_table.specs.declared.state.GameState.{GameState}
use Rattle.riichi_table.specs.declared.fault.OutcomeFault.{OutcomeFault}
use Rattle.riichi_table.specs.declared.outcome.Outcome.{Outcome}
use Rattle.riichi_table.specs.declared.outcome.Outcome.TheVariants.{Ron, Tsumo, Draw, Abort, Chombo, Penalty, Stands, End}
use Rattle.riichi_settle.specs.Settled.{change_by, sticks_by, moves_of}
use Rattle.riichi_settle.proofs.Balance.{changes_cancel}
use Rattle.riichi_game.specs.Following.{points_after, sticks_after, state_after}
use Rattle.riichi_game.specs.Faults.{has_wrong_total, fault_of, progress_after, unless}
use Rattle.riichi_game.specs.Games.{or_as_before, after_one}
use Rattle.riichi_game.specs.Laws.{HasAll, FirstHasAll, KeepsAll, KeepAll}
use Rattle.riichi_game.proofs.Accepted.{accepted, no_fault, right_total}
use Rattle.riichi_game.specs.declared.game.Progress.{Progress}

pub first_has_all : FirstHasAll
unfolding all_points
first_has_all rules most = omega (arith, ints)

-- the sum over four
summed : (a b c d u v w x : ℤ) (before after : ℕ) → (u +ℤ v +ℤ w +ℤ x) +ℤ pos after ≡ pos before
    → ((a +ℤ u) +ℤ (b +ℤ v) +ℤ (c +ℤ w) +ℤ (d +ℤ x)) +ℤ pos after ≡ (a +ℤ b +ℤ c +ℤ d) +ℤ pos before
summed a b c d u v w x before after h = omega (arith, ints)

moved : (state : GameState) (rules : TableRules) (outcome : Outcome)
    → ((state.points.first +ℤ change_by (moves_of state rules outcome) First) +ℤ (state.points.second +ℤ change_by (moves_of state rules outcome) Second)
    +ℤ (state.points.third +ℤ change_by (moves_of state rules outcome) Third) +ℤ (state.points.fourth +ℤ change_by (moves_of state rules outcome) Fourth))
    +ℤ pos (1000 * sticks_by state.sticks (moves_of state rules outcome))
    ≡ all_points state
unfolding all_points
moved state rules outcome =
    let change = change_by (moves_of state rules outcome) in
    summed state.points.first state.points.second state.points.third state.points.fourth (change First) (change Second) (change Third) (change Fourth)
    (1000 * state.sticks) (1000 * sticks_by state.sticks (moves_of state rules outcome)) (changes_cancel state rules outcome)

-- two numbers of which the test says that they are equal
same : (a b : ℤ) → not (int_eq a b) ≡ false → a ≡ b
same a b h = grind (arith, ints)

deal_keeps : (state : GameState) (rules : TableRules) (outcome : Outcome) → HasAll rules state → has_wrong_total rules outcome ≡ false → HasAll rules (state_after state rules outcome)
unfolding points_after sticks_after all_points
deal_keeps state rules (Ron from wins riichi) all right = moved state rules (Ron from wins riichi) ∙ all
deal_keeps state rules (Tsumo winner win riichi) all right = moved state rules (Tsumo winner win riichi) ∙ all
deal_keeps state rules (Draw ready nagashi riichi) all right = moved state rules (Draw ready nagashi riichi) ∙ all
deal_keeps state rules (Abort riichi) all right = moved state rules (Abort riichi) ∙ all
deal_keeps state rules (Chombo player) all right = moved state rules (Chombo player) ∙ all
deal_keeps state rules (Penalty player points) all right = moved state rules (Penalty player points) ∙ all
deal_keeps state rules (Stands written) all right = same (all_points written) (pos (4 * rules.start)) right
deal_keeps state rules End all right = moved state rules End ∙ all

progress_keeps : (progress : Progress) (rules : TableRules) (outcome : Outcome) → HasAll rules progress.state
    → fault_of progress rules outcome ≡ None → HasAll rules (progress_after progress rules outcome).state
unfolding progress_after
progress_keeps progress rules outcome all none = deal_keeps progress.state rules outcome all (right_total progress rules outcome none)

pub keeps_all : KeepsAll
keeps_all progress after rules outcome all ok =
    let none = no_fault (fault_of progress rules outcome) (progress_after progress rules outcome) after ok in
    let same_after = accepted (fault_of progress rules outcome) (progress_after progress rules outcome) after ok in
    ap (λ (p : Progress). all_points p.state) same_after ∙ progress_keeps progress rules outcome all none

either_keeps : (fault : Option OutcomeFault) (progress after : Progress) (rules : TableRules) → HasAll rules progress.state → (fault ≡ None → HasAll rules after.state)
    → HasAll rules (or_as_before (unless fault after) progress).state
either_keeps None progress after rules all kept = kept refl
either_keeps (Some fault) progress after rules all kept = all

one_keeps : (progress : Progress) (rules : TableRules) (outcome : Outcome) → HasAll rules progress.state → HasAll rules (after_one progress rules outcome).state
one_keeps progress rules outcome all =
    either_keeps (fault_of progress rules outcome) progress (progress_after progress rules outcome) rules all (progress_keeps progress rules outcome all)

pub keep_all : KeepAll
keep_all progress rules [] all = all
keep_all progress rules (outcome ∷ outcomes) all = keep_all (after_one progress rules outcome) rules outcomes (one_keeps progress rules outcome all)
