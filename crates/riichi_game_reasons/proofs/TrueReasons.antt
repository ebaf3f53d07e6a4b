-- The reason that is told for the end of a game is the end that came.
use Rattle.std.proofs.Common.{◌≡◌, ◌⊎◌, inl, inr, Bool, true, false, not, ◌&&◌, ◌||◌, Option, None, Some, Result, Ok, Err, refl, sym, subst, ap, ◌∙◌}
use Rattle.std.specs.Prelude.{ℤ, if◌then◌else◌}
use Rattle.riichi_table.specs.Players.{is_same_player, after}
use Rattle.riichi_table.specs.declared.fault.OutcomeFault.{OutcomeFault}
use Rattle.riichi_table.specs.declared.player.ByPlayer.{ByPlayer}
use Rattle.riichi_table.specs.declared.player.Player.{Player}
use Rattle.riichi_table.specs.declared.player.Player.TheVariants.{First, Second, Third, Fourth}
use Rattle.riichi_table.specs.declared.rules.TableRules.{TableRules}
use Rattle.riichi_table.specs.declared.state.GameState.{GameState}
use Rattle.riichi_table.specs.declared.outcome.Outcome.{Outcome}
use Rattle.riichi_table.specs.declared.outcome.Outcome.TheVariants.{Ron, Tsumo, Draw, Abort, Chombo, Penalty, Stands, End}
use Rattle.riichi_settle.specs.Winners.{as_played}
use Rattle.riichi_game.specs.Ends.{is_before_last, is_behind_last, is_bust, is_enough, fourth_leads, is_win_or_draw, is_over_by_length, is_over_by_stop, is_over_with, is_over_by_deal, over_after}
use Rattle.riichi_game.specs.Faults.{fault_of, progress_after, unless}
use Rattle.riichi_game.specs.Following.{stays_after, points_after, dealer_by, dealer_after, state_after}
use Rattle.riichi_game.specs.declared.game.Progress.{Progress}
use Rattle.riichi_game_reasons.specs.EndReasons.{deal_reason, end_reason}
use Rattle.riichi_game_reasons.specs.Laws.{HoldsOf, TellsWhatHolds}
use Rattle.riichi_game_reasons.specs.declared.ends.EndReason.TheVariants.{Bust, Enough, Stopped, Played}

-- ---- tests

both : (a b : Bool) → (a && b) ≡ true → (a ≡ true) × (b ≡ true)
both true b is = (refl, is)
both false b is = absurd (cc)

either : (a b : Bool) → (a || b) ≡ true → (a ≡ true) ⊎ (b ≡ true)
either true b is = inl refl
either false b is = inr is

or_true : (b : Bool) → (b || true) ≡ true
or_true true = refl
or_true false = refl

-- the last dealer stops who stays, and not before the last round
stop_parts : (stop played fourth stays last leads enough : Bool) → (stop && played && fourth && stays && last && leads && enough) ≡ true
    → (stays ≡ true) × (last ≡ true)
stop_parts stop played fourth stays last leads enough is =
    let one = both (stop && played && fourth && stays && last && leads) enough is in
    let two = both (stop && played && fourth && stays && last) leads one.0 in
    let three = both (stop && played && fourth && stays) last two.0 in
    let four = both (stop && played && fourth) stays three.0 in
    (four.1, three.1)

-- the round more is over where there is enough
length_on : (last ends behind enough : Bool) → last ≡ true → (behind && enough) ≡ true → (last && (ends || (behind && enough))) ≡ true
length_on last ends behind enough is more = rw is (rw more (or_true ends))

-- no other round is over whose dealer stays
length_off : (last fourth any : Bool) (behind enough : Bool) → (behind && enough) ≡ false → (last && ((fourth && false && any) || (behind && enough))) ≡ false
length_off false fourth any behind enough none = refl
length_off true false any behind enough none = none
length_off true true any behind enough none = none

-- ---- the ends

abbrev more_over : TableRules → GameState → ByPlayer ℤ → Bool
more_over rules state points = is_behind_last rules state.round && is_enough rules.extra points

stop_means : (rules : TableRules) (state : GameState) (played stays : Bool) (points : ByPlayer ℤ) → is_over_by_stop rules state played stays points ≡ true
    → (stays ≡ true) × (not (is_before_last rules state.round) ≡ true)
stop_means rules state played stays points is =
    stop_parts rules.stop played (is_same_player state.dealer Fourth) stays (not (is_before_last rules state.round)) (fourth_leads points)
    (is_behind_last rules state.round || is_enough rules.extra points) is

stays_no_length : (rules : TableRules) (state : GameState) (stays : Bool) (points : ByPlayer ℤ) → stays ≡ true → more_over rules state points ≡ false
    → is_over_by_length rules state stays points ≡ false
stays_no_length rules state stays points is none =
    rw is (length_off (not (is_before_last rules state.round)) (is_same_player state.dealer Fourth) (is_behind_last rules state.round || is_enough rules.extra points)
    (is_behind_last rules state.round) (is_enough rules.extra points) none)

more_is_length : (rules : TableRules) (state : GameState) (stays : Bool) (points : ByPlayer ℤ) → not (is_before_last rules state.round) ≡ true → more_over rules state points ≡ true
    → is_over_by_length rules state stays points ≡ true
more_is_length rules state stays points last more =
    length_on (not (is_before_last rules state.round))
    (is_same_player state.dealer Fourth && not stays && (is_behind_last rules state.round || is_enough rules.extra points))
    (is_behind_last rules state.round) (is_enough rules.extra points) last more

-- one of the three ends came
ends_by : (rules : TableRules) (state : GameState) (played stays : Bool) (points : ByPlayer ℤ) → is_over_with rules state played stays points ≡ true
    → (rules.bust && is_bust points) ≡ false → (is_over_by_length rules state stays points ≡ true) ⊎ (is_over_by_stop rules state played stays points ≡ true)
unfolding is_over_with
ends_by rules state played stays points over none =
    elim (either ((rules.bust && is_bust points) || is_over_by_length rules state stays points) (is_over_by_stop rules state played stays points) over)
    as (λ _. (is_over_by_length rules state stays points ≡ true) ⊎ (is_over_by_stop rules state played stays points ≡ true)) [
      | inl first ↦
          elim (either (rules.bust && is_bust points) (is_over_by_length rules state stays points) first)
          as (λ _. (is_over_by_length rules state stays points ≡ true) ⊎ (is_over_by_stop rules state played stays points ≡ true)) [
            | inl bust ↦ let clash : false ≡ true = sym none ∙ bust in absurd (cc)
            | inr length ↦ inl length
          ]
      | inr stop ↦ inr stop
    ]

told : (rules : TableRules) (state : GameState) (outcome : Outcome) (bust more stays : Bool)
    → (rules.bust && is_bust (points_after state rules outcome)) ≡ bust → more_over rules state (points_after state rules outcome) ≡ more → stays_after state rules outcome ≡ stays
    → is_over_by_deal state rules outcome ≡ true
    → HoldsOf (if bust then Bust else if more then Enough else if stays then Stopped else Played) rules state outcome
told rules state outcome true more stays bust_is more_is stays_is over = bust_is
told rules state outcome false true stays bust_is more_is stays_is over =
    let points = points_after state rules outcome in
    let played = is_win_or_draw (as_played rules outcome) in
    elim (ends_by rules state played (stays_after state rules outcome) points over bust_is)
    as (λ _. is_over_by_length rules state (stays_after state rules outcome) points ≡ true) [
      | inl length ↦ length
      | inr stop ↦ more_is_length rules state (stays_after state rules outcome) points (stop_means rules state played (stays_after state rules outcome) points stop).1 more_is
    ]
told rules state outcome false false true bust_is more_is stays_is over =
    let points = points_after state rules outcome in
    let played = is_win_or_draw (as_played rules outcome) in
    elim (ends_by rules state played (stays_after state rules outcome) points over bust_is)
    as (λ _. is_over_by_stop rules state played (stays_after state rules outcome) points ≡ true) [
      | inl length ↦ let clash : true ≡ false = sym length ∙ stays_no_length rules state (stays_after state rules outcome) points stays_is more_is in absurd (cc)
      | inr stop ↦ stop
    ]
told rules state outcome false false false bust_is more_is stays_is over =
    let points = points_after state rules outcome in
    let played = is_win_or_draw (as_played rules outcome) in
    elim (ends_by rules state played (stays_after state rules outcome) points over bust_is)
    as (λ _. is_over_by_length rules state (stays_after state rules outcome) points ≡ true) [
      | inl length ↦ length
      | inr stop ↦ let clash : true ≡ false = sym (stop_means rules state played (stays_after state rules outcome) points stop).0 ∙ stays_is in absurd (cc)
    ]

-- ---- an outcome that ends a game

dealer_stays : (stays : Bool) (dealer : Player) → is_same_player (if stays then dealer else after dealer) dealer ≡ stays
dealer_stays true First = refl
dealer_stays true Second = refl
dealer_stays true Third = refl
dealer_stays true Fourth = refl
dealer_stays false First = refl
dealer_stays false Second = refl
dealer_stays false Third = refl
dealer_stays false Fourth = refl

by_deal : (rules : TableRules) (state : GameState) (outcome : Outcome)
    → dealer_after state rules outcome ≡ (if stays_after state rules outcome then state.dealer else after state.dealer)
    → is_over_by_deal state rules outcome ≡ true → HoldsOf (deal_reason rules state (state_after state rules outcome)) rules state outcome
by_deal rules state outcome dealer over =
    told rules state outcome (rules.bust && is_bust (points_after state rules outcome)) (more_over rules state (points_after state rules outcome))
    (is_same_player (dealer_after state rules outcome) state.dealer) refl refl
    (sym (ap (λ (next : Player). is_same_player next state.dealer) dealer ∙ dealer_stays (stays_after state rules outcome) state.dealer)) over

by_outcome : (rules : TableRules) (state : GameState) (outcome : Outcome) → over_after false state rules outcome ≡ true
    → HoldsOf (end_reason rules state (state_after state rules outcome) outcome) rules state outcome
unfolding over_after dealer_by
by_outcome rules state End over = refl
by_outcome rules state (Penalty player points) over = absurd (cc)
by_outcome rules state (Stands written) over = absurd (cc)
by_outcome rules state (Ron from wins riichi) over = by_deal rules state (Ron from wins riichi) refl over
by_outcome rules state (Tsumo winner win riichi) over = by_deal rules state (Tsumo winner win riichi) refl over
by_outcome rules state (Draw ready nagashi riichi) over = by_deal rules state (Draw ready nagashi riichi) refl over
by_outcome rules state (Abort riichi) over = by_deal rules state (Abort riichi) refl over
by_outcome rules state (Chombo player) over = by_deal rules state (Chombo player) refl over

-- ---- the law

progress_in : Progress → Result Progress OutcomeFault → Progress
progress_in other (Ok progress) = progress
progress_in other (Err fault) = other

accepted : (fault : Option OutcomeFault) (reached progress : Progress) → unless fault reached ≡ Ok progress → reached ≡ progress
unfolding progress_in
accepted None reached progress is = ap (progress_in progress) is
accepted (Some fault) reached progress is = absurd (cc)

by_progress : (rules : TableRules) (before : Progress) (outcome : Outcome) → before.is_over ≡ false → (progress_after before rules outcome).is_over ≡ true
    → HoldsOf (end_reason rules before.state (progress_after before rules outcome).state outcome) rules before.state outcome
unfolding progress_after
by_progress rules before outcome open_yet over =
    by_outcome rules before.state outcome (ap (λ (is_over : Bool). over_after is_over before.state rules outcome) (sym open_yet) ∙ over)

pub tells_what_holds : TellsWhatHolds
tells_what_holds rules before next outcome open_yet reaches over =
    let is : progress_after before rules outcome ≡ next = accepted (fault_of before rules outcome) (progress_after before rules outcome) next reaches in
    subst (λ (p : Progress). HoldsOf (end_reason rules before.state p.state outcome) rules before.state outcome) is
    (by_progress rules before outcome open_yet (ap (λ (p : Progress). p.is_over) is ∙ over))
