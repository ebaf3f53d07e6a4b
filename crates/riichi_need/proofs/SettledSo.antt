-- The points that a win is asked by are those that it is settled with.
use Rattle.std.proofs.Common.{◌≡◌, ℕ, ◌+◌, ◌*◌, Bool, true, false, ℤ, pos, neg_ℤ, ◌+ℤ◌, ◌-ℤ◌, if◌then◌else◌, ap, refl, sym, ◌∙◌, arith}
use Rattle.std.proofs.lemmas.Int.{ints}
use Rattle.riichi_score.specs.Payment.{paid, gain_of}
use Rattle.riichi_table.specs.Players.{of_player, with_player, is_same_player, count_players}
use Rattle.riichi_table.specs.Worths.{base_of_worth}
use Rattle.riichi_table.specs.declared.player.Player.{Player}
use Rattle.riichi_table.specs.declared.player.Player.TheVariants.{First, Second, Third, Fourth}
use Rattle.riichi_settle.specs.Laws.{SettlesLoneRon, SettlesLoneTsumo, nobody}
use Rattle.riichi_settle.specs.Laws.{share_of_payment}
use Rattle.riichi_need.specs.Winning.{payment_for, other_bets, points_then}
use Rattle.riichi_need.specs.Laws.{RonIsSettledSo, TsumoIsSettledSo}
use Rattle.riichi_need.specs.declared.question.Question.{Question}
use Rattle.riichi_need.specs.declared.question.Way.TheVariants.{Ron, Tsumo}

still_nobody : (player : Player) → with_player nobody player false ≡ nobody
still_nobody First = refl
still_nobody Second = refl
still_nobody Third = refl
still_nobody Fourth = refl

not_in : (player : Player) → of_player nobody player ≡ false
not_in First = refl
not_in Second = refl
not_in Third = refl
not_in Fourth = refl

same_back : (one other : Player) → is_same_player one other ≡ is_same_player other one
same_back First First = refl
same_back First Second = refl
same_back First Third = refl
same_back First Fourth = refl
same_back Second First = refl
same_back Second Second = refl
same_back Second Third = refl
same_back Second Fourth = refl
same_back Third First = refl
same_back Third Second = refl
same_back Third Third = refl
same_back Third Fourth = refl
same_back Fourth First = refl
same_back Fourth Second = refl
same_back Fourth Third = refl
same_back Fourth Fourth = refl

no_bets : (question : Question) → question.bets ≡ nobody → other_bets question ≡ nobody
no_bets question e = ap (λ bets. with_player bets question.player false) e ∙ still_nobody question.player

abbrev amount : Bool → ℕ
amount bet = if bet then 1000 else 0

no_bet : (question : Question) (player : Player) → question.bets ≡ nobody → amount (of_player (other_bets question) player) ≡ 0
no_bet question player e = ap (λ bets. amount (of_player bets player)) (no_bets question e) ∙ ap amount (not_in player)

ron_case : (same own : Bool) (x : ℤ) (gain bets points bet : ℕ) → bets ≡ 0 → bet ≡ 0
    → (if same then x +ℤ pos (gain + 1000 * bets) else x -ℤ pos ((if own then points else 0) + bet))
    ≡ x +ℤ (if same then pos gain else if own then neg_ℤ (pos points) else pos 0)
ron_case true own x gain bets points bet h k = omega (arith, ints)
ron_case false true x gain bets points bet h k = omega (arith, ints)
ron_case false false x gain bets points bet h k = omega (arith, ints)

tsumo_case : (same : Bool) (x : ℤ) (gain bets points bet : ℕ) → bets ≡ 0 → bet ≡ 0
    → (if same then x +ℤ pos (gain + 1000 * bets) else x -ℤ pos (points + bet)) ≡ x +ℤ (if same then pos gain else neg_ℤ (pos points))
tsumo_case true x gain bets points bet h k = omega (arith, ints)
tsumo_case false x gain bets points bet h k = omega (arith, ints)

pub ron_is_settled_so : SettlesLoneRon → RonIsSettledSo
unfolding points_then
ron_is_settled_so law question from player worth none other =
    let x = of_player question.state.points player in
    let payment = payment_for question (Ron from) (base_of_worth worth) in
    let gain = gain_of payment question.state.sticks in
    ron_case (is_same_player player question.player) (is_same_player player from) x gain _ (paid payment) _
    (ap (λ bets. count_players (of_player bets)) (no_bets question none)) (no_bet question player none)
    ∙ (λ k. x +ℤ (if same_back player question.player k then pos gain else if same_back player from k then neg_ℤ (pos (paid payment)) else pos 0))
    ∙ ap (λ change. x +ℤ change) (sym (law question.state question.rules from question.player player worth other))

pub tsumo_is_settled_so : SettlesLoneTsumo → TsumoIsSettledSo
unfolding points_then
tsumo_is_settled_so law question player worth none =
    let x = of_player question.state.points player in
    let payment = payment_for question Tsumo (base_of_worth worth) in
    let gain = gain_of payment question.state.sticks in
    let share = share_of_payment payment (is_same_player player question.state.dealer) in
    tsumo_case (is_same_player player question.player) x gain _ share _
    (ap (λ bets. count_players (of_player bets)) (no_bets question none)) (no_bet question player none)
    ∙ ap (λ same. x +ℤ (if same then pos gain else neg_ℤ (pos share))) (same_back player question.player)
    ∙ ap (λ change. x +ℤ change) (sym (law question.state question.rules question.player player worth))
