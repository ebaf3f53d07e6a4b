-- The sticks go to one player, and the final points add up to 0.
use Rattle.std.proofs.Common.{◌≡◌, ℕ, ◌+◌, ◌*◌, Bool, true, false, ◌||◌, ℤ, pos, ◌+ℤ◌, ◌-ℤ◌, if◌then◌else◌, ap, refl, ◌∙◌, arith}
use Rattle.std.specs.Prelude.{◌==◌}
use Rattle.std.proofs.lemmas.Int.{ints}
use Rattle.riichi_table.specs.Players.{of_player, one_where, sum_over_players}
use Rattle.riichi_table.specs.RulesFaults.{uma_sum}
use Rattle.riichi_table.specs.declared.player.Player.TheVariants.{First, Second, Third, Fourth}
use Rattle.riichi_table.specs.declared.player.Player.{Player}
use Rattle.riichi_table.specs.declared.player.ByPlayer.{ByPlayer}
use Rattle.riichi_table.specs.declared.rules.Ties.TheVariants.{Seat}
use Rattle.riichi_table.specs.declared.rules.TableRules.{TableRules}
use Rattle.riichi_table.specs.declared.state.GameState.{GameState}
use Rattle.riichi_places.specs.Places.{seat_number, is_ahead, is_first, ahead_of}
use Rattle.riichi_places.specs.Bonuses.{bonus_of}
use Rattle.riichi_places.specs.Finals.{for_sticks, settled, points_at_end}
use Rattle.riichi_places.specs.Laws.{SticksGoOnce, FinalsAddUpToNothing}
use Rattle.riichi_places.proofs.Order.{IsBefore, in_order}
use Rattle.riichi_places.proofs.Given.{standings, ahead_by_seat, all_bonuses_are_given}

is_ahead_in_order : (points : ByPlayer ℤ) (i j : Player) → IsBefore points i j → is_ahead Seat points i j ≡ true
is_ahead_in_order points i j h = ahead_by_seat (of_player points i) (of_player points j) (seat_number i) (seat_number j) h

-- of one who stands so
first_by : (points : ByPlayer ℤ) (player : Player) (ahead : ℕ) (is : Bool) → ahead_of Seat points player ≡ ahead → (1 + ahead == 1) ≡ is → is_first points player ≡ is
first_by points player ahead is e h = ap (λ n. 1 + n == 1) e ∙ h

with_sticks : (rules : TableRules) (state : GameState) (player : Player) (is : Bool) → is_first state.points player ≡ is
    → settled rules state player ≡ of_player state.points player +ℤ pos (if is then for_sticks rules.left state.sticks else 0)
unfolding settled
with_sticks rules state player is e = ap (λ first. of_player state.points player +ℤ pos (if first then for_sticks rules.left state.sticks else 0)) e

one_has_more : (a b c d sum : ℤ) (sticks : ℕ) → sum ≡ a +ℤ b +ℤ c +ℤ d → (a +ℤ pos sticks) +ℤ (b +ℤ pos 0) +ℤ (c +ℤ pos 0) +ℤ (d +ℤ pos 0) ≡ sum +ℤ pos sticks
one_has_more a b c d sum sticks e = omega (arith, ints)

pub sticks_go_once : SticksGoOnce
sticks_go_once rules state =
    let points = state.points in
    let order = in_order points in
    let stand = standings Seat points order in
    let pq = is_ahead_in_order points order.one order.two order.first in
    let qr = is_ahead_in_order points order.two order.three order.second in
    let rs = is_ahead_in_order points order.three order.four order.third in
    let one = with_sticks rules state order.one true (first_by points order.one _ true stand.one.ahead refl) in
    let two = with_sticks rules state order.two false (first_by points order.two _ false stand.two.ahead (λ k. 1 + one_where (pq k) == 1)) in
    let three = with_sticks rules state order.three false (first_by points order.three _ false stand.three.ahead (λ k. 1 + (one_where (pq k || qr k) + one_where (qr k)) == 1)) in
    let last = with_sticks rules state order.four false (first_by points order.four _ false stand.four.ahead (λ k. 1 + (one_where (pq k || qr k || rs k) + one_where (qr k || rs k) + one_where (rs k)) == 1)) in
    order.all.1 (settled rules state) ∙ (λ k. one k +ℤ two k +ℤ three k +ℤ last k)
    ∙ one_has_more (of_player points order.one) (of_player points order.two) (of_player points order.three) (of_player points order.four)
    (sum_over_players (of_player points)) (for_sticks rules.left state.sticks) (order.all.1 (of_player points))

added : (a b c d w x y z uma : ℤ) (start returns k l m n : ℕ) → a +ℤ b +ℤ c +ℤ d ≡ pos (4 * start)
    → w +ℤ x +ℤ y +ℤ z ≡ uma +ℤ (pos (4 * returns) -ℤ pos (4 * start)) → uma ≡ pos 0
    → ((((a -ℤ pos returns) +ℤ w) -ℤ pos k) +ℤ (((b -ℤ pos returns) +ℤ x) -ℤ pos l) +ℤ (((c -ℤ pos returns) +ℤ y) -ℤ pos m) +ℤ (((d -ℤ pos returns) +ℤ z) -ℤ pos n))
    +ℤ pos (k + l + m + n) ≡ pos 0
added a b c d w x y z uma start returns k l m n h e u = omega (arith, ints)

pub finals_add_up_to_nothing : FinalsAddUpToNothing
finals_add_up_to_nothing rules state penalties uma sum =
    let points = points_at_end rules state in
    let bonus = bonus_of rules points in
    added (settled rules state First) (settled rules state Second) (settled rules state Third) (settled rules state Fourth)
    (bonus First) (bonus Second) (bonus Third) (bonus Fourth) (uma_sum rules.uma) rules.start rules.returns
    penalties.first penalties.second penalties.third penalties.fourth
    (sticks_go_once rules state ∙ sum) (all_bonuses_are_given rules points) uma
