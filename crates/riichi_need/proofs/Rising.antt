-- Where a win brings a player to a place, every greater one does.
use Rattle.std.proofs.Common.{◌≡◌, ℕ, ◌+◌, ◌≤◌, Bool, true, false, not, ◌&&◌, ◌||◌, ℤ, pos, ◌+ℤ◌, ◌-ℤ◌, if◌then◌else◌, refl, sym, subst, arith}
use Rattle.std.specs.Prelude.{int_lt, nat_lt, ◌≤ℤ◌}
use Rattle.std.specs.Ordering.{int_eq}
use Rattle.std.proofs.lemmas.Int.{ints}
use Rattle.std.proofs.lemmas.Bool.Decides.{nat_tests}
use Rattle.riichi_score.specs.Payment.{by_ron, by_tsumo, paid}
use Rattle.riichi_table.specs.Players.{of_player, by_players, is_same_player, one_where}
use Rattle.riichi_table.specs.declared.player.Player.{Player}
use Rattle.riichi_table.specs.declared.player.Player.TheVariants.{First, Second, Third, Fourth}
use Rattle.riichi_table.specs.declared.player.ByPlayer.{ByPlayer}
use Rattle.riichi_table.specs.declared.rules.Ties.{Ties}
use Rattle.riichi_table.specs.declared.rules.Ties.TheVariants.{Share, Seat}
use Rattle.riichi_places.specs.Places.{seat_number, is_ahead, ahead_of}
use Rattle.riichi_settle.specs.Laws.{share_of_payment}
use Rattle.riichi_need.specs.Winning.{pays, gains, points_then, all_points_then}
use Rattle.riichi_need.specs.Reaching.{is_not_below, not_below_of, reaches}
use Rattle.riichi_need.specs.Laws.{GreaterReachesToo}
use Rattle.riichi_need.specs.declared.question.Aim.TheVariants.{Strictly, WithTie}
use Rattle.riichi_need.specs.declared.question.Question.{Question}
use Rattle.riichi_need.specs.declared.question.Way.{Way}
use Rattle.riichi_need.specs.declared.question.Way.TheVariants.{Ron, Tsumo}

-- ---- what is paid rises with the base points

ron_rises : (base greater counters : ℕ) (dealer : Bool) → base ≤ greater → paid (by_ron base dealer counters) ≤ paid (by_ron greater dealer counters)
ron_rises base greater counters true h = omega arith
ron_rises base greater counters false h = omega arith

tsumo_rises : (base greater counters : ℕ) (dealer : Bool) → base ≤ greater → paid (by_tsumo base dealer counters) ≤ paid (by_tsumo greater dealer counters)
tsumo_rises base greater counters true h = omega arith
tsumo_rises base greater counters false h = omega arith

share_rises : (base greater counters : ℕ) (dealer of_dealer : Bool) → base ≤ greater
    → share_of_payment (by_tsumo base dealer counters) of_dealer ≤ share_of_payment (by_tsumo greater dealer counters) of_dealer
share_rises base greater counters true of_dealer h = omega arith
share_rises base greater counters false true h = omega arith
share_rises base greater counters false false h = omega arith

gains_rise : (question : Question) (way : Way) (base greater : ℕ) → base ≤ greater → gains question way base ≤ gains question way greater
gains_rise question (Ron from) base greater h =
    let more = ron_rises base greater question.state.counters (is_same_player question.player question.state.dealer) h in omega arith
gains_rise question Tsumo base greater h =
    let more = tsumo_rises base greater question.state.counters (is_same_player question.player question.state.dealer) h in omega arith

if_rises : (is : Bool) (less more : ℕ) → less ≤ more → (if is then less else 0) ≤ (if is then more else 0)
if_rises true less more h = h
if_rises false less more h = omega arith

pays_rise : (question : Question) (way : Way) (base greater : ℕ) (player : Player) → base ≤ greater → pays question way base player ≤ pays question way greater player
pays_rise question (Ron from) base greater player h =
    if_rises (is_same_player player from) _ _ (ron_rises base greater question.state.counters (is_same_player question.player question.state.dealer) h)
pays_rise question Tsumo base greater player h =
    share_rises base greater question.state.counters (is_same_player question.player question.state.dealer) (is_same_player player question.state.dealer) h

-- ---- the winner's points rise, and the others' fall

abbrev Moves : Player → (Player → ℤ) → (Player → ℤ) → Type 0
Moves winner before later =
    ((player : Player) → is_same_player player winner ≡ true → before player ≤ℤ later player)
    × ((player : Player) → is_same_player player winner ≡ false → later player ≤ℤ before player)

added : (x : ℤ) (less more : ℕ) → less ≤ more → (x +ℤ pos less) ≤ℤ (x +ℤ pos more)
added x less more h = omega (arith, ints)

taken : (x : ℤ) (less more bet : ℕ) → less ≤ more → (x -ℤ pos (more + bet)) ≤ℤ (x -ℤ pos (less + bet))
taken x less more bet h = omega (arith, ints)

choose_true : (is : Bool) (a b c d : ℤ) → is ≡ true → a ≤ℤ c → (if is then a else b) ≤ℤ (if is then c else d)
choose_true true a b c d e h = h
choose_true false a b c d e h = absurd (cc)

choose_false : (is : Bool) (a b c d : ℤ) → is ≡ false → d ≤ℤ b → (if is then c else d) ≤ℤ (if is then a else b)
choose_false true a b c d e h = absurd (cc)
choose_false false a b c d e h = h

moves : (question : Question) (way : Way) (base greater : ℕ) → base ≤ greater → Moves question.player (points_then question way base) (points_then question way greater)
unfolding points_then
moves question way base greater h = (
  λ player e. choose_true (is_same_player player question.player) _ _ _ _ e (added (of_player question.state.points player) _ _ (gains_rise question way base greater h)),
  λ player e. choose_false (is_same_player player question.player) _ _ _ _ e (taken (of_player question.state.points player) _ _ _ (pays_rise question way base greater player h)),
)

-- ---- so fewer are ahead

winner_rises : (before later : Player → ℤ) (winner player : Player) → Moves winner before later → is_same_player player winner ≡ true
    → of_player (by_players before) player ≤ℤ of_player (by_players later) player
winner_rises before later winner First h e = h.0 First e
winner_rises before later winner Second h e = h.0 Second e
winner_rises before later winner Third h e = h.0 Third e
winner_rises before later winner Fourth h e = h.0 Fourth e

other_falls : (before later : Player → ℤ) (winner player : Player) → Moves winner before later → is_same_player player winner ≡ false
    → of_player (by_players later) player ≤ℤ of_player (by_players before) player
other_falls before later winner First h e = h.1 First e
other_falls before later winner Second h e = h.1 Second e
other_falls before later winner Third h e = h.1 Third e
other_falls before later winner Fourth h e = h.1 Fourth e

same_player : (one other : Player) → is_same_player one other ≡ true → one ≡ other
same_player First First e = refl
same_player Second Second e = refl
same_player Third Third e = refl
same_player Fourth Fourth e = refl
same_player one other e = absurd (cc)

same_self : (player : Player) → is_same_player player player ≡ true
same_self First = refl
same_self Second = refl
same_self Third = refl
same_self Fourth = refl

less_by_points : (w w' o o' : ℤ) → w ≤ℤ w' → o' ≤ℤ o → one_where (int_lt w' o') ≤ one_where (int_lt w o)
less_by_points w w' o o' h k = grind (arith, ints)

less_by_seat : (w w' o o' : ℤ) (m n : ℕ) → w ≤ℤ w' → o' ≤ℤ o
    → one_where (int_lt w' o' || (int_eq o' w' && nat_lt m n)) ≤ one_where (int_lt w o || (int_eq o w && nat_lt m n))
less_by_seat w w' o o' m n h k = grind (arith, ints, nat_tests)

none_by_points : (x : ℤ) → one_where (int_lt x x) ≡ 0
none_by_points x = grind (arith, ints)

none_by_seat : (x : ℤ) (n : ℕ) → one_where (int_lt x x || (int_eq x x && nat_lt n n)) ≡ 0
none_by_seat x n = grind (arith, ints, nat_tests)

not_ahead_of_self : (ties : Ties) (points : ByPlayer ℤ) (player : Player) → one_where (is_ahead ties points player player) ≡ 0
not_ahead_of_self Share points player = none_by_points (of_player points player)
not_ahead_of_self Seat points player = none_by_seat (of_player points player) (seat_number player)

ahead_falls : (ties : Ties) (points later : ByPlayer ℤ) (winner player : Player) → Moves winner (of_player points) (of_player later)
    → (same : Bool) → is_same_player player winner ≡ same → one_where (is_ahead ties later player winner) ≤ one_where (is_ahead ties points player winner)
ahead_falls ties points later winner player h true e =
    let is = same_player player winner e in
    let none = not_ahead_of_self ties later winner in
    subst (λ (one : Player). one_where (is_ahead ties later one winner) ≤ one_where (is_ahead ties points one winner)) (sym is) (omega (arith, none))
ahead_falls Share points later winner player h false e =
    less_by_points (of_player points winner) (of_player later winner) (of_player points player) (of_player later player) (h.0 winner (same_self winner)) (h.1 player e)
ahead_falls Seat points later winner player h false e =
    less_by_seat (of_player points winner) (of_player later winner) (of_player points player) (of_player later player) (seat_number player) (seat_number winner)
    (h.0 winner (same_self winner)) (h.1 player e)

less_not_below : (w w' o o' : ℤ) → w ≤ℤ w' → o' ≤ℤ o → one_where (not (int_lt o' w')) ≤ one_where (not (int_lt o w))
less_not_below w w' o o' h k = grind (arith, ints)

unless_same : (same : Bool) (w w' o o' : ℤ) → w ≤ℤ w' → (same ≡ false → o' ≤ℤ o)
    → one_where (not same && not (int_lt o' w')) ≤ one_where (not same && not (int_lt o w))
unless_same true w w' o o' h k = omega arith
unless_same false w w' o o' h k = less_not_below w w' o o' h (k refl)

not_below_falls : (points later : ByPlayer ℤ) (winner player : Player) → Moves winner (of_player points) (of_player later)
    → one_where (is_not_below later winner player) ≤ one_where (is_not_below points winner player)
not_below_falls points later winner player h =
    unless_same (is_same_player player winner) (of_player points winner) (of_player later winner) (of_player points player) (of_player later player)
    (h.0 winner (same_self winner)) (h.1 player)

fewer_ahead : (ties : Ties) (points later : ByPlayer ℤ) (winner : Player) → Moves winner (of_player points) (of_player later)
    → ahead_of ties later winner ≤ ahead_of ties points winner
unfolding ahead_of
fewer_ahead ties points later winner h =
    let each = λ (player : Player). ahead_falls ties points later winner player h (is_same_player player winner) refl in
    let a = each First in let b = each Second in let c = each Third in let d = each Fourth in
    omega (arith, a, b, c, d)

fewer_not_below : (points later : ByPlayer ℤ) (winner : Player) → Moves winner (of_player points) (of_player later)
    → not_below_of later winner ≤ not_below_of points winner
unfolding not_below_of
fewer_not_below points later winner h =
    let each = λ (player : Player). not_below_falls points later winner player h in
    let a = each First in let b = each Second in let c = each Third in let d = each Fourth in
    omega (arith, a, b, c, d)

still_below : (less more place : ℕ) → less ≤ more → nat_lt more place ≡ true → nat_lt less place ≡ true
still_below less more place h e = grind (arith, nat_tests)

pub greater_reaches_too : GreaterReachesToo
unfolding reaches
greater_reaches_too question Strictly way base greater h e =
    let rise = moves question way base greater h in
    let before = points_then question way base in let later = points_then question way greater in
    let both : Moves question.player (of_player (all_points_then question way base)) (of_player (all_points_then question way greater)) =
    (λ player. winner_rises before later question.player player rise, λ player. other_falls before later question.player player rise) in
    still_below _ _ question.place (fewer_not_below (all_points_then question way base) (all_points_then question way greater) question.player both) e
greater_reaches_too question WithTie way base greater h e =
    let rise = moves question way base greater h in
    let before = points_then question way base in let later = points_then question way greater in
    let both : Moves question.player (of_player (all_points_then question way base)) (of_player (all_points_then question way greater)) =
    (λ player. winner_rises before later question.player player rise, λ player. other_falls before later question.player player rise) in
    still_below _ _ question.place (fewer_ahead question.rules.ties (all_points_then question way base) (all_points_then question way greater) question.player both) e
