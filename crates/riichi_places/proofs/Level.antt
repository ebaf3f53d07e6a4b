-- Equal points share, and more points are ahead.
use Rattle.std.proofs.Common.{◌≡◌, ℕ, ◌+◌, ◌≤◌, Bool, true, false, not, ◌&&◌, ◌||◌, ℤ, pos, ◌+ℤ◌, ap, sym, subst, arith}
use Rattle.std.specs.Prelude.{int_lt, nat_lt, ◌<ℤ◌, ◌≤ℤ◌}
use Rattle.std.specs.Ordering.{int_eq}
use Rattle.std.proofs.lemmas.Int.{ints}
use Rattle.std.proofs.lemmas.Bool.Decides.{nat_tests}
use Rattle.riichi_table.specs.Players.{of_player, one_where, count_players}
use Rattle.riichi_table.specs.declared.player.Player.{Player}
use Rattle.riichi_table.specs.declared.player.Player.TheVariants.{First, Second, Third, Fourth}
use Rattle.riichi_table.specs.declared.player.ByPlayer.{ByPlayer}
use Rattle.riichi_table.specs.declared.rules.Ties.{Ties}
use Rattle.riichi_table.specs.declared.rules.Ties.TheVariants.{Share, Seat}
use Rattle.riichi_places.specs.Places.{seat_number, is_ahead, is_level, ahead_of, sharers_of, earlier_of, place_by_points}
use Rattle.riichi_places.specs.Bonuses.{bonuses, part_of, shared_bonus, bonus_of}
use Rattle.riichi_places.specs.Laws.{EqualPointsShare, MorePointsAreAhead, AreWithinAHundred}
use Rattle.riichi_places.proofs.Counts.{some_sharer}

same_ahead : (points : ByPlayer ℤ) (one other : Player) → of_player points one ≡ of_player points other → ahead_of Share points one ≡ ahead_of Share points other
unfolding ahead_of
same_ahead points one other e = ap (λ x. count_players (λ player. int_lt x (of_player points player))) e

same_sharers : (points : ByPlayer ℤ) (one other : Player) → of_player points one ≡ of_player points other → sharers_of Share points one ≡ sharers_of Share points other
unfolding sharers_of
same_sharers points one other e =
    ap (λ x. count_players (λ player. not (int_lt x (of_player points player)) && not (int_lt (of_player points player) x))) e

within : (points : ℤ) (sharers one other : ℕ) → part_of points sharers one ≤ℤ (part_of points sharers other +ℤ pos 100)
unfolding part_of
within (pos points) sharers one other = omega (arith, ints)
within points sharers one other = omega (arith, ints)

pub equal_points_share : EqualPointsShare
unfolding shared_bonus
equal_points_share rules points one other ties e =
    let ahead : ahead_of rules.ties points one ≡ ahead_of rules.ties points other =
    subst (λ (t : Ties). ahead_of t points one ≡ ahead_of t points other) (sym ties) (same_ahead points one other e) in
    let sharers : sharers_of rules.ties points one ≡ sharers_of rules.ties points other =
    subst (λ (t : Ties). sharers_of t points one ≡ sharers_of t points other) (sym ties) (same_sharers points one other e) in
    let i = earlier_of rules.ties points one in
    let j = earlier_of rules.ties points other in
    let number = sharers_of rules.ties points other in
    let all = bonuses rules (place_by_points rules.ties points other) number in
    let same : bonus_of rules points one ≡ part_of all number i = λ k. part_of (bonuses rules (1 + ahead k) (sharers k)) (sharers k) i in (
      ap (λ n. 1 + n) ahead,
      subst (λ (x : ℤ). AreWithinAHundred x (part_of all number j)) (sym same) (within all number i j, within all number j i),
    )

-- ---- more points

-- who is ahead of or level with one is ahead of another with fewer points, and nobody is both
up_to_by_seat : (x y z : ℤ) (l m n : ℕ) → y <ℤ x
    → one_where (int_lt x z || (int_eq z x && nat_lt l m)) + one_where (not (int_lt x z || (int_eq z x && nat_lt l m)) && not (int_lt z x || (int_eq x z && nat_lt m l)))
    ≤ one_where (int_lt y z || (int_eq z y && nat_lt l n))
up_to_by_seat x y z l m n h = grind (arith, ints, nat_tests)

up_to_by_points : (x y z : ℤ) → y <ℤ x → one_where (int_lt x z) + one_where (not (int_lt x z) && not (int_lt z x)) ≤ one_where (int_lt y z)
up_to_by_points x y z h = grind (arith, ints)

up_to : (ties : Ties) (points : ByPlayer ℤ) (one other player : Player) → of_player points other <ℤ of_player points one
    → one_where (is_ahead ties points player one) + one_where (is_level ties points player one) ≤ one_where (is_ahead ties points player other)
up_to Share points one other player h = up_to_by_points (of_player points one) (of_player points other) (of_player points player) h
up_to Seat points one other player h = up_to_by_seat (of_player points one) (of_player points other) (of_player points player) (seat_number player) (seat_number one) (seat_number other) h

-- all who share a place are ahead of those with fewer points
pub sharers_are_ahead : (ties : Ties) (points : ByPlayer ℤ) (one other : Player) → of_player points other <ℤ of_player points one
    → ahead_of ties points one + sharers_of ties points one ≤ ahead_of ties points other
unfolding ahead_of sharers_of
sharers_are_ahead ties points one other h =
    let a = up_to ties points one other First h in
    let b = up_to ties points one other Second h in
    let c = up_to ties points one other Third h in
    let d = up_to ties points one other Fourth h in
    omega (arith, a, b, c, d)

not_both : (a b : Bool) → one_where a + one_where (not a && b) ≤ 1
not_both true b = omega arith
not_both false true = omega arith
not_both false false = omega arith

-- those ahead and the sharers are four at most
pub at_most_four : (ties : Ties) (points : ByPlayer ℤ) (player : Player) → ahead_of ties points player + sharers_of ties points player ≤ 4
unfolding ahead_of sharers_of
at_most_four ties points player =
    let each = λ (other : Player). not_both (is_ahead ties points other player) (not (is_ahead ties points player other)) in
    let a = each First in
    let b = each Second in
    let c = each Third in
    let d = each Fourth in
    omega (arith, a, b, c, d)

pub more_points_are_ahead : MorePointsAreAhead
more_points_are_ahead rules points one other h =
    omega (arith, sharers_are_ahead rules.ties points one other h, some_sharer rules.ties points one)
