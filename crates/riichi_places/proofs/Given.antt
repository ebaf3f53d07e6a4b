-- All bonuses are given, and no more.
use Rattle.std.proofs.Common.{◌≡◌, ℕ, ◌+◌, ◌<◌, Bool, true, false, not, ◌&&◌, ◌||◌, ◌⊎◌, inl, inr, ℤ, ◌+ℤ◌, ap, refl, sym, ◌∙◌, arith}
use Rattle.std.specs.Prelude.{int_lt, nat_lt, ◌<ℤ◌}
use Rattle.std.specs.Ordering.{int_eq}
use Rattle.std.proofs.lemmas.Int.{ints}
use Rattle.std.proofs.lemmas.Bool.Decides.{nat_tests}
use Rattle.riichi_table.specs.Players.{of_player, one_where}
use Rattle.riichi_table.specs.RulesFaults.{uma_sum}
use Rattle.riichi_table.specs.declared.player.Player.{Player}
use Rattle.riichi_table.specs.declared.player.ByPlayer.{ByPlayer}
use Rattle.riichi_table.specs.declared.rules.Ties.{Ties}
use Rattle.riichi_table.specs.declared.rules.Ties.TheVariants.{Share, Seat}
use Rattle.riichi_table.specs.declared.rules.TableRules.{TableRules}
use Rattle.riichi_places.specs.Places.{seat_number, is_before, is_ahead, is_level, ahead_of, sharers_of, earlier_of}
use Rattle.riichi_places.specs.Bonuses.{place_bonus, bonus_if_taken, bonuses, shared_bonus, bonus_of, returned}
use Rattle.riichi_places.specs.Laws.{AllBonusesAreGiven}
use Rattle.riichi_places.proofs.Counts.{not_ahead_of_self, level_with_self}
use Rattle.riichi_places.proofs.Order.{IsBefore, Order, in_order}
use Rattle.riichi_places.proofs.Parts.{one_part, two_parts, three_parts, four_parts}

-- ---- two players, of whom one is before the other in the order

behind : (x y : ℤ) (m n : ℕ) → (y <ℤ x) ⊎ ((x ≡ y) × (m < n)) → int_lt x y ≡ false
behind x y m n (inl h) = grind (arith, ints)
behind x y m n (inr h) = grind (arith, ints)

behind_by_seat : (x y : ℤ) (m n : ℕ) → (y <ℤ x) ⊎ ((x ≡ y) × (m < n)) → (int_lt x y || (int_eq y x && nat_lt n m)) ≡ false
behind_by_seat x y m n (inl h) = grind (arith, ints, nat_tests)
behind_by_seat x y m n (inr h) = grind (arith, ints, nat_tests)

pub ahead_by_seat : (x y : ℤ) (m n : ℕ) → (y <ℤ x) ⊎ ((x ≡ y) × (m < n)) → (int_lt y x || (int_eq x y && nat_lt m n)) ≡ true
ahead_by_seat x y m n (inl h) = grind (arith, ints, nat_tests)
ahead_by_seat x y m n (inr h) = grind (arith, ints, nat_tests)

seat_of_level : (x y : ℤ) (m n : ℕ) → (y <ℤ x) ⊎ ((x ≡ y) × (m < n)) → int_lt y x ≡ false → (nat_lt m n ≡ true) × (nat_lt n m ≡ false)
seat_of_level x y m n (inl h) level = absurd (omega (arith, ints))
seat_of_level x y m n (inr h) level = (grind (arith, nat_tests), grind (arith, nat_tests))

before_twice : (x y z : ℤ) (l m n : ℕ) → (y <ℤ x) ⊎ ((x ≡ y) × (l < m)) → (z <ℤ y) ⊎ ((y ≡ z) × (m < n)) → (z <ℤ x) ⊎ ((x ≡ z) × (l < n))
before_twice x y z l m n (inl h) (inl k) = inl (omega (arith, ints))
before_twice x y z l m n (inl h) (inr k) = inl (omega (arith, ints))
before_twice x y z l m n (inr h) (inl k) = inl (omega (arith, ints))
before_twice x y z l m n (inr h) (inr k) = inr (omega (arith, ints), omega arith)

ahead_twice : (x y z : ℤ) (l m n : ℕ) → (y <ℤ x) ⊎ ((x ≡ y) × (l < m)) → (z <ℤ y) ⊎ ((y ≡ z) × (m < n)) → int_lt z x ≡ (int_lt y x || int_lt z y)
ahead_twice x y z l m n (inl h) (inl k) = grind (arith, ints)
ahead_twice x y z l m n (inl h) (inr k) = grind (arith, ints)
ahead_twice x y z l m n (inr h) (inl k) = grind (arith, ints)
ahead_twice x y z l m n (inr h) (inr k) = grind (arith, ints)

not_behind : (ties : Ties) (points : ByPlayer ℤ) (i j : Player) → IsBefore points i j → is_ahead ties points j i ≡ false
not_behind Share points i j h = behind (of_player points i) (of_player points j) (seat_number i) (seat_number j) h
not_behind Seat points i j h = behind_by_seat (of_player points i) (of_player points j) (seat_number i) (seat_number j) h

seats : (ties : Ties) (points : ByPlayer ℤ) (i j : Player) → IsBefore points i j → is_ahead ties points i j ≡ false → (is_before i j ≡ true) × (is_before j i ≡ false)
seats Share points i j h level = seat_of_level (of_player points i) (of_player points j) (seat_number i) (seat_number j) h level
seats Seat points i j h level = let e = ahead_by_seat (of_player points i) (of_player points j) (seat_number i) (seat_number j) h in absurd (cc)

through : (points : ByPlayer ℤ) (i j k : Player) → IsBefore points i j → IsBefore points j k → IsBefore points i k
through points i j k h m = before_twice (of_player points i) (of_player points j) (of_player points k) (seat_number i) (seat_number j) (seat_number k) h m

joined : (ties : Ties) (points : ByPlayer ℤ) (i j k : Player) → IsBefore points i j → IsBefore points j k
    → is_ahead ties points i k ≡ (is_ahead ties points i j || is_ahead ties points j k)
joined Share points i j k h m = ahead_twice (of_player points i) (of_player points j) (of_player points k) (seat_number i) (seat_number j) (seat_number k) h m
joined Seat points i j k h m =
    let ij = ahead_by_seat (of_player points i) (of_player points j) (seat_number i) (seat_number j) h in
    let ik = ahead_by_seat (of_player points i) (of_player points k) (seat_number i) (seat_number k) (through points i j k h m) in
    ik ∙ ap (λ ahead. ahead || is_ahead Seat points j k) (sym ij)

-- what is known of two players in their order: the former is ahead, or they are level
pub record Pair (ties : Ties) (points : ByPlayer ℤ) (i j : Player) (strictly : Bool) : Type 0 where
  pub ahead : is_ahead ties points i j ≡ strictly
  pub behind : is_ahead ties points j i ≡ false
  pub level : is_level ties points i j ≡ not strictly
  pub level_back : is_level ties points j i ≡ not strictly
  pub earlier : (is_level ties points i j && is_before i j) ≡ not strictly
  pub later : (is_level ties points j i && is_before j i) ≡ false

if_level : (level before ahead : Bool) → level ≡ not ahead → (ahead ≡ false → before ≡ true) → (level && before) ≡ not ahead
if_level level before true e h = ap (λ x. x && before) e
if_level level before false e h = ap (λ x. x && before) e ∙ h refl

never : (level before ahead : Bool) → level ≡ not ahead → (ahead ≡ false → before ≡ false) → (level && before) ≡ false
never level before true e h = ap (λ x. x && before) e
never level before false e h = ap (λ x. x && before) e ∙ h refl

both : (ahead back : Bool) → back ≡ false → (not ahead && not back) ≡ not ahead
both true back e = refl
both false back e = ap not e

pair_of : (ties : Ties) (points : ByPlayer ℤ) (i j : Player) (ahead : Bool) → IsBefore points i j → is_ahead ties points i j ≡ ahead → Pair ties points i j ahead
pair_of ties points i j ahead h is =
    let back = not_behind ties points i j h in
    let level : is_level ties points i j ≡ not ahead = both (is_ahead ties points i j) (is_ahead ties points j i) back ∙ ap not is in
    let level_back : is_level ties points j i ≡ not ahead = ap (λ x. not x && not (is_ahead ties points i j)) back ∙ ap not is in
    record {
      ahead = is;
      behind = back;
      level = level;
      level_back = level_back;
      earlier = if_level (is_level ties points i j) (is_before i j) ahead level (λ e. (seats ties points i j h (is ∙ e)).0);
      later = never (is_level ties points j i) (is_before j i) ahead level_back (λ e. (seats ties points i j h (is ∙ e)).1);
    }

-- how a player stands: so many ahead, so many sharers, so many of these earlier
pub record Stands (ties : Ties) (points : ByPlayer ℤ) (player : Player) (above beside seated : ℕ) : Type 0 where
  pub ahead : ahead_of ties points player ≡ above
  pub sharers : sharers_of ties points player ≡ beside
  pub earlier : earlier_of ties points player ≡ seated

four : {a b c d e f g h : Bool} → a ≡ e → b ≡ f → c ≡ g → d ≡ h → one_where a + one_where b + one_where c + one_where d ≡ one_where e + one_where f + one_where g + one_where h
four p q r s = λ k. one_where (p k) + one_where (q k) + one_where (r k) + one_where (s k)

not_earlier_than_self : (ties : Ties) (points : ByPlayer ℤ) (player : Player) → (is_level ties points player player && is_before player player) ≡ false
not_earlier_than_self ties points player = ap (λ level. level && is_before player player) (level_with_self ties points player) ∙ not_less (seat_number player)
  where
    not_less : (n : ℕ) → nat_lt n n ≡ false
    not_less n = grind (arith, nat_tests)

-- the four in their order, by whether each is ahead of the next
pub record Standings (ties : Ties) (points : ByPlayer ℤ) (order : Order points) (pq qr rs : Bool) : Type 0 where
  pub one : Stands ties points order.one 0 (1 + one_where (not pq) + one_where (not (pq || qr)) + one_where (not (pq || qr || rs))) 0
  pub two : Stands ties points order.two (one_where pq) (one_where (not pq) + 1 + one_where (not qr) + one_where (not (qr || rs))) (one_where (not pq))
  pub three : Stands ties points order.three (one_where (pq || qr) + one_where qr) (one_where (not (pq || qr)) + one_where (not qr) + 1 + one_where (not rs)) (one_where (not (pq || qr)) + one_where (not qr))
  pub four : Stands ties points order.four (one_where (pq || qr || rs) + one_where (qr || rs) + one_where rs) (one_where (not (pq || qr || rs)) + one_where (not (qr || rs)) + one_where (not rs) + 1) (one_where (not (pq || qr || rs)) + one_where (not (qr || rs)) + one_where (not rs))

pub standings : (ties : Ties) (points : ByPlayer ℤ) (order : Order points)
    → Standings ties points order (is_ahead ties points order.one order.two) (is_ahead ties points order.two order.three) (is_ahead ties points order.three order.four)
unfolding ahead_of sharers_of earlier_of
standings ties points order =
    let p = order.one in let q = order.two in let r = order.three in let s = order.four in
    let bpr = through points p q r order.first order.second in
    let bqs = through points q r s order.second order.third in
    let bps = through points p r s bpr order.third in
    let apq = is_ahead ties points p q in let aqr = is_ahead ties points q r in let ars = is_ahead ties points r s in
    let pq = pair_of ties points p q apq order.first refl in
    let qr = pair_of ties points q r aqr order.second refl in
    let rs = pair_of ties points r s ars order.third refl in
    let pr = pair_of ties points p r (apq || aqr) bpr (joined ties points p q r order.first order.second) in
    let qs = pair_of ties points q s (aqr || ars) bqs (joined ties points q r s order.second order.third) in
    let ps = pair_of ties points p s (apq || aqr || ars) bps (joined ties points p r s bpr order.third ∙ ap (λ x. x || ars) pr.ahead) in
    let ahead = λ (player : Player) (other : Player). one_where (is_ahead ties points other player) in
    let level = λ (player : Player) (other : Player). one_where (is_level ties points other player) in
    let earlier = λ (player : Player) (other : Player). one_where (is_level ties points other player && is_before other player) in
    let self = not_ahead_of_self ties points in
    let same = level_with_self ties points in
    let none = not_earlier_than_self ties points in
    record {
      one = record {
        ahead = order.all.0 (ahead p) ∙ four (self p) pq.behind pr.behind ps.behind;
        sharers = order.all.0 (level p) ∙ four (same p) pq.level_back pr.level_back ps.level_back;
        earlier = order.all.0 (earlier p) ∙ four (none p) pq.later pr.later ps.later;
      };
      two = record {
        ahead = order.all.0 (ahead q) ∙ four pq.ahead (self q) qr.behind qs.behind ∙ omega arith;
        sharers = order.all.0 (level q) ∙ four pq.level (same q) qr.level_back qs.level_back;
        earlier = order.all.0 (earlier q) ∙ four pq.earlier (none q) qr.later qs.later ∙ omega arith;
      };
      three = record {
        ahead = order.all.0 (ahead r) ∙ four pr.ahead qr.ahead (self r) rs.behind ∙ omega arith;
        sharers = order.all.0 (level r) ∙ four pr.level qr.level (same r) rs.level_back;
        earlier = order.all.0 (earlier r) ∙ four pr.earlier qr.earlier (none r) rs.later ∙ omega arith;
      };
      four = record {
        ahead = order.all.0 (ahead s) ∙ four ps.ahead qs.ahead rs.ahead (self s) ∙ omega arith;
        sharers = order.all.0 (level s) ∙ four ps.level qs.level rs.level (same s);
        earlier = order.all.0 (earlier s) ∙ four ps.earlier qs.earlier rs.earlier (none s) ∙ omega arith;
      };
    }

-- ---- the bonuses by how the four stand

all_given : (rules : TableRules) (pq qr rs : Bool) →
    shared_bonus rules (1 + 0) (1 + one_where (not pq) + one_where (not (pq || qr)) + one_where (not (pq || qr || rs))) 0
    +ℤ shared_bonus rules (1 + one_where pq) (one_where (not pq) + 1 + one_where (not qr) + one_where (not (qr || rs))) (one_where (not pq))
    +ℤ shared_bonus rules (1 + (one_where (pq || qr) + one_where qr)) (one_where (not (pq || qr)) + one_where (not qr) + 1 + one_where (not rs)) (one_where (not (pq || qr)) + one_where (not qr))
    +ℤ shared_bonus rules (1 + (one_where (pq || qr || rs) + one_where (qr || rs) + one_where rs)) (one_where (not (pq || qr || rs)) + one_where (not (qr || rs)) + one_where (not rs) + 1) (one_where (not (pq || qr || rs)) + one_where (not (qr || rs)) + one_where (not rs))
    ≡ uma_sum rules.uma +ℤ returned rules
unfolding shared_bonus bonuses bonus_if_taken place_bonus uma_sum
all_given rules true true true = omega (arith, ints, one_part (bonuses rules 1 1), one_part (bonuses rules 2 1), one_part (bonuses rules 3 1), one_part (bonuses rules 4 1))
all_given rules true true false = omega (arith, ints, one_part (bonuses rules 1 1), one_part (bonuses rules 2 1), two_parts (bonuses rules 3 2))
all_given rules true false true = omega (arith, ints, one_part (bonuses rules 1 1), two_parts (bonuses rules 2 2), one_part (bonuses rules 4 1))
all_given rules true false false = omega (arith, ints, one_part (bonuses rules 1 1), three_parts (bonuses rules 2 3))
all_given rules false true true = omega (arith, ints, two_parts (bonuses rules 1 2), one_part (bonuses rules 3 1), one_part (bonuses rules 4 1))
all_given rules false true false = omega (arith, ints, two_parts (bonuses rules 1 2), two_parts (bonuses rules 3 2))
all_given rules false false true = omega (arith, ints, three_parts (bonuses rules 1 3), one_part (bonuses rules 4 1))
all_given rules false false false = omega (arith, ints, four_parts (bonuses rules 1 4))

by_standing : (rules : TableRules) (points : ByPlayer ℤ) (player : Player) (ahead sharers earlier : ℕ) → Stands rules.ties points player ahead sharers earlier
    → bonus_of rules points player ≡ shared_bonus rules (1 + ahead) sharers earlier
by_standing rules points player ahead sharers earlier h = λ k. shared_bonus rules (1 + h.ahead k) (h.sharers k) (h.earlier k)

pub all_bonuses_are_given : AllBonusesAreGiven
all_bonuses_are_given rules points =
    let order = in_order points in
    let stand = standings rules.ties points order in
    let one = by_standing rules points order.one _ _ _ stand.one in
    let two = by_standing rules points order.two _ _ _ stand.two in
    let three = by_standing rules points order.three _ _ _ stand.three in
    let last = by_standing rules points order.four _ _ _ stand.four in
    order.all.1 (bonus_of rules points) ∙ (λ k. one k +ℤ two k +ℤ three k +ℤ last k)
    ∙ all_given rules (is_ahead rules.ties points order.one order.two) (is_ahead rules.ties points order.two order.three) (is_ahead rules.ties points order.three order.four)
