-- The points of a hand by those of the hands that it leads to.
use Rattle.std.proofs.Common.{◌≡◌, ℕ, zero, suc, ◌+◌, ◌-◌, ◌*◌, ◌^◌, ◌<◌, ◌≤◌, ◌≢◌, Bool, true, false, cond, max, inl, inr, List, [], ◌∷◌, length, take, slice_set, get_or-set_same, get_or-set_other, refl, sym, ap, subst, ◌∙◌, ⊎_elim, arith}
use Rattle.std.proofs.lemmas.Bool.{cases_eq, leb-false, leb-true}
use Rattle.std.proofs.lemmas.List.{get_or-take}
use Rattle.std.proofs.lemmas.List.Sums.{sum_by-cons}
use Rattle.std.specs.Prelude.{nat_le, slice_index, slice_index_or, sum_by}
use Rattle.riichi_hand.specs.HandParts.{ShapeParts}
use Rattle.riichi_tiles.proofs.Members.{IsIn}
use Rattle.riichi_shape.specs.Accepted.{with_one}
use Rattle.riichi_shape.specs.EveryWinning.{distance_of}
use Rattle.riichi_shape.specs.LiveCopies.{live_in}
use Rattle.riichi_deeper.specs.Drawn.{parts_with}
use Rattle.riichi_chances.specs.Counted.{accepts, counted_behind, counted_rest}
use Rattle.riichi_chances.specs.Draws.{all_draws, is_there}
use Rattle.riichi_chances.specs.Graph.{IsNode, draws_in, placed_hand, rest_by, rests_value}
use Rattle.riichi_chances.specs.Laws.{IsThirteen}
use Rattle.riichi_chances.specs.Numbers.{AreAllDraws, most_draws, unseen_at}
use Rattle.riichi_chances.specs.declared.node.Node.{Node}
use Rattle.riichi_chances.specs.declared.span.Span.{Span}
use Rattle.riichi_chances.proofs.BoundLemmas.{accepted_few, all_few, most_more, most_rises, pairs_few, step_few, times_few}
use Rattle.riichi_chances.proofs.BuildingLemmas.{one_nearer}
use Rattle.riichi_chances.proofs.GraphLemmas.{draws_same}
use Rattle.riichi_chances.proofs.RowLemmas.{accepted_in, few_melds, not_won, sum_same, won}
use Rattle.riichi_chances.proofs.SpanLemmas.{one_turn_more}
use Rattle.riichi_chances.proofs.SumLemmas.{greatest_few}
use Rattle.riichi_worth.specs.CountedPoints.{counted_points, points_by, points_with, prize_times, prizes_of}
use Rattle.riichi_worth.specs.Prizes.{prize_of}
use Rattle.riichi_worth.specs.Rows.{ArePlaced, BeginFewPoints, FollowPoints, HasPoints, begun_points, most_points, no_row, placed_points, points_at}
use Rattle.riichi_worth.specs.PointRows.{PointRow}
use Rattle.riichi_worth.specs.declared.stakes.Stakes.{Stakes}
use Rattle.riichi_worth.proofs.PrizeLemmas.{prize_few}

-- ---- how great they can be

pub most_step : (left n : ℕ) → n ≤ 136 * most_points left → n ≤ most_points (suc left)
most_step left n few = omega (arith, few, most_more left)

module _ (stakes : Stakes) where
  behind_few : (unseen left : ℕ) → unseen ≤ 136 → (value : ShapeParts → ℕ) → ((rest : ShapeParts) → value rest ≤ most_points left) → (parts : ShapeParts) (kind : ℕ) → points_with stakes unseen left value parts kind ≤ most_points left
  unfolding counted_rest
  behind_few unseen left few value each parts kind =
      by_test (is_there 0 (parts_with parts kind)) (times_few (prize_of stakes parts.tiles parts.melds kind) 5000000 (all_draws unseen left) (most_draws left) (prize_few stakes parts.tiles parts.melds kind) (all_few unseen left few)) (greatest_few _ (most_points left) _ (λ k i. each _))
    where
      by_test : {a b : ℕ} (t : Bool) → a ≤ most_points left → b ≤ most_points left → cond t a b ≤ most_points left
      by_test true here there = here
      by_test false here there = there

  pub points_few : (turns unseen : ℕ) (parts : ShapeParts) → unseen ≤ 136 → counted_points stakes parts unseen turns ≤ most_points turns
  unfolding counted_points
  points_few zero unseen parts few = omega arith
  points_few (suc left) unseen parts few =
      most_step left (counted_points stakes parts unseen (suc left))
      (step_few (unseen - live_in (accepts parts)) (live_in (accepts parts)) (counted_points stakes parts (unseen - 1) left) (sum_by (points_by stakes (unseen - 1) left (λ rest. counted_points stakes rest (unseen - 1) left) parts) (accepts parts)) (most_points left) (omega (arith, few, accepted_few parts)) (points_few left (unseen - 1) parts (omega arith))
      (pairs_few (points_with stakes (unseen - 1) left (λ rest. counted_points stakes rest (unseen - 1) left) parts) (most_points left) (behind_few (unseen - 1) left (omega arith) (λ rest. counted_points stakes rest (unseen - 1) left) (λ rest. points_few left (unseen - 1) rest (omega arith)) parts) (accepts parts)))

  pub prizes_few : (parts : ShapeParts) → prizes_of stakes parts ≤ live_in (accepts parts) * 5000000
  unfolding prizes_of
  prizes_few parts = pairs_few (prize_of stakes parts.tiles parts.melds) 5000000 (prize_few stakes parts.tiles parts.melds) (accepts parts)

last_fits : 5000000 * most_draws 18 < 2 ^ 192
unfolding most_draws
last_fits = omega arith

pub points_fit : (turns n : ℕ) → turns ≤ 18 → n ≤ most_points turns → n < 2 ^ 192
points_fit turns n few small = omega (arith, small, most_rises turns (18 - turns), ap most_draws (whole turns few), last_fits)
  where
    whole : (m : ℕ) → m ≤ 18 → 18 - m + m ≡ 18
    whole m low = omega arith

-- the next number of a hand
pub next_few : (unseen live own begun left : ℕ) → unseen ≤ 136 → live ≤ 136 → own ≤ most_points left → begun ≤ live * most_points left → begun + (unseen - live) * own ≤ most_points (left + 1)
next_few unseen live own begun left few some small more =
    omega (arith, step_few (unseen - live) live own begun (most_points left) (omega (arith, few, some)) small more, most_step left ((unseen - live) * own + begun) (step_few (unseen - live) live own begun (most_points left) (omega (arith, few, some)) small more), ap most_points (one left))
  where
    one : (n : ℕ) → suc n ≡ n + 1
    one n = omega arith

-- ---- the points of thirteen tiles

module _ (stakes : Stakes) (span : Span) (parts : ShapeParts) (is : IsThirteen parts) where
  -- those of the draws that begin with an accepted kind
  abbrev pub gains : ℕ → ℕ
  gains left = sum_by (points_by stakes (unseen_at span left) left (points_at stakes span left) parts) (accepts parts)

  none_yet : counted_points stakes parts (unseen_at span 0) 0 ≡ 0
  unfolding counted_points
  none_yet = refl

  one_more : (unseen left : ℕ) → counted_points stakes parts unseen (suc left) ≡ (unseen - live_in (accepts parts)) * counted_points stakes parts (unseen - 1) left + sum_by (points_by stakes (unseen - 1) left (λ rest. counted_points stakes rest (unseen - 1) left) parts) (accepts parts)
  unfolding counted_points
  one_more unseen left = refl

  module _ (live : ℕ) (live_is : live ≡ live_in (accepts parts)) (begun row : List ℕ) (are_gains : (left : ℕ) → left < span.turns → slice_index begun left ≡ gains left) (follows : FollowPoints span live begun row) where
    step : (left : ℕ) → left < span.turns → slice_index row left ≡ points_at stakes span left parts → slice_index row (left + 1) ≡ counted_points stakes parts (unseen_at span (left + 1)) (suc left)
    step left low so_far =
        follows.more left low ∙ ap (λ n. (unseen_at span (left + 1) - n) * slice_index row left + slice_index begun left) live_is
        ∙ ap (λ n. (unseen_at span (left + 1) - live_in (accepts parts)) * slice_index row left + n) (are_gains left low)
        ∙ ap (λ n. (unseen_at span (left + 1) - live_in (accepts parts)) * n + gains left) so_far
        ∙ ap (λ n. (unseen_at span (left + 1) - live_in (accepts parts)) * counted_points stakes parts n left + sum_by (points_by stakes n left (λ rest. counted_points stakes rest n left) parts) (accepts parts)) (sym (one_turn_more span left low))
        ∙ sym (one_more (unseen_at span (left + 1)) left)

    pub followed : HasPoints stakes span parts row
    followed zero low = follows.none ∙ sym none_yet
    followed (suc left) low =
        ap (slice_index row) (one left) ∙ step left (omega arith) (followed left (omega arith)) ∙ ap (λ n. counted_points stakes parts (unseen_at span n) (suc left)) (sym (one left))
      where
        one : (n : ℕ) → suc n ≡ n + 1
        one n = omega arith

  -- so few begin with one
  pub gains_few : span.unseen ≤ 136 → (left : ℕ) → gains left ≤ live_in (accepts parts) * most_points left
  gains_few few left = pairs_few (points_with stakes (unseen_at span left) left (points_at stakes span left) parts) (most_points left) (behind_few stakes (unseen_at span left) left (omega (arith, few)) (points_at stakes span left) (λ rest. points_few stakes left (unseen_at span left) rest (omega (arith, few))) parts) (accepts parts)

  -- a ready hand wins by each kind that it accepts
  pub won_gains : nat_le (distance_of parts.tiles parts.melds) 1 ≡ true → (left : ℕ) → prizes_of stakes parts * all_draws (unseen_at span left) left ≡ gains left
  unfolding prizes_of
  won_gains ready left = times_each (accepts parts) (λ pair there. there)
    where
      all : ℕ
      all = all_draws (unseen_at span left) left

      near : (pair : ℕ × ℕ) → IsIn pair (accepts parts) → is_there 0 (parts_with parts pair.0) ≡ true
      near pair there = won (distance_of (with_one parts.tiles pair.0) parts.melds) (omega (arith, (accepted_in parts pair there).1, ready_told (distance_of parts.tiles parts.melds) ready))
        where
          ready_told : (d : ℕ) → nat_le d 1 ≡ true → d ≤ 1
          ready_told d e = leb-true d 1 e

      one : (pair : ℕ × ℕ) → IsIn pair (accepts parts) → points_by stakes (unseen_at span left) left (points_at stakes span left) parts pair ≡ prize_times stakes parts pair * all
      one pair there = ap (λ t. pair.1 * cond t (prize_of stakes parts.tiles parts.melds pair.0 * all) (counted_rest (points_at stakes span left) (parts_with parts pair.0))) (near pair there) ∙ by_all (pair.1) (prize_of stakes parts.tiles parts.melds pair.0) all
        where
          by_all : (l p a : ℕ) → l * (p * a) ≡ (l * p) * a
          by_all l p a = omega arith

      times_each : (pairs : List (ℕ × ℕ)) → ((pair : ℕ × ℕ) → IsIn pair pairs → IsIn pair (accepts parts)) → sum_by (prize_times stakes parts) pairs * all ≡ sum_by (points_by stakes (unseen_at span left) left (points_at stakes span left) parts) pairs
      times_each [] inside = omega arith
      times_each (pair ∷ pairs) inside =
          add (prize_times stakes parts pair) (sum_by (prize_times stakes parts) pairs) _ _ _ _ (sum_by-cons (prize_times stakes parts) pair pairs) (sum_by-cons (points_by stakes (unseen_at span left) left (points_at stakes span left) parts) pair pairs) (one pair (inside pair (inl refl))) (times_each pairs (λ p i. inside p (inr i)))
        where
          add : (a r s t b u : ℕ) → s ≡ a + r → t ≡ b + u → b ≡ a * all → r * all ≡ u → s * all ≡ t
          add a r s t b u e f g h = ap (λ n. n * all) e ∙ both a r ∙ ap (λ n. n + r * all) (sym g) ∙ ap (λ n. b + n) h ∙ sym f
            where
              both : (x y : ℕ) → (x + y) * all ≡ x * all + y * all
              both x y = omega arith

  -- any other draws one of them, and makes a best discard
  pub rests_gains : 1 < distance_of parts.tiles parts.melds → (left : ℕ) → rests_value (points_at stakes span left) 0 parts ≡ gains left
  rests_gains far left = sum_same (rest_by (points_at stakes span left) 0 parts) (points_by stakes (unseen_at span left) left (points_at stakes span left) parts) (accepts parts) (λ pair there. ap (λ n. pair.1 * n) (each pair there))
    where
      each : (pair : ℕ × ℕ) → IsIn pair (accepts parts) → max (counted_rest (points_at stakes span left) (parts_with parts pair.0)) 0 ≡ points_with stakes (unseen_at span left) left (points_at stakes span left) parts pair.0
      each pair there =
          least (counted_rest (points_at stakes span left) (parts_with parts pair.0))
          ∙ sym (ap (λ t. cond t (prize_of stakes parts.tiles parts.melds pair.0 * all_draws (unseen_at span left) left) (counted_rest (points_at stakes span left) (parts_with parts pair.0)))
          (not_won (distance_of (with_one parts.tiles pair.0) parts.melds) (omega (arith, far, one_nearer parts.tiles parts.melds (few_melds parts is) is.melded is.each_kind pair.0 (accepted_in parts pair there).0))))
        where
          least : (n : ℕ) → max n 0 ≡ n
          least n = omega arith

-- ---- what stands at a place

module _ (stakes : Stakes) (span : Span) (unseen : span.unseen ≤ 136) (root : ShapeParts) (hands : List (List ℕ)) (place : ℕ) (node : Node) (is : IsNode hands place (placed_hand root hands place) node) where
  abbrev parts : ShapeParts
  parts = placed_hand root hands place

  -- of a ready hand
  module _ (ready : node.is_ready ≡ true) (prizes : ℕ) (prizes_are : prizes ≡ prizes_of stakes parts) (all begun : List ℕ) (are : AreAllDraws span all) (begun_are : (left : ℕ) → left < span.turns → slice_index begun left ≡ prizes * slice_index all left) where
    pub ready_gains : (left : ℕ) → left < span.turns → slice_index begun left ≡ gains stakes span parts is.whole left
    ready_gains left low =
        begun_are left low ∙ ap (λ n. n * slice_index all left) prizes_are ∙ ap (λ n. prizes_of stakes parts * n) (are left (omega (arith, low))) ∙ won_gains stakes span parts is.whole (sym is.ready ∙ ready) left

  -- of any other
  module _ (far : node.is_ready ≡ false) (earlier : List PointRow) (are : ArePlaced stakes span root hands place earlier) where
    far_away : 1 < distance_of parts.tiles parts.melds
    far_away = omega (arith, leb-false (distance_of parts.tiles parts.melds) 1 (sym is.ready ∙ far))

    pub far_gains : (left : ℕ) → left < span.turns → begun_points earlier left (draws_in node.draws) ≡ gains stakes span parts is.whole left
    far_gains left low =
        draws_same (placed_points earlier left) (λ p. points_at stakes span left (placed_hand parts hands p)) 0 place (draws_in node.draws) is.before (λ p small. are p small left (omega (arith, low)))
        ∙ is.leads far (points_at stakes span left) 0 ∙ rests_gains stakes span parts is.whole far_away left

    pub begun_fits : span.turns ≤ 18 → (left : ℕ) → left < span.turns → begun_points earlier left (draws_in node.draws) < 2 ^ 192
    begun_fits turns left low =
        points_fit (suc left) (begun_points earlier left (draws_in node.draws)) (omega (arith, low, turns))
        (most_step left (begun_points earlier left (draws_in node.draws)) (omega (arith, far_gains left low, gains_few stakes span parts is.whole unseen left, times_few (live_in (accepts parts)) 136 (most_points left) (most_points left) (accepted_few parts) (omega arith))))

  -- of both
  module _ (begun : List ℕ) (are_gains : (left : ℕ) → left < span.turns → slice_index begun left ≡ gains stakes span parts is.whole left) where
    pub begin_few : BeginFewPoints span node.live begun
    begin_few left low = omega (arith, are_gains left low, gains_few stakes span parts is.whole unseen left, ap (λ n. n * most_points left) is.live)

    pub has_points : (row : List ℕ) → FollowPoints span node.live begun row → HasPoints stakes span parts row
    has_points row follows = followed stakes span parts is.whole node.live is.live begun row are_gains follows

-- ---- one more place

pub rows_first : (stakes : Stakes) (span : Span) (root : ShapeParts) (hands : List (List ℕ)) (count : ℕ) (rows : List PointRow) → ArePlaced stakes span root hands count rows → ArePlaced stakes span root hands count (take count rows)
rows_first stakes span root hands count rows are place low = subst (λ (row : PointRow). HasPoints stakes span (placed_hand root hands place) row.points) (sym (get_or-take count rows place no_row low)) (are place low)

pub rows_more : (stakes : Stakes) (span : Span) (root : ShapeParts) (hands : List (List ℕ)) (rows : List PointRow) (place : ℕ) (row : PointRow) → ArePlaced stakes span root hands place rows → place < length rows → HasPoints stakes span (placed_hand root hands place) row.points → ArePlaced stakes span root hands (place + 1) (slice_set rows place row)
rows_more stakes span root hands rows place row are inside has p low = ⊎_elim here (λ ne. other ne) (cases_eq p place)
  where
    other : p ≢ place → HasPoints stakes span (placed_hand root hands p) (slice_index_or (slice_set rows place row) p no_row).points
    other ne = subst (λ (r : PointRow). HasPoints stakes span (placed_hand root hands p) r.points) (sym (get_or-set_other rows place p row no_row ne)) (are p (omega (arith, low, ne)))

    here : p ≡ place → HasPoints stakes span (placed_hand root hands p) (slice_index_or (slice_set rows place row) p no_row).points
    here e = subst (λ (q : ℕ). HasPoints stakes span (placed_hand root hands q) (slice_index_or (slice_set rows place row) q no_row).points) (sym e) (subst (λ (r : PointRow). HasPoints stakes span (placed_hand root hands place) r.points) (sym (get_or-set_same rows place row no_row inside)) has)
