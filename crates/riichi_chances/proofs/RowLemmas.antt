-- The rows of a hand by those of the hands that it leads to.
use Rattle.std.proofs.Common.{◌≡◌, ℕ, ◌+◌, ◌-◌, ◌*◌, ◌<◌, ◌≤◌, Bool, true, false, max, inl, inr, List, [], ◌∷◌, ◌≢◌, length, take, drop, slice_set, get_or, get_or-set_same, get_or-set_other, refl, sym, ap, subst, ◌∙◌, ⊎_elim, arith}
use Rattle.std.proofs.lemmas.Bool.{and_parts, cases_eq, eq-eqb, leb-false, ltb-true}
use Rattle.std.proofs.lemmas.Bool.Decides.{nat_tests}
use Rattle.std.proofs.lemmas.List.{drop_all, get_or-take}
use Rattle.std.proofs.lemmas.List.Sums.{sum_by-cons, sum_by-drop_more}
use Rattle.std.specs.List.{filter}
use Rattle.std.specs.Prelude.{nat_le, nat_lt, slice_index, slice_index_or, sum_by}
use Rattle.riichi_hand.specs.HandParts.{ShapeParts}
use Rattle.riichi_tiles.specs.Melds.{every_kind}
use Rattle.riichi_tiles.proofs.Members.{IsIn, in-filter, in-filter-inv, in-map-inv, in-range, in-range-inv}
use Rattle.riichi_shape.specs.Accepted.{accepted_of, is_accepted, live_of, with_one}
use Rattle.riichi_shape.specs.Discards.{distance_without, is_discard}
use Rattle.riichi_shape.specs.EveryWinning.{distance_of}
use Rattle.riichi_shape.specs.LiveCopies.{live_in}
use Rattle.riichi_shape.proofs.LeastLeft.{least_is}
use Rattle.riichi_shape.proofs.Nearer.{distance_reached}
use Rattle.riichi_shape.proofs.ReadyLemmas.{ready_is}
use Rattle.riichi_shape.proofs.RemovalLemmas.{chosen_is}
use Rattle.riichi_deeper.proofs.DrawnLemmas.{size_with}
use Rattle.riichi_deeper.specs.Drawn.{parts_with}
use Rattle.riichi_chances.specs.Aims.{Aim, HasCounts, HasRows, draws_at, lack_of, floor_of, numbers_for}
use Rattle.riichi_chances.specs.Bests.{BeginFew, FollowDraws, FollowReady, begun_by}
use Rattle.riichi_chances.specs.Counted.{accepts, counted_rest, counted_with, parts_less}
use Rattle.riichi_chances.specs.Draws.{all_draws, greatest, is_there}
use Rattle.riichi_chances.specs.Graph.{AreRows, HandGraph, IsGraph, IsNode, draw_value, draws_in, draws_value, no_rows, placed_hand, placed_number, places_in, rest_by, rests_value}
use Rattle.riichi_chances.specs.Laws.{IsFourteen, IsThirteen}
use Rattle.riichi_chances.specs.Numbers.{AreAllDraws, most_draws, unseen_at}
use Rattle.riichi_chances.specs.declared.node.Draw.{Draw}
use Rattle.riichi_chances.specs.declared.node.Node.{Node}
use Rattle.riichi_chances.specs.declared.rests.Rests.{Rests}
use Rattle.riichi_chances.specs.declared.rows.Column.{Column}
use Rattle.riichi_chances.specs.declared.rows.Column.TheVariants.{Ready, Win, ReadyAtMost, WinAtMost}
use Rattle.riichi_chances.specs.Rows.{Rows}
use Rattle.riichi_chances.specs.declared.span.Span.{Span}
use Rattle.riichi_chances.proofs.BoundLemmas.{accepted_few, all_few, times_few}
use Rattle.riichi_chances.proofs.BuildingLemmas.{one_nearer}
use Rattle.riichi_chances.proofs.CountingLemmas.{far_with, followed, gains_at, gains_bound, least_few, near_in, near_with}
use Rattle.riichi_chances.proofs.GraphLemmas.{draws_same, greatest_drop, greatest_none}
use Rattle.riichi_chances.proofs.NearestLemmas.{best_keeps, more_long}
use Rattle.riichi_chances.proofs.SumLemmas.{greatest_few}

-- ---- the numbers of a ready hand

greatest_one : (f : ℕ → ℕ) (p : ℕ) → greatest f (p ∷ []) ≡ f p
unfolding greatest
greatest_one f p = omega arith

module _ (column : Column) (span : Span) (live : ℕ) (unseen : span.unseen ≤ 136) (all : List ℕ) (are : AreAllDraws span all) (rows : Rows) (rows_are : numbers_for column rows ≡ all) (rests : Rests) (rests_are : places_in rests ≡ 0 ∷ []) where
  abbrev earlier : List Rows
  earlier = rows ∷ []

  abbrev wins : List Draw
  wins = (record { live = live; rests = rests }) ∷ []

  wins_value : (left own : ℕ) → left < span.turns → begun_by column earlier wins left own ≡ live * max (all_draws (unseen_at span left) left) (floor_of column own)
  wins_value left own low =
      sum_by-cons (draw_value (placed_number column earlier left) (floor_of column own)) (record { live = live; rests = rests }) [] ∙ none (live * max (greatest (placed_number column earlier left) (places_in rests)) (floor_of column own))
      ∙ ap (λ n. live * max n (floor_of column own)) (ap (greatest (placed_number column earlier left)) rests_are ∙ greatest_one (placed_number column earlier left) 0 ∙ ap (λ (ns : List ℕ). slice_index ns left) rows_are ∙ are left (omega (arith, low)))
    where
      none : (n : ℕ) → n + 0 ≡ n
      none n = omega arith

  pub ready_begin : BeginFew column span live earlier wins
  ready_begin left own low small =
      omega (arith, wins_value left own low, times_few live live (max (all_draws (unseen_at span left) left) (floor_of column own)) (most_draws left) (omega arith) (omega (arith, all_few (unseen_at span left) left (omega (arith, unseen)), least_few column own, small)))

  pub ready_follow : (row : List ℕ) → FollowDraws column span live earlier wins row → FollowReady column span live row
  ready_follow row follows = record {
    none = follows.none;
    more = λ left low. follows.more left low ∙ ap (λ n. (unseen_at span (left + 1) - live) * slice_index row left + n) (wins_value left (slice_index row left) low);
  }

-- ---- the greatest of some places, and the sum over some draws

pub greatest_next : (f : ℕ → ℕ) (places : List ℕ) (at place number after least n : ℕ) → at < length places → place ≡ get_or places at place → n ≡ f place → after ≡ max number n → max number (greatest f (drop at places)) ≡ max (greatest f places) least → max after (greatest f (drop (at + 1) places)) ≡ max (greatest f places) least
greatest_next f places at place number after least n low place_is read after_is so_far = up after number n (f place) (greatest f (drop at places)) (greatest f (drop (at + 1) places)) after_is read (greatest_drop f places at place low place_is) ∙ so_far
  where
    up : (a b n m g r : ℕ) → a ≡ max b n → n ≡ m → g ≡ max m r → max a r ≡ max b g
    up a b n m g r e h i = omega arith

pub greatest_last : (f : ℕ → ℕ) (places : List ℕ) (at number least : ℕ) → length places ≤ at → max number (greatest f (drop at places)) ≡ max (greatest f places) least → number ≡ max (greatest f places) least
greatest_last f places at number least past so_far = last number (greatest f (drop at places)) (ap (greatest f) (drop_all at places past) ∙ greatest_none f) ∙ so_far
  where
    last : (a r : ℕ) → r ≡ 0 → a ≡ max a r
    last a r e = omega arith

pub sum_next : (f : ℕ → ℕ) (least : ℕ) (draws : List Draw) (at number : ℕ) (d : Draw) → at < length draws → number ≡ max (greatest f (places_in (get_or draws at d).rests)) least → draws_value f least (drop at draws) ≡ (get_or draws at d).live * number + draws_value f least (drop (at + 1) draws)
sum_next f least draws at number d low number_is = sum_by-drop_more (draw_value f least) draws at d low ∙ ap (λ n. (get_or draws at d).live * n + draws_value f least (drop (at + 1) draws)) (sym number_is)

-- ---- what a hand accepts

pub sum_same : (f g : ℕ × ℕ → ℕ) (pairs : List (ℕ × ℕ)) → ((pair : ℕ × ℕ) → IsIn pair pairs → f pair ≡ g pair) → sum_by f pairs ≡ sum_by g pairs
sum_same f g [] same = refl
sum_same f g (pair ∷ pairs) same = sum_by-cons f pair pairs ∙ ap (λ n. n + sum_by f pairs) (same pair (inl refl)) ∙ ap (λ n. g pair + n) (sum_same f g pairs (λ p i. same p (inr i))) ∙ sym (sum_by-cons g pair pairs)

sum_times : (n : ℕ) (pairs : List (ℕ × ℕ)) → sum_by (λ (pair : ℕ × ℕ). pair.1 * n) pairs ≡ sum_by (λ (pair : ℕ × ℕ). pair.1) pairs * n
sum_times n [] = omega arith
sum_times n (pair ∷ pairs) = add (pair.1) (sum_by (λ (p : ℕ × ℕ). p.1) pairs) (sum_by-cons (λ (p : ℕ × ℕ). p.1 * n) pair pairs) (sum_by-cons (λ (p : ℕ × ℕ). p.1) pair pairs) (sum_times n pairs)
  where
    add : {s t r : ℕ} (l m : ℕ) → s ≡ l * n + r → t ≡ l + m → r ≡ m * n → s ≡ t * n
    add {s} {t} {r} l m e f h = e ∙ ap (λ x. l * n + x) h ∙ both ∙ ap (λ x. x * n) (sym f)
      where
        both : l * n + m * n ≡ (l + m) * n
        both = omega arith

-- a kind of the list brings the hand nearer
pub accepted_in : (parts : ShapeParts) (pair : ℕ × ℕ) → IsIn pair (accepts parts) → (pair.0 < 34) × (distance_of (with_one parts.tiles pair.0) parts.melds < distance_of parts.tiles parts.melds)
unfolding accepted_of
accepted_in parts pair there =
    let live : ℕ → ℕ = live_of parts.tiles parts.melds parts.seen in
    let made = in-map-inv (λ k. (k, live k)) pair (filter (is_accepted parts.tiles parts.melds parts.seen) every_kind) there in
    let kept = in-filter-inv (is_accepted parts.tiles parts.melds parts.seen) made.0 every_kind made.1 in
    let same_kind : made.0 ≡ pair.0 = ap (λ (p : ℕ × ℕ). p.0) made.2 in
    let tests = and_parts (nat_lt 0 (live made.0)) (nat_lt (distance_of (with_one parts.tiles made.0) parts.melds) (distance_of parts.tiles parts.melds)) kept.1 in
    let nearer = ltb-true (distance_of (with_one parts.tiles made.0) parts.melds) (distance_of parts.tiles parts.melds) tests.1 in
    (omega (arith, (in-range-inv 34 0 made.0 kept.0).1, same_kind), omega (arith, nearer, ap (λ k. distance_of (with_one parts.tiles k) parts.melds) same_kind))

-- ---- fourteen tiles that aren't complete: some discard is best, and it leaves as near

pub greatest_some : (f : ℕ → ℕ) (kinds : List ℕ) (kind : ℕ) → IsIn kind kinds → f kind ≤ greatest f kinds
unfolding greatest
greatest_some f [] kind there = absurd there
greatest_some f (k ∷ ks) kind (inl e) = omega (arith, ap f e)
greatest_some f (k ∷ ks) kind (inr there) = omega (arith, greatest_some f ks kind there)

greatest_all : (f : ℕ → ℕ) (v : ℕ) (kinds : List ℕ) (kind : ℕ) → IsIn kind kinds → ((k : ℕ) → IsIn k kinds → f k ≡ v) → greatest f kinds ≡ v
greatest_all f v kinds kind there same = omega (arith, greatest_some f kinds kind there, same kind there, greatest_few f v kinds (λ k i. omega (arith, same k i)))

module _ (drawn : ShapeParts) (is : IsFourteen drawn) (far : 0 < distance_of drawn.tiles drawn.melds) where
  abbrev kinds : List ℕ
  kinds = filter (is_discard drawn.tiles drawn.melds) every_kind

  some_best : (kind : ℕ) × IsIn kind kinds
  some_best =
      let least = max (distance_of drawn.tiles drawn.melds) 1 in
      let left = least_is drawn.tiles drawn.melds is.each_kind is.fourteen is.melded (distance_of drawn.tiles drawn.melds) least refl refl in
      (left.place, in-filter (is_discard drawn.tiles drawn.melds) left.place every_kind (in-range 34 0 left.place (omega arith) (omega (arith, left.is_kind))) (sym (chosen_is drawn.tiles drawn.melds least left left.place left.is_kind left.held) ∙ eq-eqb (distance_without drawn.tiles drawn.melds left.place) least left.reached))

  as_near : (kind : ℕ) → IsIn kind kinds → distance_without drawn.tiles drawn.melds kind ≡ distance_of drawn.tiles drawn.melds
  as_near kind there =
      let chosen = in-filter-inv (is_discard drawn.tiles drawn.melds) kind every_kind there in
      best_keeps drawn.tiles drawn.melds is.each_kind is.fourteen is.melded kind (omega (arith, (in-range-inv 34 0 kind chosen.0).1)) chosen.1 far

  module _ (aim : Aim) (left : ℕ) where
    all_rest : is_there (lack_of aim.column) drawn ≡ true → counted_rest (draws_at aim left) drawn ≡ all_draws (unseen_at aim.span left) left
    unfolding counted_rest
    all_rest near = greatest_all (λ kind. draws_at aim left (parts_less drawn kind)) (all_draws (unseen_at aim.span left) left) kinds some_best.0 some_best.1
        (λ kind there. near_in aim.column (parts_less drawn kind) (unseen_at aim.span left) left (ap (λ d. nat_le d (lack_of aim.column)) (as_near kind there) ∙ near))

    pub by_rest : counted_with (lack_of aim.column) (unseen_at aim.span left) left (draws_at aim left) drawn ≡ counted_rest (draws_at aim left) drawn
    by_rest = by_test (is_there (lack_of aim.column) drawn) (λ near. near_with (lack_of aim.column) (unseen_at aim.span left) left (draws_at aim left) drawn near ∙ sym (all_rest near)) (λ not. far_with (lack_of aim.column) (unseen_at aim.span left) left (draws_at aim left) drawn not)
      where
        by_test : {a b : ℕ} (t : Bool) → (t ≡ true → a ≡ b) → (t ≡ false → a ≡ b) → a ≡ b
        by_test true here there = here refl
        by_test false here there = there refl

-- ---- thirteen tiles

pub few_melds : (parts : ShapeParts) → IsThirteen parts → length parts.melds ≤ 4
few_melds parts is = omega (arith, is.thirteen)

pub some_lack : (parts : ShapeParts) → IsThirteen parts → 0 < distance_of parts.tiles parts.melds
some_lack parts is = (ready_is parts.tiles parts.melds (distance_of parts.tiles parts.melds) is.each_kind is.thirteen (distance_reached parts.tiles parts.melds (few_melds parts is) is.melded)).0

pub not_won : (d : ℕ) → 0 < d → nat_le d 0 ≡ false
not_won d some = grind (arith, nat_tests)

pub won : (d : ℕ) → d ≡ 0 → nat_le d 0 ≡ true
won d e = grind (arith, nat_tests)

is_ready_told : (d : ℕ) → nat_le d 1 ≡ true → d ≤ 1
is_ready_told d e = grind (arith, nat_tests)

not_near : (d lack : ℕ) → 1 < d → lack ≤ 1 → nat_le d lack ≡ false
not_near d lack more few = grind (arith, nat_tests)

lack_few : (column : Column) → lack_of column ≤ 1
lack_few Ready = omega arith
lack_few Win = omega arith
lack_few ReadyAtMost = omega arith
lack_few WinAtMost = omega arith

-- a hand that isn't ready: each draw that it accepts leads to what a best discard leaves
pub rests_gains : (aim : Aim) (parts : ShapeParts) (left own : ℕ) → IsThirteen parts → 1 < distance_of parts.tiles parts.melds → rests_value (draws_at aim left) (floor_of aim.column own) parts ≡ gains_at aim parts left own
rests_gains aim parts left own is far =
    sum_same (rest_by (draws_at aim left) (floor_of aim.column own) parts) (λ (pair : ℕ × ℕ). pair.1 * max (counted_with (lack_of aim.column) (unseen_at aim.span left) left (draws_at aim left) (parts_with parts pair.0)) (floor_of aim.column own)) (accepts parts) (λ pair there. ap (λ n. pair.1 * max n (floor_of aim.column own)) (sym (each pair there)))
  where
    each : (pair : ℕ × ℕ) → IsIn pair (accepts parts) → counted_with (lack_of aim.column) (unseen_at aim.span left) left (draws_at aim left) (parts_with parts pair.0) ≡ counted_rest (draws_at aim left) (parts_with parts pair.0)
    each pair there =
        let inside = (accepted_in parts pair there).0 in
        by_rest (parts_with parts pair.0) (record { each_kind = more_long parts.tiles pair.0 is.each_kind; each_seen = is.each_seen; fourteen = omega (arith, size_with parts.tiles parts.melds pair.0 (omega (arith, is.each_kind, inside)), is.thirteen); melded = is.melded })
        (omega (arith, far, one_nearer parts.tiles parts.melds (few_melds parts is) is.melded is.each_kind pair.0 inside)) aim left

-- a ready hand wins by each
ready_gains : (aim : Aim) (parts : ShapeParts) (left own : ℕ) → lack_of aim.column ≡ 0 → IsThirteen parts → nat_le (distance_of parts.tiles parts.melds) 1 ≡ true → live_in (accepts parts) * max (all_draws (unseen_at aim.span left) left) (floor_of aim.column own) ≡ gains_at aim parts left own
ready_gains aim parts left own none is ready =
    sym (sum_times (max (all_draws (unseen_at aim.span left) left) (floor_of aim.column own)) (accepts parts))
    ∙ sum_same (λ (pair : ℕ × ℕ). pair.1 * max (all_draws (unseen_at aim.span left) left) (floor_of aim.column own)) (λ (pair : ℕ × ℕ). pair.1 * max (counted_with (lack_of aim.column) (unseen_at aim.span left) left (draws_at aim left) (parts_with parts pair.0)) (floor_of aim.column own)) (accepts parts)
    (λ pair there. ap (λ n. pair.1 * max n (floor_of aim.column own)) (sym (near_with (lack_of aim.column) (unseen_at aim.span left) left (draws_at aim left) (parts_with parts pair.0) (won_by pair there))))
  where
    won_by : (pair : ℕ × ℕ) → IsIn pair (accepts parts) → is_there (lack_of aim.column) (parts_with parts pair.0) ≡ true
    won_by pair there = ap (nat_le (distance_of (with_one parts.tiles pair.0) parts.melds)) none ∙ won (distance_of (with_one parts.tiles pair.0) parts.melds) (omega (arith, (accepted_in parts pair there).1, is_ready_told (distance_of parts.tiles parts.melds) ready))

module _ (span : Span) (parts : ShapeParts) (live : ℕ) (is : IsThirteen parts) (ready : nat_le (distance_of parts.tiles parts.melds) 1 ≡ true) (live_is : live ≡ live_in (accepts parts)) where
  wins_by : (column : Column) → lack_of column ≡ 0 → (row : List ℕ) → FollowReady column span live row → HasCounts (record { column = column; span = span }) parts row
  wins_by column none row follows =
      followed (record { column = column; span = span }) parts (ap (nat_le (distance_of parts.tiles parts.melds)) none ∙ not_won (distance_of parts.tiles parts.melds) (some_lack parts is)) live live_is (λ l own. live * max (all_draws (unseen_at span l) l) (floor_of column own)) row
      (λ l own small. ap (λ n. n * max (all_draws (unseen_at span l) l) (floor_of column own)) live_is ∙ ready_gains (record { column = column; span = span }) parts l own none is ready) follows

  pub ready_has : (rows : Rows) → AreAllDraws span rows.ready → AreAllDraws span rows.ready_at_most → FollowReady Win span live rows.win → FollowReady WinAtMost span live rows.win_at_most → HasRows span parts rows
  ready_has rows all most own_wins most_wins Ready left low = all left low ∙ sym (near_in Ready parts (unseen_at span left) left ready)
  ready_has rows all most own_wins most_wins ReadyAtMost left low = most left low ∙ sym (near_in ReadyAtMost parts (unseen_at span left) left ready)
  ready_has rows all most own_wins most_wins Win left low = wins_by Win refl rows.win own_wins left low
  ready_has rows all most own_wins most_wins WinAtMost left low = wins_by WinAtMost refl rows.win_at_most most_wins left low

-- ---- the rows of a place

module _ (span : Span) (turns : span.turns ≤ 18) (unseen : span.unseen ≤ 136) (root : ShapeParts) (hands : List (List ℕ)) (place : ℕ) (node : Node) (is : IsNode hands place (placed_hand root hands place) node) (earlier : List Rows) (are : AreRows span root hands place earlier) (not_ready : node.is_ready ≡ false) where
  abbrev parts : ShapeParts
  parts = placed_hand root hands place

  abbrev aim_of : Column → Aim
  aim_of column = record { column = column; span = span }

  far_away : 1 < distance_of parts.tiles parts.melds
  far_away = omega (arith, leb-false (distance_of parts.tiles parts.melds) 1 (sym is.ready ∙ not_ready))

  gains_told : (column : Column) (left own : ℕ) → left < span.turns → begun_by column earlier (draws_in node.draws) left own ≡ gains_at (aim_of column) parts left own
  gains_told column left own low =
      draws_same (placed_number column earlier left) (λ p. draws_at (aim_of column) left (placed_hand parts hands p)) (floor_of column own) place (draws_in node.draws) is.before (λ p small. are p small column left (omega (arith, low)))
      ∙ is.leads not_ready (draws_at (aim_of column) left) (floor_of column own) ∙ rests_gains (aim_of column) parts left own is.whole far_away

  pub begin_few : (column : Column) → BeginFew column span node.live earlier (draws_in node.draws)
  begin_few column left own low small = omega (arith, gains_told column left own low, gains_bound (aim_of column) parts node.live unseen (omega (arith, is.live)) left own small)

  pub followed_rows : (rows : Rows) → ((column : Column) → FollowDraws column span node.live earlier (draws_in node.draws) (numbers_for column rows)) → HasRows span parts rows
  followed_rows rows follows column =
      followed (aim_of column) parts (not_near (distance_of parts.tiles parts.melds) (lack_of column) far_away (lack_few column)) node.live is.live (begun_by column earlier (draws_in node.draws)) (numbers_for column rows) (gains_told column) (follows column)

pub node_at : (root : ShapeParts) (graph : HandGraph) (place : ℕ) (node : Node) → IsGraph root graph → place < length graph.nodes → node ≡ slice_index_or graph.nodes place node → IsNode graph.hands place (placed_hand root graph.hands place) node
node_at root graph place node is inside node_is = subst (λ (it : Node). IsNode graph.hands place (placed_hand root graph.hands place) it) (sym node_is) (is.node place node inside)

pub live_few : (hands : List (List ℕ)) (place : ℕ) (parts : ShapeParts) (node : Node) → IsNode hands place parts node → node.live ≤ 136
live_few hands place parts node is = omega (arith, is.live, accepted_few parts)

-- ---- one more place

-- the rows of the first places alone
pub rows_first : (span : Span) (root : ShapeParts) (hands : List (List ℕ)) (count : ℕ) (rows : List Rows) → AreRows span root hands count rows → AreRows span root hands count (take count rows)
rows_first span root hands count rows are place low = subst (HasRows span (placed_hand root hands place)) (sym (get_or-take count rows place no_rows low)) (are place low)

pub rows_more : (span : Span) (root : ShapeParts) (hands : List (List ℕ)) (rows : List Rows) (place : ℕ) (row : Rows) → AreRows span root hands place rows → place < length rows → HasRows span (placed_hand root hands place) row → AreRows span root hands (place + 1) (slice_set rows place row)
rows_more span root hands rows place row are inside has p low = ⊎_elim here (λ ne. other ne) (cases_eq p place)
  where
    other : p ≢ place → HasRows span (placed_hand root hands p) (slice_index_or (slice_set rows place row) p no_rows)
    other ne = subst (HasRows span (placed_hand root hands p)) (sym (get_or-set_other rows place p row no_rows ne)) (are p (omega (arith, low, ne)))

    here : p ≡ place → HasRows span (placed_hand root hands p) (slice_index_or (slice_set rows place row) p no_rows)
    here e = subst (λ (q : ℕ). HasRows span (placed_hand root hands q) (slice_index_or (slice_set rows place row) q no_rows)) (sym e) (subst (HasRows span (placed_hand root hands place)) (sym (get_or-set_same rows place row no_rows inside)) has)
