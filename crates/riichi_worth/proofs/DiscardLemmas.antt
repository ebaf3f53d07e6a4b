-- What a hand is worth, at its place and after each discard.
use Rattle.std.proofs.Common.{◌≡◌, ℕ, zero, suc, ◌+◌, ◌-◌, ◌*◌, ◌<◌, ◌≤◌, List, [], ◌∷◌, ◌++◌, length, map, take, length-take-le, refl, sym, ap, subst, ◌∙◌, arith}
use Rattle.std.proofs.lemmas.List.{get_or-map, length-map, take_more}
use Rattle.std.specs.Prelude.{slice_index, slice_index_or}
use Rattle.riichi_hand.specs.HandParts.{ShapeParts}
use Rattle.riichi_shape.specs.Accepted.{without_one}
use Rattle.riichi_shape.specs.Choosing.{LeavesLeast}
use Rattle.riichi_shape.specs.Discards.{discards_of}
use Rattle.riichi_shape.specs.EveryWinning.{distance_of}
use Rattle.riichi_shape.specs.declared.discard.Discard.{Discard}
use Rattle.riichi_shape.proofs.Choices.{is_chosen}
use Rattle.riichi_deeper.specs.Drawn.{parts_without}
use Rattle.riichi_chances.specs.Counted.{parts_less}
use Rattle.riichi_chances.specs.Draws.{all_draws, unseen_of}
use Rattle.riichi_chances.specs.Graph.{AreBefore, AreLeft, HandGraph, IsPlaceOf, discard_kinds, placed_hand}
use Rattle.riichi_chances.specs.Laws.{IsFourteen, IsThirteen}
use Rattle.riichi_chances.specs.Numbers.{unseen_at}
use Rattle.riichi_chances.specs.declared.span.Span.{Span}
use Rattle.riichi_chances.proofs.ChancesLemmas.{placed, thirteen_left}
use Rattle.riichi_chances.proofs.CountedLemmas.{discard_unseen}
use Rattle.riichi_chances.proofs.CountingLemmas.{best_listed}
use Rattle.riichi_worth.specs.CountedPoints.{counted_points}
use Rattle.riichi_worth.specs.Rows.{ArePlaced}
use Rattle.riichi_worth.specs.Worths.{AreFew, draws_of, shared, told_at, total_at, total_points, worth_after, worth_of}
use Rattle.riichi_worth.specs.declared.discards.DiscardWorth.{DiscardWorth}
use Rattle.riichi_worth.specs.PointRows.{PointRow}
use Rattle.riichi_worth.specs.declared.stakes.Stakes.{Stakes}
use Rattle.riichi_worth.specs.declared.worth.Worth.{Worth}
use Rattle.riichi_worth.proofs.PointLaws.{counted_law, discard_points, few_law}

-- all turns are left
pub all_left : (span : Span) → unseen_at span span.turns ≡ span.unseen
all_left span = omega arith

-- the points at a place are those of its hand
pub placed_total : (stakes : Stakes) (span : Span) (root : ShapeParts) (hands : List (List ℕ)) (count : ℕ) (rows : List PointRow) → ArePlaced stakes span root hands count rows → (place : ℕ) → place < count → total_at rows place span ≡ counted_points stakes (placed_hand root hands place) span.unseen span.turns
placed_total stakes span root hands count rows are place low = are place low span.turns (omega arith) ∙ ap (λ n. counted_points stakes (placed_hand root hands place) n span.turns) (all_left span)

-- ---- thirteen tiles

module _ (stakes : Stakes) (parts : ShapeParts) (is : IsThirteen parts) (unseen turns : ℕ) (unseen_is : unseen ≡ unseen_of parts) (graph : HandGraph) (place : ℕ) (place_is : IsPlaceOf graph parts place) (rows : List PointRow) (are : ArePlaced stakes (record { unseen = unseen; turns = turns }) parts graph.hands (length graph.nodes) rows) where
  abbrev span : Span
  span = record { unseen = unseen; turns = turns }

  hand_total : total_at rows place span ≡ total_points stakes parts turns
  hand_total =
      placed_total stakes span parts graph.hands (length graph.nodes) rows are place place_is.inside
      ∙ ap (λ (p : ShapeParts). counted_points stakes p unseen turns) (placed graph parts place place_is) ∙ ap (λ n. counted_points stakes parts n turns) unseen_is ∙ sym (counted_law stakes parts turns is)

  hand_draws : draws_of span ≡ all_draws (unseen_of parts) turns
  hand_draws = ap (λ n. all_draws n turns) unseen_is

  pub hand_few : total_at rows place span ≤ 5000000 * draws_of span
  hand_few = omega (arith, hand_total, few_law stakes parts turns is, ap (λ n. 5000000 * n) hand_draws)

  pub hand_told : shared (total_at rows place span) (draws_of span) ≡ worth_of stakes parts turns
  unfolding worth_of
  hand_told = ap (λ n. shared n (draws_of span)) hand_total ∙ ap (shared (total_points stakes parts turns)) hand_draws

-- ---- fourteen, which are not complete

-- at the places stand what each of some kinds leaves
pub record AreAfter (stakes : Stakes) (drawn : ShapeParts) (rows : List PointRow) (span : Span) (place kind : ℕ) : Type 0 where
  pub inside : place < length rows
  pub total : total_at rows place span ≡ total_points stakes (parts_without drawn kind) span.turns
  pub draws : draws_of span ≡ all_draws (unseen_of (parts_without drawn kind)) span.turns
  pub few : total_at rows place span ≤ 5000000 * draws_of span

module _ (stakes : Stakes) (drawn : ShapeParts) (is : IsFourteen drawn) (far : 0 < distance_of drawn.tiles drawn.melds) (discards : List Discard) (discards_are : discards ≡ discards_of drawn.tiles drawn.melds drawn.seen) (unseen turns : ℕ) (unseen_is : unseen ≡ unseen_of drawn) (hands : List (List ℕ)) (count : ℕ) (places : List ℕ) (before : AreBefore count places) (left : AreLeft hands places drawn.tiles (discard_kinds discards))
    (rows : List PointRow) (room : count ≤ length rows) (are : ArePlaced stakes (record { unseen = unseen; turns = turns }) drawn hands count rows) where
  abbrev span14 : Span
  span14 = record { unseen = unseen; turns = turns }

  pub as_many : length places ≡ length (discard_kinds discards)
  as_many = sym (length-map places (λ place. slice_index_or hands place [])) ∙ ap length left ∙ length-map (discard_kinds discards) (without_one drawn.tiles)

  kinds_many : length (discard_kinds discards) ≡ length discards
  kinds_many = length-map discards (λ discard. discard.kind)

  pub each_after : (at : ℕ) → at < length places → AreAfter stakes drawn rows span14 (slice_index places at) (slice_index (discard_kinds discards) at)
  each_after at low =
      let place = slice_index places at in
      let kind = slice_index (discard_kinds discards) at in
      let best : LeavesLeast drawn.tiles drawn.melds (slice_index (discard_kinds discards) at) = best_listed drawn discards at discards_are (omega (arith, low, as_many, kinds_many)) in
      let hand : slice_index_or hands (slice_index places at) [] ≡ without_one drawn.tiles (slice_index (discard_kinds discards) at) =
      sym (get_or-map (λ p. slice_index_or hands p []) places at 0 [] low) ∙ ap (λ (l : List (List ℕ)). slice_index_or l at []) left ∙ get_or-map (without_one drawn.tiles) (discard_kinds discards) at 0 [] (omega (arith, low, as_many)) in
      let whole = thirteen_left drawn is far kind best in
      let unseen_left : unseen ≡ unseen_of (parts_without drawn (slice_index (discard_kinds discards) at)) = unseen_is ∙ discard_unseen drawn is kind best.is_kind best.held in
      let total : total_at rows (slice_index places at) span14 ≡ total_points stakes (parts_without drawn (slice_index (discard_kinds discards) at)) turns =
      placed_total stakes span14 drawn hands count rows are place (before at low)
      ∙ ap (λ (tiles : List ℕ). counted_points stakes (record { tiles = tiles; melds = drawn.melds; seen = drawn.seen }) unseen turns) hand ∙ ap (λ n. counted_points stakes (parts_less drawn kind) n turns) unseen_is
      ∙ sym (discard_points stakes turns kind drawn is far best.is_kind (is_chosen drawn.tiles drawn.melds kind best)) in
      record {
        inside = omega (arith, before at low, room);
        total = total;
        draws = ap (λ n. all_draws n turns) unseen_left;
        few = omega (arith, total, few_law stakes (parts_without drawn kind) turns whole, ap (λ n. 5000000 * all_draws n turns) unseen_left);
      }

  pub places_few : AreFew rows places span14
  places_few at low = let it = each_after at low in (it.inside, it.few)

pub told_worths : (stakes : Stakes) (drawn : ShapeParts) (rows : List PointRow) (span : Span) (places kinds : List ℕ) → length places ≡ length kinds → ((at : ℕ) → at < length places → AreAfter stakes drawn rows span (slice_index places at) (slice_index kinds at)) → told_at rows span places kinds ≡ map (worth_after stakes drawn span.turns) kinds
unfolding worth_of
told_worths stakes drawn rows span [] [] same each = refl
told_worths stakes drawn rows span [] (kind ∷ kinds) same each = absurd (omega (arith, same))
told_worths stakes drawn rows span (place ∷ places) [] same each = absurd (omega (arith, same))
told_worths stakes drawn rows span (place ∷ places) (kind ∷ kinds) same each =
    let first = each 0 (omega arith) in
    ap (λ n. one (shared n (draws_of span)) ∷ told_at rows span places kinds) first.total ∙ ap (λ n. one (shared (total_points stakes (parts_without drawn kind) span.turns) n) ∷ told_at rows span places kinds) first.draws
    ∙ ap (λ (rest : List DiscardWorth). worth_after stakes drawn span.turns kind ∷ rest) (told_worths stakes drawn rows span places kinds (omega (arith, same)) (λ at low. each (suc at) (omega (arith, low))))
  where
    one : Worth → DiscardWorth
    one worth = record { kind = kind; worth = worth }

-- one more of them
pub told_push : (rows : List PointRow) (span : Span) (places kinds : List ℕ) (place kind : ℕ) → length places ≡ length kinds → told_at rows span (places ++ place ∷ []) (kinds ++ kind ∷ []) ≡ told_at rows span places kinds ++ (record { kind = kind; worth = shared (total_at rows place span) (draws_of span) }) ∷ []
told_push rows span [] [] place kind same = refl
told_push rows span [] (k ∷ ks) place kind same = absurd (omega (arith, same))
told_push rows span (p ∷ ps) [] place kind same = absurd (omega (arith, same))
told_push rows span (p ∷ ps) (k ∷ ks) place kind same = ap (λ (rest : List DiscardWorth). (record { kind = k; worth = shared (total_at rows p span) (draws_of span) }) ∷ rest) (told_push rows span ps ks place kind (omega (arith, same)))

-- so far as some have come
pub told_next : (rows : List PointRow) (span : Span) (places : List ℕ) (discards : List Discard) (at place kind : ℕ) → at < length places → length places ≡ length discards → place ≡ slice_index places at → discard_kinds (take (at + 1) discards) ≡ discard_kinds (take at discards) ++ kind ∷ [] →
    told_at rows span (take (at + 1) places) (discard_kinds (take (at + 1) discards)) ≡ told_at rows span (take at places) (discard_kinds (take at discards)) ++ (record { kind = kind; worth = shared (total_at rows place span) (draws_of span) }) ∷ []
told_next rows span places discards at place kind low same place_is kinds_are =
    ap (told_at rows span (take (at + 1) places)) kinds_are ∙ ap (λ (ps : List ℕ). told_at rows span ps (discard_kinds (take at discards) ++ kind ∷ [])) places_are
    ∙ told_push rows span (take at places) (discard_kinds (take at discards)) place kind (length-take-le at places (omega (arith, low)) ∙ sym (length-map (take at discards) (λ (discard : Discard). discard.kind) ∙ length-take-le at discards (omega (arith, low, same))))
  where
    places_are : take (at + 1) places ≡ take at places ++ place ∷ []
    places_are = take_more places at 0 low ∙ ap (λ n. take at places ++ n ∷ []) (sym place_is)
