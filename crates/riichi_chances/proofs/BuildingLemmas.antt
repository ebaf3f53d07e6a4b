-- The draws of a hand and the places that they lead to, one more at a time.
use Rattle.std.proofs.Common.{◌≡◌, ℕ, ◌+◌, ◌*◌, ◌<◌, ◌≤◌, true, max, List, [], ◌∷◌, ◌++◌, map, take, length, Some, Result, Ok, Err, IfOk, refl, sym, ap, subst, ◌∙◌, ⊎_elim, arith, length-append}
use Rattle.std.proofs.lemmas.Bool.{cases_eq}
use Rattle.std.proofs.lemmas.List.{get_or_append_left, get_or_push, map_push, take_all}
use Rattle.std.proofs.lemmas.List.Sums.{sum_by_push}
use Rattle.std.specs.Option.{option_map}
use Rattle.std.specs.Prelude.{slice_get, slice_index, slice_index_or, sum_by}
use Rattle.riichi_hand.specs.Hand.{is_thirteen, size}
use Rattle.riichi_hand.specs.HandParts.{ShapeParts}
use Rattle.riichi_tiles.specs.Melds.{tiles}
use Rattle.riichi_tiles.specs.declared.meld.Meld.{Meld}
use Rattle.riichi_shape.specs.Accepted.{accepted_of, with_one, without_one}
use Rattle.riichi_shape.specs.EveryWinning.{distance_of}
use Rattle.riichi_shape.specs.KeptDiscards.{short_of}
use Rattle.riichi_shape.specs.LiveCopies.{pairs_of}
use Rattle.riichi_shape.specs.declared.discard.Discard.{Discard}
use Rattle.riichi_shape.specs.declared.discard.ShortDiscard.{ShortDiscard}
use Rattle.riichi_shape.proofs.Nearer.{distance_reached}
use Rattle.riichi_shape.proofs.OneMore.{hand_falls}
use Rattle.riichi_deeper.proofs.DeeperLemmas.{rest_all, rest_end, rest_none, rest_of, rest_some}
use Rattle.riichi_deeper.proofs.DrawnLemmas.{is_thirteen_by, thirteen_is}
use Rattle.riichi_deeper.specs.Drawn.{parts_with}
use Rattle.riichi_chances.specs.Counted.{parts_less}
use Rattle.riichi_chances.specs.Draws.{greatest}
use Rattle.riichi_chances.specs.Graph.{AreBefore, AreLeft, AreRests, Grows, HandGraph, IsGraph, IsPlaceOf, LeadBefore, LeadTo, discard_kinds, draw_value, draws_value, placed_hand, places_in, rest_by, rests_value}
use Rattle.riichi_chances.specs.Laws.{IsFourteen, IsThirteen}
use Rattle.riichi_chances.specs.declared.node.Draw.{Draw}
use Rattle.riichi_chances.proofs.CountingLemmas.{kinds_more}
use Rattle.riichi_chances.proofs.GraphLemmas.{before_grown, draws_same, hands_same, map_places}
use Rattle.riichi_chances.proofs.NearestLemmas.{less_long, more_long, one_more_of}

-- ---- one tile more or less

pub one_nearer : (hand : List ℕ) (melds : List Meld) → length melds ≤ 4 → ((kind : ℕ) → kind < 34 → tiles melds kind ≤ 4) → length hand ≡ 34 → (kind : ℕ) → kind < 34 → distance_of hand melds ≤ distance_of (with_one hand kind) melds + 1
one_nearer hand melds few melded long kind inside =
    let near = distance_reached (with_one hand kind) melds few melded in
    let bound = (distance_reached hand melds few melded).none_less near.wanted near.is_winning in
    ⊎_elim (λ short. (let e = short.1 in omega (arith, e, near.reached, bound))) (λ over. (let e = over.1 in omega (arith, e, near.reached, bound))) (hand_falls hand (with_one hand kind) near.wanted kind inside (one_more_of hand kind long inside))

pub thirteen_told : (parts : ShapeParts) → IsThirteen parts → is_thirteen parts.tiles parts.melds ≡ true
thirteen_told parts is = is_thirteen_by parts.tiles parts.melds is.thirteen

module _ (parts : ShapeParts) (is : IsThirteen parts) (kind place : ℕ) (inside : kind < 34) (drawn : ShapeParts) (place_is : place ≡ kind) (drawn_is : drawn ≡ parts_with parts place) where
  drawn_as : drawn ≡ parts_with parts kind
  drawn_as = drawn_is ∙ ap (parts_with parts) place_is

  pub drawn_whole : size drawn.tiles drawn.melds ≡ 14 → IsFourteen drawn
  drawn_whole fourteen = record {
    each_kind = ap (λ (p : ShapeParts). length p.tiles) drawn_as ∙ more_long parts.tiles kind is.each_kind;
    each_seen = ap (λ (p : ShapeParts). length p.seen) drawn_as ∙ is.each_seen;
    fourteen = fourteen;
    melded = λ k low. omega (arith, ap (λ (p : ShapeParts). tiles p.melds k) drawn_as, is.melded k low);
  }

  pub drawn_far : 1 < distance_of parts.tiles parts.melds → 0 < distance_of drawn.tiles drawn.melds
  drawn_far far =
      omega (arith, far, one_nearer parts.tiles parts.melds (few_melds is.thirteen) is.melded is.each_kind kind inside, ap (λ (p : ShapeParts). distance_of p.tiles p.melds) drawn_as)
    where
      few_melds : size parts.tiles parts.melds ≡ 13 → length parts.melds ≤ 4
      few_melds e = omega (arith, e)

pub rest_whole : (drawn rest : ShapeParts) (kind : ℕ) → IsFourteen drawn → rest ≡ parts_less drawn kind → is_thirteen rest.tiles rest.melds ≡ true → IsThirteen rest
rest_whole drawn rest kind is rest_is thirteen = record {
  each_kind = ap (λ (p : ShapeParts). length p.tiles) rest_is ∙ less_long drawn.tiles kind is.each_kind;
  each_seen = ap (λ (p : ShapeParts). length p.seen) rest_is ∙ is.each_seen;
  thirteen = thirteen_is rest.tiles rest.melds thirteen;
  melded = λ k low. omega (arith, ap (λ (p : ShapeParts). tiles p.melds k) rest_is, is.melded k low);
}

-- ---- the draws so far

pub record DrawsSoFar (parts : ShapeParts) (copies : List ℕ) (graph : HandGraph) (draws : List Draw) (number : ℕ) : Type 0 where
  pub few : length draws ≤ number
  pub before : LeadBefore (length graph.nodes) draws
  pub leads : (value : ShapeParts → ℕ) (least : ℕ) → draws_value (λ p. value (placed_hand parts graph.hands p)) least draws + rest_of (rest_by value least parts) copies number ≡ rests_value value least parts

pub no_draws_before : (most : ℕ) → LeadBefore most []
no_draws_before most at draw low = absurd (omega (arith, low))

module _ (parts : ShapeParts) (copies : List ℕ) where
  pub draws_init : (graph : HandGraph) (accepted : List (ℕ × ℕ)) → accepted ≡ pairs_of copies → accepted ≡ accepted_of parts.tiles parts.melds parts.seen → DrawsSoFar parts copies graph [] 0
  draws_init graph accepted e f = record {
    few = omega arith;
    before = no_draws_before (length graph.nodes);
    leads = λ value least. omega (arith, rest_all (rest_by value least parts) copies, ap (sum_by (rest_by value least parts)) (sym e ∙ f));
  }

  module _ (before after : HandGraph) (is : IsGraph parts before) (grows : Grows parts before after) (number : ℕ) (low : number < 34) (draws more : List Draw) (so_far : DrawsSoFar parts copies before draws number) where
    more_places : length before.nodes ≤ length after.nodes
    more_places = omega (arith, grows.more.longer, grows.whole.each, is.each)

    grown_value : (value : ShapeParts → ℕ) (least : ℕ) → draws_value (λ p. value (placed_hand parts after.hands p)) least draws ≡ draws_value (λ p. value (placed_hand parts before.hands p)) least draws
    grown_value value least =
        sym (draws_same (λ p. value (placed_hand parts before.hands p)) (λ p. value (placed_hand parts after.hands p)) least (length before.nodes) draws so_far.before (λ p small. hands_same parts before.hands after.hands grows.more value p (omega (arith, small, is.each))))

    module _ (some : 0 < slice_index copies number) (place : ℕ) (place_is : place ≡ number) (drawn : ShapeParts) (drawn_is : drawn ≡ parts_with parts place) (draw : Draw) (live_is : draw.live ≡ slice_index copies number) (rests : List ℕ) (rests_are : (places_in draw.rests) ≡ rests)
        (lead : AreBefore (length after.nodes) rests) (are : AreRests after.hands rests drawn) (more_is : more ≡ draws ++ draw ∷ []) where
      own : (value : ShapeParts → ℕ) (least : ℕ) → draw_value (λ p. value (placed_hand parts after.hands p)) least draw ≡ rest_by value least parts (number, slice_index copies number)
      own value least =
          ap (λ n. n * max (greatest (λ p. value (placed_hand parts after.hands p)) (places_in draw.rests)) least) live_is
          ∙ ap (λ (ps : List ℕ). slice_index copies number * max (greatest (λ p. value (placed_hand parts after.hands p)) ps) least) rests_are
          ∙ ap (λ n. slice_index copies number * max n least) ((subst (λ (d : ShapeParts). AreRests after.hands rests d) (drawn_is ∙ ap (parts_with parts) place_is) are) value)

      last_before : LeadBefore (length after.nodes) (draws ++ draw ∷ [])
      last_before at d small = ⊎_elim here (λ ne. there (omega (arith, small, ne, length-append draws (draw ∷ [])))) (cases_eq at (length draws))
        where
          there : at < length draws → AreBefore (length after.nodes) (places_in (slice_index_or (draws ++ draw ∷ []) at d).rests)
          there less = subst (λ (it : Draw). AreBefore (length after.nodes) (places_in it.rests)) (sym (get_or_append_left draws (draw ∷ []) d at less)) (before_grown (length before.nodes) (length after.nodes) draws more_places so_far.before at d less)

          here : at ≡ length draws → AreBefore (length after.nodes) (places_in (slice_index_or (draws ++ draw ∷ []) at d).rests)
          here e = subst (λ (it : Draw). AreBefore (length after.nodes) (places_in it.rests)) (sym (get_or_push draws draw d at (sym e))) (subst (AreBefore (length after.nodes)) (sym rests_are) lead)

      pub draws_step : DrawsSoFar parts copies after more (number + 1)
      draws_step = subst (λ (ds : List Draw). DrawsSoFar parts copies after ds (number + 1)) (sym more_is) (record {
        few = omega (arith, so_far.few, length-append draws (draw ∷ []));
        before = last_before;
        leads = λ value least. omega (arith, sum_by_push (draw_value (λ p. value (placed_hand parts after.hands p)) least) draws draw, grown_value value least, own value least, rest_some (rest_by value least parts) copies number low some, so_far.leads value least);
      })

  pub draws_none : (graph : HandGraph) (draws : List Draw) (number : ℕ) → number < 34 → slice_index copies number ≤ 0 → DrawsSoFar parts copies graph draws number → DrawsSoFar parts copies graph draws (number + 1)
  draws_none graph draws number low none so_far = record {
    few = omega (arith, so_far.few);
    before = so_far.before;
    leads = λ value least. omega (arith, so_far.leads value least, rest_none (rest_by value least parts) copies number low none);
  }

  pub draws_end : (graph : HandGraph) (draws : List Draw) (number : ℕ) → number ≡ 34 → DrawsSoFar parts copies graph draws number → LeadTo graph.hands draws parts
  draws_end graph draws number e so_far value least = omega (arith, so_far.leads value least, rest_end (rest_by value least parts) copies number e)

-- ---- the places so far

pub record RestsSoFar (drawn : ShapeParts) (discards : List Discard) (graph : HandGraph) (places : List ℕ) (at : ℕ) : Type 0 where
  pub few : length places ≤ at
  pub before : AreBefore (length graph.nodes) places
  pub left : AreLeft graph.hands places drawn.tiles (discard_kinds (take at discards))

module _ (drawn : ShapeParts) (discards : List Discard) where
  pub rests_init : (graph : HandGraph) → RestsSoFar drawn discards graph [] 0
  rests_init graph = record { few = omega arith; before = λ k low. absurd (omega (arith, low)); left = refl }

  module _ (before after : HandGraph) (is : IsGraph drawn before) (grows : Grows drawn before after) (at : ℕ) (places more : List ℕ) (so_far : RestsSoFar drawn discards before places at) (short : ShortDiscard) (found : Some short ≡ option_map short_of (slice_get discards at)) (rest : ShapeParts)
      (rest_is : rest ≡ parts_less drawn short.kind) (place : ℕ) (there : IsPlaceOf after rest place) (more_is : more ≡ places ++ place ∷ []) where
    few_places : length before.nodes ≤ length after.nodes
    few_places = omega (arith, grows.more.longer, grows.whole.each, is.each)

    abbrev was : ℕ → List ℕ
    was p = slice_index_or before.hands p []

    abbrev now : ℕ → List ℕ
    now p = slice_index_or after.hands p []

    place_before : AreBefore (length after.nodes) (places ++ place ∷ [])
    place_before k low = ⊎_elim here (λ ne. other (omega (arith, low, ne, length-append places (place ∷ [])))) (cases_eq k (length places))
      where
        other : k < length places → slice_index (places ++ place ∷ []) k < length after.nodes
        other less = omega (arith, get_or_append_left places (place ∷ []) 0 k less, so_far.before k less, few_places)

        here : k ≡ length places → slice_index (places ++ place ∷ []) k < length after.nodes
        here e = omega (arith, get_or_push places place 0 k (sym e), there.inside)

    pub rests_step : RestsSoFar drawn discards after more (at + 1)
    rests_step = subst (λ (ps : List ℕ). RestsSoFar drawn discards after ps (at + 1)) (sym more_is) (record {
      few = omega (arith, so_far.few, length-append places (place ∷ []));
      before = place_before;
      left = map_push now places place ∙ ap (λ (hands : List (List ℕ)). hands ++ now place ∷ []) (map_places now was (length before.nodes) places so_far.before (λ p small. grows.more.same p (omega (arith, small, is.each))) ∙ so_far.left)
          ∙ ap (λ (hand : List ℕ). map (without_one drawn.tiles) (discard_kinds (take at discards)) ++ hand ∷ []) (there.is ∙ ap (λ (p : ShapeParts). p.tiles) rest_is)
          ∙ sym (map_push (without_one drawn.tiles) (discard_kinds (take at discards)) short.kind) ∙ ap (map (without_one drawn.tiles)) (sym (kinds_more discards at short found));
    })

  pub rests_end : (graph : HandGraph) (places : List ℕ) (at : ℕ) → length discards ≤ at → RestsSoFar drawn discards graph places at → AreLeft graph.hands places drawn.tiles (discard_kinds discards)
  rests_end graph places at past so_far = so_far.left ∙ ap (λ (ds : List Discard). map (without_one drawn.tiles) (discard_kinds ds)) (take_all at discards past)

pub ok_as : {A E : Type 0} {P Q : A → Type 0} (r : Result A E) → ((value : A) → P value → Q value) → IfOk r P → IfOk r Q
ok_as (Ok value) told is = told value is
ok_as (Err fault) told is = is
