-- The hands of a graph are those that may be come to.
use Rattle.std.proofs.Common.{◌≡◌, ℕ, zero, suc, ◌+◌, ◌*◌, ◌<◌, ◌≤◌, Bool, true, false, ◌⊎◌, cond, max, All, Contains, OnErr, OnOk, Some, Result, Ok, Err, List, [], ◌∷◌, ◌++◌, inl, inr, length, length-append, map, take, refl, sym, ap, subst, ◌∙◌, ⊎_elim, arith}
use Rattle.std.proofs.lemmas.Bool.{and_parts, cases_eq, ltb-true}
use Rattle.std.proofs.lemmas.Bool.Decides.{nat_tests}
use Rattle.std.proofs.lemmas.List.{get_or_append_left, get_or_default, get_or_push}
use Rattle.std.proofs.lemmas.List.Sums.{sum_by-cons}
use Rattle.std.proofs.lemmas.Cmp.{nat_list_eq_equiv}
use Rattle.std.proofs.lemmas.Map.Keys.{IsDistinct-push}
use Rattle.std.specs.Cmp.Lexicographic.{other_text, pointwise, same_text}
use Rattle.std.specs.List.{IsDistinct, filter}
use Rattle.std.specs.Prelude.{nat_eq, nat_le, nat_lt, option_map, slice_get, slice_index_or, sum_by}
use Rattle.riichi_hand.specs.Hand.{is_thirteen}
use Rattle.riichi_hand.specs.HandParts.{ShapeParts}
use Rattle.riichi_tiles.specs.Melds.{every_kind}
use Rattle.riichi_tiles.specs.declared.meld.Meld.{Meld}
use Rattle.riichi_tiles.proofs.Members.{All-in, Contains-in, IsIn, get_or-in, in-Contains, in-cases, in-filter, in-map, in-map-inv, in-range}
use Rattle.riichi_shape.specs.Accepted.{accepted_of, is_accepted, live_of, with_one, without_one}
use Rattle.riichi_shape.specs.Choosing.{LeavesLeast}
use Rattle.riichi_shape.specs.Discards.{discards_of, is_discard}
use Rattle.riichi_shape.specs.EveryWinning.{distance_of}
use Rattle.riichi_shape.specs.KeptDiscards.{short_of}
use Rattle.riichi_shape.specs.declared.discard.Discard.{Discard}
use Rattle.riichi_shape.specs.declared.discard.ShortDiscard.{ShortDiscard}
use Rattle.riichi_shape.proofs.Choices.{is_chosen}
use Rattle.riichi_deeper.specs.Drawn.{parts_with, parts_without}
use Rattle.riichi_chances.specs.Counted.{accepts, counted_rest, parts_less}
use Rattle.riichi_chances.specs.Draws.{greatest, is_there}
use Rattle.riichi_chances.specs.Graph.{AreBefore, AreLeft, HandGraph, IsGraph, IsNode, IsPlaceOf, discard_kinds, draw_value, draws_in, draws_value, placed_hand, places_in, rest_by, rests_value}
use Rattle.riichi_chances.specs.Places.{IsAbsent}
use Rattle.riichi_chances.specs.Reachable.{AtFirst, ByStep, ComesToFew, ComesToMore, ComesToTooMany, HandGroup, IsStep, IsWithin, MayCome, RestsMayCome, by_itself, groups_of, together}
use Rattle.riichi_chances.specs.declared.node.Draw.{Draw}
use Rattle.riichi_chances.specs.declared.node.Node.{Node}
use Rattle.riichi_chances.proofs.CountingLemmas.{best_in, found_at, kinds_more}
use Rattle.riichi_chances.proofs.GraphLemmas.{draws_same}
use Rattle.riichi_chances.proofs.RowLemmas.{greatest_some}
use Rattle.riichi_chances.proofs.SumLemmas.{greatest_few}

-- ---- one hand more

pub all_push : {A : Type 0} (P : A → Type 0) (items : List A) (item : A) → All P items → P item → All P (items ++ item ∷ [])
all_push P items item all here k d low = ⊎_elim at_last (λ ne. earlier (omega (arith, low, ne, length-append items (item ∷ [])))) (cases_eq k (length items))
  where
    earlier : k < length items → P (slice_index_or (items ++ item ∷ []) k d)
    earlier less = subst P (sym (get_or_append_left items (item ∷ []) d k less)) (all k d less)

    at_last : k ≡ length items → P (slice_index_or (items ++ item ∷ []) k d)
    at_last e = subst P (sym (get_or_push items item d k (sym e))) here

-- one hand more than there may be
pub one_too_many : (group : HandGroup) (graph : HandGraph) (tiles : List ℕ) → IsDistinct (pointwise nat_eq) graph.hands → IsAbsent tiles graph.hands → graph.most_hands ≤ length graph.hands → All (MayCome group) graph.hands → MayCome group tiles → ComesToMore graph.most_hands group
one_too_many group graph tiles once absent full each come = record {
  hands = graph.hands ++ tiles ∷ [];
  more = omega (arith, length-append graph.hands (tiles ∷ []), full);
  different = IsDistinct-push nat_list_eq_equiv graph.hands tiles once absent;
  each = all_push (MayCome group) graph.hands tiles each come;
}

-- ---- a value that tells whether a hand is among some

abbrev absence : Bool → ℕ → ℕ
absence true others = 0
absence false others = others

abbrev is_absent : List (List ℕ) → List ℕ → ℕ
is_absent [] hand = 1
is_absent (key ∷ keys) hand = absence (pointwise nat_eq hand key) (is_absent keys hand)

none_absent : (keys : List (List ℕ)) (hand : List ℕ) → IsIn hand keys → is_absent keys hand ≡ 0
none_absent [] hand there = absurd there
none_absent (key ∷ keys) hand there = by_test (pointwise nat_eq hand key) refl there (none_absent keys hand)
  where
    by_test : (t : Bool) → t ≡ pointwise nat_eq hand key → IsIn hand (key ∷ keys) → (IsIn hand keys → is_absent keys hand ≡ 0) → absence t (is_absent keys hand) ≡ 0
    by_test true e i later = refl
    by_test false e (inl same) later = absurd (other_text hand key e (sym same))
    by_test false e (inr there) later = later there

not_absent : (keys : List (List ℕ)) (hand : List ℕ) → is_absent keys hand ≡ 0 → IsIn hand keys
not_absent [] hand e = absurd (omega (arith, e))
not_absent (key ∷ keys) hand e = by_test (pointwise nat_eq hand key) refl e (not_absent keys hand)
  where
    by_test : (t : Bool) → t ≡ pointwise nat_eq hand key → absence t (is_absent keys hand) ≡ 0 → (is_absent keys hand ≡ 0 → IsIn hand keys) → IsIn hand (key ∷ keys)
    by_test true same e later = inl (sym (same_text hand key same))
    by_test false other e later = inr (later e)

-- ---- a node leads to hands that are there

no_value : (draws : List Draw) → draws_value (λ p. 0) 0 draws ≡ 0
no_value [] = refl
no_value (draw ∷ draws) = times_none (draw.live) (greatest (λ p. 0) (places_in draw.rests)) (sum_by-cons (draw_value (λ p. 0) 0) draw draws) (greatest_few (λ p. 0) 0 (places_in draw.rests) (λ k i. omega arith)) (no_value draws)
  where
    times_none : {s r : ℕ} (l g : ℕ) → s ≡ l * max g 0 + r → g ≤ 0 → r ≡ 0 → s ≡ 0
    times_none {s} {r} l g e f h = let none : max g 0 ≡ 0 = omega (arith, f) in let times : l * max g 0 ≡ l * 0 = ap (λ n. l * n) none in omega (arith, e, times, h)

one_of_sum : (f : ℕ × ℕ → ℕ) (pairs : List (ℕ × ℕ)) (pair : ℕ × ℕ) → IsIn pair pairs → f pair ≤ sum_by f pairs
one_of_sum f [] pair there = absurd there
one_of_sum f (p ∷ ps) pair (inl e) = omega (arith, ap f e, sum_by-cons f p ps)
one_of_sum f (p ∷ ps) pair (inr later) = omega (arith, one_of_sum f ps pair later, sum_by-cons f p ps)

none_left : (l g : ℕ) → 0 < l → l * g ≤ 0 → g ≡ 0
none_left l zero some e = refl
none_left (suc l) (suc g) some e = absurd (omega (arith, e))
none_left zero (suc g) some e = absurd (omega (arith, some))

pub some_node : (nodes : List Node) (place : ℕ) → place < length nodes → Node
some_node [] place low = absurd (omega (arith, low))
some_node (node ∷ nodes) place low = node

pub accepted_listed : (parts : ShapeParts) (kind : ℕ) → kind < 34 → is_accepted parts.tiles parts.melds parts.seen kind ≡ true → IsIn (kind, live_of parts.tiles parts.melds parts.seen kind) (accepts parts)
unfolding accepted_of
accepted_listed parts kind inside accepted = in-map (λ k. (k, live_of parts.tiles parts.melds parts.seen k)) kind (filter (is_accepted parts.tiles parts.melds parts.seen) every_kind) (in-filter (is_accepted parts.tiles parts.melds parts.seen) kind every_kind (in-range 34 0 kind (omega arith) (omega (arith, inside))) accepted)

module _ (root : ShapeParts) (graph : HandGraph) (is : IsGraph root graph) (place : ℕ) (low : place < length graph.nodes) where
  abbrev keys : List (List ℕ)
  keys = graph.hands

  abbrev parts : ShapeParts
  parts = placed_hand root keys place

  abbrev missing : ShapeParts → ℕ
  missing other = is_absent keys other.tiles

  here : IsNode keys place parts (slice_index_or graph.nodes place (some_node graph.nodes place low))
  here = is.node place (some_node graph.nodes place low) low

  module _ (kind thrown : ℕ) (step : IsStep root parts.tiles kind thrown) where
    is_far : nat_le (distance_of parts.tiles parts.melds) 1 ≡ false
    is_far = told (distance_of parts.tiles parts.melds) step.far
      where
        told : (d : ℕ) → 1 < d → nat_le d 1 ≡ false
        told d more = grind (arith, nat_tests)

    leads_none : rests_value missing 0 parts ≡ 0
    leads_none =
        sym (here.leads (here.ready ∙ is_far) missing 0)
        ∙ draws_same (λ p. missing (placed_hand parts keys p)) (λ p. 0) 0 place (draws_in (slice_index_or graph.nodes place (some_node graph.nodes place low)).draws) here.before (λ p small. none_absent keys (slice_index_or keys p []) (get_or-in keys p [] (omega (arith, small, low, is.each))))
        ∙ no_value (draws_in (slice_index_or graph.nodes place (some_node graph.nodes place low)).draws)

    rest_none : counted_rest missing (parts_with parts kind) ≡ 0
    rest_none =
        let tests = and_parts (nat_lt 0 (live_of parts.tiles parts.melds parts.seen kind)) (nat_lt (distance_of (with_one parts.tiles kind) parts.melds) (distance_of parts.tiles parts.melds)) step.accepted in
        no_least (counted_rest missing (parts_with parts kind)) (none_left (live_of parts.tiles parts.melds parts.seen kind) (max (counted_rest missing (parts_with parts kind)) 0) (ltb-true 0 (live_of parts.tiles parts.melds parts.seen kind) tests.0)
        (omega (arith, leads_none, one_of_sum (rest_by missing 0 parts) (accepts parts) (kind, live_of parts.tiles parts.melds parts.seen kind) (accepted_listed parts kind step.is_kind step.accepted))))
      where
        no_least : (n : ℕ) → max n 0 ≡ 0 → n ≡ 0
        no_least n e = omega (arith, e)

    pub stands : IsIn (without_one (with_one parts.tiles kind) thrown) keys
    unfolding counted_rest
    stands = not_absent keys (without_one (with_one parts.tiles kind) thrown)
        (omega (
          arith,
          rest_none,
          greatest_some (λ k. missing (parts_less (parts_with parts kind) k)) (filter (is_discard (with_one parts.tiles kind) parts.melds) every_kind) thrown
              (in-filter (is_discard (with_one parts.tiles kind) parts.melds) thrown every_kind (in-range 34 0 thrown (omega arith) (omega (arith, step.is_thrown))) step.best),
        ))

-- ---- all that may be come to stand there

module _ (group : HandGroup) (graph : HandGraph) (is : IsGraph group.root graph) (firsts : (hand : List ℕ) → Contains group.firsts hand → IsIn hand graph.hands) where
  all_stand : (hand : List ℕ) → MayCome group hand → IsIn hand graph.hands
  all_stand hand (AtFirst _ there) = firsts hand there
  all_stand hand (ByStep before kind thrown come step) =
      let at = Contains-in before graph.hands (all_stand before come) in
      let same : slice_index_or graph.hands at.0 [] ≡ before = get_or_default graph.hands at.0 [] before at.1 ∙ at.2 in
      subst (λ (tiles : List ℕ). IsIn (without_one (with_one tiles kind) thrown) graph.hands) same
      (stands group.root graph is at.0 (omega (arith, at.1, is.each)) kind thrown (subst (λ (tiles : List ℕ). IsStep group.root tiles kind thrown) (sym same) step))

  pub comes_to_few : (most : ℕ) → graph.most_hands ≡ most → ComesToFew most group
  comes_to_few most most_is = record {
    hands = graph.hands;
    few = omega (arith, is.few, is.each, most_is);
    all = λ hand come. Contains-in hand graph.hands (all_stand hand come);
  }

-- ---- while the hands are taken

pub within_drawn : (group : HandGroup) (own drawn : ShapeParts) (before after : HandGraph) → drawn.melds ≡ own.melds → drawn.seen ≡ own.seen → IsWithin group own before → All (MayCome group) after.hands → IsWithin group drawn after
within_drawn group own drawn before after melds_are seen_is inside each = record { melds = inside.melds ∙ sym melds_are; seen = inside.seen ∙ sym seen_is; each = each }

pub rests_come : (group : HandGroup) (parts drawn : ShapeParts) (graph : HandGraph) (kind place : ℕ) → IsWithin group parts graph → 1 < distance_of parts.tiles parts.melds → kind < 34 → is_accepted parts.tiles parts.melds parts.seen kind ≡ true → place ≡ kind → drawn ≡ parts_with parts place → MayCome group parts.tiles → RestsMayCome drawn group
rests_come group parts drawn graph kind place inside far low accepted place_is drawn_is come thrown small best =
    subst (λ (tiles : List ℕ). MayCome group (without_one tiles thrown)) (sym (ap (λ (p : ShapeParts). p.tiles) as_drawn)) (ByStep parts.tiles kind thrown come (record {
      far = omega (arith, far, ap (distance_of parts.tiles) inside.melds);
      is_kind = low;
      accepted = ap (λ (melds : List Meld). is_accepted parts.tiles melds group.root.seen kind) inside.melds ∙ ap (λ (seen : List ℕ). is_accepted parts.tiles parts.melds seen kind) inside.seen ∙ accepted;
      is_thrown = small;
      best = ap (λ (melds : List Meld). is_discard (with_one parts.tiles kind) melds thrown) inside.melds ∙ sym (ap (λ (p : ShapeParts). is_discard p.tiles p.melds thrown) as_drawn) ∙ best;
    }))
  where
    as_drawn : drawn ≡ parts_with parts kind
    as_drawn = drawn_is ∙ ap (parts_with parts) place_is

-- ---- what holds of an answer, and what of none

pub on_err : {A E Q : Type 0} (result : Result A E) → Q → OnErr result Q
on_err (Ok value) it = tt
on_err (Err fault) it = it

pub on_err_as : {A E P Q : Type 0} (result : Result A E) → (P → Q) → OnErr result P → OnErr result Q
on_err_as (Ok value) told it = it
on_err_as (Err fault) told it = told it

pub more_as : (before after : ℕ) (group : HandGroup) → after ≡ before → ComesToMore after group → ComesToMore before group
more_as before after group e = subst (λ n. ComesToMore n group) e

pub on_ok_as : {A E P Q : Type 0} (result : Result A E) → (P → Q) → OnOk result P → OnOk result Q
on_ok_as (Ok value) told it = told it
on_ok_as (Err fault) told it = it

pub rest_comes : (group : HandGroup) (drawn rest : ShapeParts) (kind : ℕ) → rest ≡ parts_less drawn kind → LeavesLeast drawn.tiles drawn.melds kind → RestsMayCome drawn group → MayCome group rest.tiles
rest_comes group drawn rest kind rest_is best come = subst (MayCome group) (sym (ap (λ (p : ShapeParts). p.tiles) rest_is)) (come kind best.is_kind (is_chosen drawn.tiles drawn.melds kind best))

-- ---- a hand by itself, and the hands that discards leave

pub alone_few : (parts : ShapeParts) (graph : HandGraph) (place most : ℕ) → IsGraph parts graph → IsPlaceOf graph parts place → graph.most_hands ≡ most → ComesToFew most (by_itself parts)
alone_few parts graph place most is there = comes_to_few (by_itself parts) graph is (λ hand first. at_first hand (in-Contains hand (parts.tiles ∷ []) first)) most
  where
    at_first : (hand : List ℕ) → IsIn hand (parts.tiles ∷ []) → IsIn hand graph.hands
    at_first hand (inl e) = subst (λ (tiles : List ℕ). IsIn tiles graph.hands) (there.is ∙ e) (get_or-in graph.hands place [] (omega (arith, there.inside, is.each)))
    at_first hand (inr none) = absurd none

pub none_within : (group : HandGroup) (parts : ShapeParts) (graph : HandGraph) → group.root.melds ≡ parts.melds → group.root.seen ≡ parts.seen → graph.hands ≡ [] → IsWithin group parts graph
none_within group parts graph melds_are seen_is none = record { melds = melds_are; seen = seen_is; each = subst (λ (keys : List (List ℕ)). All (MayCome group) keys) (sym none) (λ k d low. absurd (omega (arith, low))) }

pub alone_comes : (parts : ShapeParts) → MayCome (by_itself parts) parts.tiles
alone_comes parts = AtFirst parts.tiles (Contains-in parts.tiles (parts.tiles ∷ []) (inl refl))

placed_in : (keys : List (List ℕ)) (places : List ℕ) (hand : List ℕ) → AreBefore (length keys) places → IsIn hand (map (λ place. slice_index_or keys place []) places) → IsIn hand keys
placed_in keys places hand before there =
    let found = in-map-inv (λ place. slice_index_or keys place []) hand places there in
    let at = Contains-in found.0 places found.1 in
    subst (λ (tiles : List ℕ). IsIn tiles keys) found.2 (get_or-in keys found.0 [] (omega (arith, before at.0 at.1, get_or_default places at.0 0 found.0 at.1, at.2)))

pub together_few : (drawn : ShapeParts) (graph : HandGraph) (places : List ℕ) (discards : List Discard) (most : ℕ) → IsGraph drawn graph → AreBefore (length graph.nodes) places → discards ≡ discards_of drawn.tiles drawn.melds drawn.seen → AreLeft graph.hands places drawn.tiles (discard_kinds discards) → graph.most_hands ≡ most → ComesToFew most (together drawn)
together_few drawn graph places discards most is before discards_is left = comes_to_few (together drawn) graph is
    (λ hand first. placed_in graph.hands places hand (λ k low. omega (arith, before k low, is.each))
    (subst (λ (hands : List (List ℕ)). IsIn hand hands) (sym (left ∙ ap (λ (ds : List Discard). map (without_one drawn.tiles) (discard_kinds ds)) discards_is)) (in-Contains hand (together drawn).firsts first))) most

pub together_come : (drawn : ShapeParts) → RestsMayCome drawn (together drawn)
together_come drawn thrown low best =
    AtFirst (without_one drawn.tiles thrown) (Contains-in (without_one drawn.tiles thrown) (map (without_one drawn.tiles) (discard_kinds (discards_of drawn.tiles drawn.melds drawn.seen))) (in-map (without_one drawn.tiles) thrown (discard_kinds (discards_of drawn.tiles drawn.melds drawn.seen)) (best_in drawn thrown low best)))

-- ---- one discard more

module _ (discards : List Discard) (at : ℕ) (short : ShortDiscard) (found : Some short ≡ option_map short_of (slice_get discards at)) where
  pub each_more : (P : ℕ → Type 0) → ((kind : ℕ) → IsIn kind (discard_kinds (take at discards)) → P kind) → P short.kind → (kind : ℕ) → IsIn kind (discard_kinds (take (at + 1) discards)) → P kind
  each_more P before here kind there = by_case (in-cases kind (discard_kinds (take at discards)) (short.kind ∷ []) (subst (IsIn kind) (kinds_more discards at short found) there))
    where
      by_case : IsIn kind (discard_kinds (take at discards)) ⊎ IsIn kind (short.kind ∷ []) → P kind
      by_case (inl earlier) = before kind earlier
      by_case (inr (inl e)) = subst P e here
      by_case (inr (inr none)) = absurd none

  pub kind_found : Contains (discard_kinds discards) short.kind
  kind_found =
      let listed = found_at discards at short found in
      Contains-in short.kind (discard_kinds discards) (subst (λ kind. IsIn kind (discard_kinds discards)) listed.2 (in-map (λ (discard : Discard). discard.kind) listed.0 discards listed.1))

-- ---- the groups of fourteen tiles

module _ (drawn : ShapeParts) (discards : List Discard) (discards_is : discards ≡ discards_of drawn.tiles drawn.melds drawn.seen) (most : ℕ) where
  module _ (won : is_there 0 drawn ≡ true) where
    abbrev of_kind : ℕ → HandGroup
    of_kind kind = by_itself (parts_without drawn kind)

    by_one : groups_of drawn ≡ map of_kind (discard_kinds discards)
    by_one = ap (λ t. cond t (map of_kind (discard_kinds (discards_of drawn.tiles drawn.melds drawn.seen))) (together drawn ∷ [])) won ∙ ap (λ (ds : List Discard). map of_kind (discard_kinds ds)) (sym discards_is)

    pub few_by_one : ((kind : ℕ) → Contains (discard_kinds discards) kind → ComesToFew most (by_itself (parts_without drawn kind))) → All (ComesToFew most) (groups_of drawn)
    few_by_one few = subst (λ (groups : List HandGroup). All (ComesToFew most) groups) (sym by_one) (All-in (ComesToFew most) (map of_kind (discard_kinds discards)) each)
      where
        each : (group : HandGroup) → IsIn group (map of_kind (discard_kinds discards)) → ComesToFew most group
        each group there = let found = in-map-inv of_kind group (discard_kinds discards) there in subst (ComesToFew most) found.2 (few found.0 (Contains-in found.0 (discard_kinds discards) found.1))

    pub many_by_one : (kind : ℕ) × Contains (discard_kinds discards) kind × ComesToMore most (by_itself (parts_without drawn kind)) → (group : HandGroup) × Contains (groups_of drawn) group × ComesToMore most group
    many_by_one found =
        (of_kind found.0, subst (λ (groups : List HandGroup). Contains groups (of_kind found.0)) (sym by_one) (Contains-in (of_kind found.0) (map of_kind (discard_kinds discards)) (in-map of_kind found.0 (discard_kinds discards) (in-Contains found.0 (discard_kinds discards) found.1))), found.2)

  module _ (not_won : is_there 0 drawn ≡ false) where
    all_one : groups_of drawn ≡ together drawn ∷ []
    all_one = ap (λ t. cond t (map (λ kind. by_itself (parts_without drawn kind)) (discard_kinds (discards_of drawn.tiles drawn.melds drawn.seen))) (together drawn ∷ [])) not_won

    pub few_in_all : ComesToFew most (together drawn) → All (ComesToFew most) (groups_of drawn)
    few_in_all few = subst (λ (groups : List HandGroup). All (ComesToFew most) groups) (sym all_one) (All-in (ComesToFew most) (together drawn ∷ []) each)
      where
        each : (group : HandGroup) → IsIn group (together drawn ∷ []) → ComesToFew most group
        each group (inl e) = subst (ComesToFew most) e few
        each group (inr none) = absurd none

    pub many_in_all : ComesToMore most (together drawn) → (group : HandGroup) × Contains (groups_of drawn) group × ComesToMore most group
    many_in_all many = (together drawn, subst (λ (groups : List HandGroup). Contains groups (together drawn)) (sym all_one) (Contains-in (together drawn) (together drawn ∷ []) (inl refl)), many)

-- ---- what is asked, of thirteen tiles or fourteen

pub thirteen_too_many : (parts : ShapeParts) (most : ℕ) → is_thirteen parts.tiles parts.melds ≡ true → ComesToMore most (by_itself parts) → ComesToTooMany most parts
thirteen_too_many parts most thirteen many = (by_itself parts, subst (λ (groups : List HandGroup). Contains groups (by_itself parts)) (sym (ap (λ t. cond t (by_itself parts ∷ []) (groups_of parts)) thirteen)) (Contains-in (by_itself parts) (by_itself parts ∷ []) (inl refl)), many)

pub fourteen_too_many : (parts : ShapeParts) (most : ℕ) → is_thirteen parts.tiles parts.melds ≡ false → (group : HandGroup) × Contains (groups_of parts) group × ComesToMore most group → ComesToTooMany most parts
fourteen_too_many parts most not found = (found.0, subst (λ (groups : List HandGroup). Contains groups found.0) (sym (ap (λ t. cond t (by_itself parts ∷ []) (groups_of parts)) not)) found.1, found.2)
