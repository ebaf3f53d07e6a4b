-- Hands at their places, and what the draws of a hand lead to.
use Rattle.std.proofs.Common.{◌≡◌, ℕ, suc, ◌+◌, ◌*◌, ◌<◌, ◌≤◌, max, List, [], ◌∷◌, map, length, drop, get_or, refl, sym, ap, subst, ◌∙◌, ⊎_elim, arith, length-append}
use Rattle.std.proofs.Math.Seq.{drop-cons}
use Rattle.std.proofs.lemmas.Bool.{cases_eq}
use Rattle.std.proofs.lemmas.List.{get_or_append_left, get_or_push}
use Rattle.std.proofs.lemmas.List.Sums.{sum_by-cons}
use Rattle.std.proofs.lemmas.Cmp.{nat_list_eq_equiv}
use Rattle.std.proofs.lemmas.Map.Keys.{IsDistinct-push}
use Rattle.std.specs.Cmp.Lexicographic.{pointwise}
use Rattle.std.specs.List.{IsDistinct}
use Rattle.std.specs.Prelude.{nat_eq, slice_index_or}
use Rattle.riichi_hand.specs.HandParts.{ShapeParts}
use Rattle.riichi_tiles.specs.declared.meld.Meld.{Meld}
use Rattle.riichi_chances.specs.Draws.{greatest}
use Rattle.riichi_chances.specs.Graph.{AreBefore, Grows, HandGraph, IsGraph, IsMore, IsNode, IsPushed, LeadBefore, LeadTo, draw_value, draws_in, draws_value, placed_hand, places_in}
use Rattle.riichi_chances.specs.Places.{IsAbsent}
use Rattle.riichi_chances.specs.declared.node.Draw.{Draw}
use Rattle.riichi_chances.specs.declared.node.Node.{Node}

-- ---- the values of places

pub greatest_places : (f g : ℕ → ℕ) (most : ℕ) (places : List ℕ) → AreBefore most places → ((p : ℕ) → p < most → f p ≡ g p) → greatest f places ≡ greatest g places
unfolding greatest
greatest_places f g most [] before same = refl
greatest_places f g most (p ∷ ps) before same = ap (λ n. max n (greatest f ps)) (same p (before 0 (omega arith))) ∙ ap (max (g p)) (greatest_places f g most ps (λ k low. before (suc k) (omega (arith, low))) same)

pub map_places : (f g : ℕ → List ℕ) (most : ℕ) (places : List ℕ) → AreBefore most places → ((p : ℕ) → p < most → f p ≡ g p) → map f places ≡ map g places
map_places f g most [] before same = refl
map_places f g most (p ∷ ps) before same = ap (λ (hand : List ℕ). hand ∷ map f ps) (same p (before 0 (omega arith))) ∙ ap (λ (hands : List (List ℕ)). g p ∷ hands) (map_places f g most ps (λ k low. before (suc k) (omega (arith, low))) same)

greatest_more : (f : ℕ → ℕ) (p : ℕ) (ps : List ℕ) → greatest f (p ∷ ps) ≡ max (f p) (greatest f ps)
unfolding greatest
greatest_more f p ps = refl

pub greatest_none : (f : ℕ → ℕ) → greatest f [] ≡ 0
unfolding greatest
greatest_none f = refl

pub greatest_drop : (f : ℕ → ℕ) (places : List ℕ) (i p : ℕ) → i < length places → p ≡ get_or places i p → greatest f (drop i places) ≡ max (f p) (greatest f (drop (i + 1) places))
greatest_drop f places i p low e =
    ap (greatest f) (drop-cons places i p low) ∙ greatest_more f (get_or places i p) (drop (suc i) places) ∙ ap (λ n. max (f n) (greatest f (drop (suc i) places))) (sym e) ∙ ap (λ n. max (f p) (greatest f (drop n places))) (one i)
  where
    one : (n : ℕ) → suc n ≡ n + 1
    one n = omega arith

pub draws_same : (f g : ℕ → ℕ) (least most : ℕ) (draws : List Draw) → LeadBefore most draws → ((p : ℕ) → p < most → f p ≡ g p) → draws_value f least draws ≡ draws_value g least draws
draws_same f g least most [] before same = refl
draws_same f g least most (d ∷ ds) before same =
    sum_by-cons (draw_value f least) d ds ∙ ap (λ n. d.live * max n least + draws_value f least ds) (greatest_places f g most (places_in d.rests) (before 0 d (omega arith)) same)
    ∙ ap (λ n. draw_value g least d + n) (draws_same f g least most ds (λ at e low. before (suc at) e (omega (arith, low))) same) ∙ sym (sum_by-cons (draw_value g least) d ds)

-- ---- more hands

pub more_same : (hands : List (List ℕ)) → IsMore hands hands
more_same hands = record { longer = omega arith; same = λ p low. refl }

pub more_after : (one two three : List (List ℕ)) → IsMore one two → IsMore two three → IsMore one three
more_after one two three f g = record { longer = omega (arith, f.longer, g.longer); same = λ p low. g.same p (omega (arith, low, f.longer)) ∙ f.same p low }

pub hands_same : (parts : ShapeParts) (before after : List (List ℕ)) → IsMore before after → (value : ShapeParts → ℕ) (p : ℕ) → p < length before → value (placed_hand parts before p) ≡ value (placed_hand parts after p)
hands_same parts before after more value p low = ap (λ (tiles : List ℕ). value (record { tiles = tiles; melds = parts.melds; seen = parts.seen })) (sym (more.same p low))

pub before_grown : (most more : ℕ) (draws : List Draw) → most ≤ more → LeadBefore most draws → LeadBefore more draws
before_grown most more draws few before at draw low k small = omega (arith, before at draw low k small, few)

pub leads_grown : (parts : ShapeParts) (before after : List (List ℕ)) (most : ℕ) (draws : List Draw) → IsMore before after → most ≤ length before → LeadBefore most draws → LeadTo before draws parts → LeadTo after draws parts
leads_grown parts before after most draws more few lead to value least =
    sym (draws_same (λ p. value (placed_hand parts before p)) (λ p. value (placed_hand parts after p)) least most draws lead (λ p low. hands_same parts before after more value p (omega (arith, low, few)))) ∙ to value least

pub node_grown : (before after : List (List ℕ)) (place : ℕ) (parts : ShapeParts) (node : Node) → IsMore before after → place ≤ length before → IsNode before place parts node → IsNode after place parts node
node_grown before after place parts node more few is =
    record { whole = is.whole; shape = is.shape; ready = is.ready; live = is.live; before = is.before; leads = λ far. leads_grown parts before after place (draws_in node.draws) more few is.before (is.leads far) }

-- ---- one more hand

module _ (root : ShapeParts) (before after : HandGraph) (node : Node) (is : IsGraph root before) (pushed : IsPushed root.tiles node before after) (absent : IsAbsent root.tiles before.hands) (new : IsNode before.hands (length before.nodes) root node) (room : length before.nodes < before.most_hands) where
  abbrev hand : List ℕ
  hand = root.tiles

  more_hands : length after.hands ≡ length before.hands + 1
  more_hands = ap length pushed.hands ∙ length-append before.hands (hand ∷ [])

  more_nodes : length after.nodes ≡ length before.nodes + 1
  more_nodes = ap length pushed.nodes ∙ length-append before.nodes (node ∷ [])

  pub taken_more : IsMore before.hands after.hands
  taken_more = record { longer = omega (arith, more_hands); same = λ p low. ap (λ (ks : List (List ℕ)). slice_index_or ks p []) pushed.hands ∙ get_or_append_left before.hands (hand ∷ []) [] p low }

  here_hand : slice_index_or after.hands (length before.nodes) [] ≡ hand
  here_hand = ap (λ (ks : List (List ℕ)). slice_index_or ks (length before.nodes) []) pushed.hands ∙ get_or_push before.hands hand [] (length before.nodes) is.each

  here_node : (n : Node) → slice_index_or after.nodes (length before.nodes) n ≡ node
  here_node n = ap (λ (ns : List Node). slice_index_or ns (length before.nodes) n) pushed.nodes ∙ get_or_push before.nodes node n (length before.nodes) refl

  pub taken_graph : IsGraph root after
  taken_graph = record { each = omega (arith, more_hands, more_nodes, is.each); once = subst (IsDistinct (pointwise nat_eq)) (sym pushed.hands) (IsDistinct-push nat_list_eq_equiv before.hands hand is.once absent); few = omega (arith, more_nodes, pushed.most, room); node = λ p n low. ⊎_elim (at_last p n) (λ ne. earlier p n (omega (arith, more_nodes, low, ne))) (cases_eq p (length before.nodes)) }
    where
      earlier : (p : ℕ) (n : Node) → p < length before.nodes → IsNode after.hands p (placed_hand root after.hands p) (slice_index_or after.nodes p n)
      earlier p n low =
          subst (λ (nd : Node). IsNode after.hands p (placed_hand root after.hands p) nd) (sym (ap (λ (ns : List Node). slice_index_or ns p n) pushed.nodes ∙ get_or_append_left before.nodes (node ∷ []) n p low))
          (subst (λ (tiles : List ℕ). IsNode after.hands p (record { tiles = tiles; melds = root.melds; seen = root.seen }) (slice_index_or before.nodes p n)) (sym (taken_more.same p (omega (arith, low, is.each))))
          (node_grown before.hands after.hands p (placed_hand root before.hands p) (slice_index_or before.nodes p n) taken_more (omega (arith, low, is.each)) (is.node p n low)))

      there : (n : Node) → IsNode after.hands (length before.nodes) (placed_hand root after.hands (length before.nodes)) (slice_index_or after.nodes (length before.nodes) n)
      there n =
          subst (λ (nd : Node). IsNode after.hands (length before.nodes) (placed_hand root after.hands (length before.nodes)) nd) (sym (here_node n))
          (subst (λ (tiles : List ℕ). IsNode after.hands (length before.nodes) (record { tiles = tiles; melds = root.melds; seen = root.seen }) node) (sym here_hand)
          (node_grown before.hands after.hands (length before.nodes) (record { tiles = hand; melds = root.melds; seen = root.seen }) node taken_more (omega (arith, is.each)) new))

      at_last : (p : ℕ) (n : Node) → p ≡ length before.nodes → IsNode after.hands p (placed_hand root after.hands p) (slice_index_or after.nodes p n)
      at_last p n e = subst (λ (q : ℕ). IsNode after.hands q (placed_hand root after.hands q) (slice_index_or after.nodes q n)) (sym e) (there n)

  pub taken_grows : Grows root before after
  taken_grows = record { whole = taken_graph; more = taken_more; most = pushed.most }

-- ---- hands with the same melds that see the same

pub same_root : (one other : ShapeParts) (graph : HandGraph) → one.melds ≡ other.melds → one.seen ≡ other.seen → IsGraph one graph → IsGraph other graph
same_root one other graph e f is = record {
  each = is.each;
  once = is.once;
  few = is.few;
  node = λ p n low.
      subst (λ (ms : List Meld). IsNode graph.hands p (record { tiles = slice_index_or graph.hands p []; melds = ms; seen = other.seen }) (slice_index_or graph.nodes p n)) e
      (subst (λ (s : List ℕ). IsNode graph.hands p (record { tiles = slice_index_or graph.hands p []; melds = one.melds; seen = s }) (slice_index_or graph.nodes p n)) f (is.node p n low));
}

pub grows_same : (root : ShapeParts) (graph : HandGraph) → IsGraph root graph → Grows root graph graph
grows_same root graph is = record { whole = is; more = more_same graph.hands; most = refl }

pub grows_after : (root : ShapeParts) (one two three : HandGraph) → Grows root one two → Grows root two three → Grows root one three
grows_after root one two three f g = record { whole = g.whole; more = more_after one.hands two.hands three.hands f.more g.more; most = g.most ∙ f.most }

pub grows_root : (one other : ShapeParts) (before after : HandGraph) → one.melds ≡ other.melds → one.seen ≡ other.seen → Grows one before after → Grows other before after
grows_root one other before after e f grows = record { whole = same_root one other after e f grows.whole; more = grows.more; most = grows.most }
