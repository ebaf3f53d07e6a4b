-- Hands in lent places, and the lists in which they are looked for.
use Rattle.std.proofs.Common.{◌≡◌, ℕ, suc, ◌+◌, ◌<◌, ◌≤◌, ◌≢◌, Bool, true, false, true≢false, All, List, [], ◌∷◌, ◌++◌, map, take, length, slice_set, get_or-set_same, get_or-set_other, length-set, refl, sym, ap, subst, ◌∙◌, ⊎_elim, arith}
use Rattle.std.proofs.lemmas.Bool.{cases_eq}
use Rattle.std.proofs.lemmas.List.{get_or-map, get_or-take, get_or_default, length-map, length-take-le, map_push, take-map, take_more_set}
use Rattle.std.proofs.lemmas.List.Folds.{list_any_none}
use Rattle.std.specs.Cmp.Lexicographic.{bytes_decides, pointwise, same_text}
use Rattle.std.specs.List.{IsDistinct}
use Rattle.std.specs.Prelude.{nat_eq, slice_index, slice_index_or}
use Rattle.riichi_hand.specs.HandParts.{ShapeParts}
use Rattle.riichi_chances.specs.Graph.{HandGraph, IsPlaceOf, IsPushed}
use Rattle.riichi_chances.specs.Places.{IsAbsent, IsIndexed, LeadsTo, bucket_of, earlier_at, graph_of, tiles_at}
use Rattle.riichi_chances.specs.declared.hand_place.HandPlace.{HandPlace}

-- ---- what stands at a place

tiles_read : (places : List HandPlace) (p : ℕ) (d : HandPlace) → p < length places → tiles_at places p ≡ (slice_index_or places p d).tiles
tiles_read places p d low = get_or-map (λ (place : HandPlace). place.tiles) places p d [] low

earlier_read : (places : List HandPlace) (p : ℕ) (d : HandPlace) → p < length places → earlier_at places p ≡ (slice_index_or places p d).earlier
earlier_read places p d low = get_or-map (λ (place : HandPlace). place.earlier) places p d 0 low

pub hands_many : (places : List HandPlace) (count most : ℕ) → count ≤ length places → length (graph_of places count most).hands ≡ count
hands_many places count most few = length-map (take count places) (λ (place : HandPlace). place.tiles) ∙ length-take-le count places few

pub nodes_many : (places : List HandPlace) (count most : ℕ) → count ≤ length places → length (graph_of places count most).nodes ≡ count
nodes_many places count most few = length-map (take count places) (λ (place : HandPlace). place.node) ∙ length-take-le count places few

pub hand_at : (places : List HandPlace) (count most p : ℕ) (d : List ℕ) → count ≤ length places → p < count → slice_index_or (graph_of places count most).hands p d ≡ tiles_at places p
hand_at places count most p d few low =
    ap (λ (hands : List (List ℕ)). slice_index_or hands p d) (sym (take-map (λ (place : HandPlace). place.tiles) count places)) ∙ get_or-take count (map (λ (place : HandPlace). place.tiles) places) p d low
    ∙ get_or_default (map (λ (place : HandPlace). place.tiles) places) p d [] (omega (arith, low, few, length-map places (λ (place : HandPlace). place.tiles)))

-- ---- no hand yet

pub none_indexed : (places : List HandPlace) (lasts : List ℕ) (most : ℕ) → most ≤ length places → most ≤ 65535 → ((bucket : ℕ) → bucket < 4096 → slice_index lasts bucket ≡ 0) → IsIndexed places lasts 0 most
none_indexed places lasts most room small none = record {
  few = omega arith;
  room = room;
  small = small;
  from = λ bucket low. record { inside = omega (arith, none bucket low); in_list = λ p e. absurd (omega (arith, e, none bucket low)); last = λ p less e. absurd (omega (arith, less)) };
  on = λ p less. absurd (omega (arith, less));
}

-- ---- looking for a hand

-- no place with these tiles is behind the next one that is looked at
pub record FindsBelow (places : List HandPlace) (count : ℕ) (tiles : List ℕ) (next : ℕ) : Type 0 where
  pub inside : next ≤ count
  pub in_list : (p : ℕ) → next ≡ suc p → bucket_of (tiles_at places p) ≡ bucket_of tiles
  pub others : (p : ℕ) → p < count → tiles_at places p ≡ tiles → p < next

module _ (graph : HandGraph) (places : List HandPlace) (lasts : List ℕ) (count most : ℕ) (is : IsIndexed places lasts count most) (graph_is : graph ≡ graph_of places count most) where
  pub as_many : length graph.hands ≡ count
  as_many = ap (λ (g : HandGraph). length g.hands) graph_is ∙ hands_many places count most (omega (arith, is.few, is.room))

  pub most_told : graph.most_hands ≡ most
  most_told = ap (λ (g : HandGraph). g.most_hands) graph_is

  pub nodes_told : length graph.nodes ≡ count
  nodes_told = ap (λ (g : HandGraph). length g.nodes) graph_is ∙ nodes_many places count most (omega (arith, is.few, is.room))

  pub finds_first : (tiles : List ℕ) (bucket : ℕ) → bucket < 4096 → bucket ≡ bucket_of tiles → FindsBelow places (length graph.hands) tiles (slice_index lasts bucket)
  finds_first tiles bucket low e = record {
    inside = omega (arith, (is.from bucket low).inside, as_many);
    in_list = λ p f. (is.from bucket low).in_list p f ∙ e;
    others = λ p less same. (is.from bucket low).last p (omega (arith, less, as_many)) (ap bucket_of same ∙ sym e);
  }

  module _ (tiles : List ℕ) (next p : ℕ) (so_far : FindsBelow places (length graph.hands) tiles next) (e : next ≡ suc p) where
    pub stands : p < count
    stands = omega (arith, so_far.inside, e, as_many)

    pub reads : p < length places
    reads = omega (arith, stands, is.few, is.room)

    module _ (d : HandPlace) where
      abbrev place : HandPlace
      place = slice_index_or places p d

      pub earlier : place.earlier < next
      earlier = omega (arith, earlier_read places p d reads, (is.on p stands).inside, e)

      pub found : pointwise nat_eq place.tiles tiles ≡ true → (parts : ShapeParts) → tiles ≡ parts.tiles → IsPlaceOf graph parts p
      found same parts tiles_are = record {
        inside = omega (arith, stands, nodes_told);
        is = ap (λ (g : HandGraph). slice_index_or g.hands p []) graph_is ∙ hand_at places count most p [] (omega (arith, is.few, is.room)) stands ∙ tiles_read places p d reads ∙ same_text place.tiles tiles (sym same) ∙ tiles_are;
      }

      pub finds_next : pointwise nat_eq place.tiles tiles ≡ false → FindsBelow places (length graph.hands) tiles place.earlier
      finds_next other = record {
        inside = omega (arith, earlier, so_far.inside);
        in_list = λ q f. (is.on p stands).in_list q (earlier_read places p d reads ∙ f) ∙ so_far.in_list p e;
        others = λ q low same. omega (arith, earlier_read places p d reads, (is.on p stands).last q (before q low same) (ap bucket_of same ∙ sym (so_far.in_list p e)));
      }
        where
          before : (q : ℕ) → q < length graph.hands → tiles_at places q ≡ tiles → q < p
          before q low same = ⊎_elim (λ f. absurd (true≢false (sym ((bytes_decides place.tiles tiles).1 (sym (tiles_read places p d reads) ∙ ap (tiles_at places) (sym f) ∙ same)) ∙ other))) (λ ne. omega (arith, so_far.others q low same, e, ne)) (cases_eq q p)

  pub finds_none : (tiles : List ℕ) (next : ℕ) → next ≡ 0 → FindsBelow places (length graph.hands) tiles next → IsAbsent tiles graph.hands
  finds_none tiles next none so_far = list_any_none (pointwise nat_eq tiles) graph.hands each
    where
      each : All (λ (hand : List ℕ). pointwise nat_eq tiles hand ≡ false) graph.hands
      each p d low = by_test (pointwise nat_eq tiles (slice_index_or graph.hands p d)) refl
        where
          same_hand : slice_index_or graph.hands p d ≡ tiles_at places p
          same_hand = ap (λ (g : HandGraph). slice_index_or g.hands p d) graph_is ∙ hand_at places count most p d (omega (arith, is.few, is.room)) (omega (arith, low, as_many))

          by_test : (t : Bool) → t ≡ pointwise nat_eq tiles (slice_index_or graph.hands p d) → t ≡ false
          by_test false f = refl
          by_test true f = absurd (omega (arith, none, so_far.others p low (sym same_hand ∙ sym (same_text tiles (slice_index_or graph.hands p d) f))))

-- ---- one hand more

module _ (places : List HandPlace) (lasts : List ℕ) (count most : ℕ) (is : IsIndexed places lasts count most) (room : count < most) (place : HandPlace) (bucket : ℕ) (listed : bucket ≡ bucket_of place.tiles) (small : bucket < 4096) (inside : bucket < length lasts) (earlier : place.earlier ≡ slice_index lasts bucket) where
  abbrev after : List HandPlace
  after = slice_set places count place

  there : count < length places
  there = omega (arith, room, is.room)

  long : length after ≡ length places
  long = length-set places count place

  tiles_stay : (p : ℕ) → p < count → tiles_at after p ≡ tiles_at places p
  tiles_stay p low = tiles_read after p place (omega (arith, long, low, there)) ∙ ap (λ (it : HandPlace). it.tiles) (get_or-set_other places count p place place (λ e. omega (arith, e, low))) ∙ sym (tiles_read places p place (omega (arith, low, there)))

  tiles_here : tiles_at after count ≡ place.tiles
  tiles_here = tiles_read after count place (omega (arith, long, there)) ∙ ap (λ (it : HandPlace). it.tiles) (get_or-set_same places count place place there)

  earlier_stay : (p : ℕ) → p < count → earlier_at after p ≡ earlier_at places p
  earlier_stay p low = earlier_read after p place (omega (arith, long, low, there)) ∙ ap (λ (it : HandPlace). it.earlier) (get_or-set_other places count p place place (λ e. omega (arith, e, low))) ∙ sym (earlier_read places p place (omega (arith, low, there)))

  earlier_here : earlier_at after count ≡ slice_index lasts bucket
  earlier_here = earlier_read after count place (omega (arith, long, there)) ∙ ap (λ (it : HandPlace). it.earlier) (get_or-set_same places count place place there) ∙ earlier

  -- a list that leads through places before this one still does
  still : (list before next : ℕ) → before ≤ count → LeadsTo places list before next → LeadsTo after list before next
  still list before next few led = record {
    inside = led.inside;
    in_list = λ p e. ap bucket_of (tiles_stay p (omega (arith, e, led.inside, few))) ∙ led.in_list p e;
    last = λ p low e. led.last p low (sym (ap bucket_of (tiles_stay p (omega (arith, low, few)))) ∙ e);
  }

  from_list : (list : ℕ) → list < 4096 → LeadsTo after list (count + 1) (slice_index (slice_set lasts bucket (count + 1)) list)
  from_list list low = ⊎_elim same other (cases_eq list bucket)
    where
      same : list ≡ bucket → LeadsTo after list (count + 1) (slice_index (slice_set lasts bucket (count + 1)) list)
      same e = subst (λ n. LeadsTo after n (count + 1) (slice_index (slice_set lasts bucket (count + 1)) n)) (sym e) (subst (LeadsTo after bucket (count + 1)) (sym (get_or-set_same lasts bucket (count + 1) 0 inside)) (record {
        inside = omega arith;
        in_list = λ p f. ap (λ n. bucket_of (tiles_at after n)) (the_last p f) ∙ ap bucket_of tiles_here ∙ sym listed;
        last = λ p less f. less;
      }))
        where
          the_last : (p : ℕ) → count + 1 ≡ suc p → p ≡ count
          the_last p f = omega (arith, f)

      other : list ≢ bucket → LeadsTo after list (count + 1) (slice_index (slice_set lasts bucket (count + 1)) list)
      other ne = subst (LeadsTo after list (count + 1)) (sym (get_or-set_other lasts bucket list (count + 1) 0 ne)) (
          let led = still list count (slice_index lasts list) (omega arith) (is.from list low) in
          record {
            inside = omega (arith, led.inside);
            in_list = led.in_list;
            last = λ p less f. ⊎_elim (λ e. absurd (ne (sym f ∙ ap (λ n. bucket_of (tiles_at after n)) e ∙ ap bucket_of tiles_here ∙ sym listed))) (λ not. led.last p (omega (arith, less, not)) f) (cases_eq p count);
          }
          )

  on_place : (p : ℕ) → p < count + 1 → LeadsTo after (bucket_of (tiles_at after p)) p (earlier_at after p)
  on_place p low = ⊎_elim here (λ ne. before (omega (arith, low, ne))) (cases_eq p count)
    where
      before : p < count → LeadsTo after (bucket_of (tiles_at after p)) p (earlier_at after p)
      before less =
          subst (λ n. LeadsTo after n p (earlier_at after p)) (sym (ap bucket_of (tiles_stay p less)))
          (subst (LeadsTo after (bucket_of (tiles_at places p)) p) (sym (earlier_stay p less)) (still (bucket_of (tiles_at places p)) p (earlier_at places p) (omega (arith, less)) (is.on p less)))

      last : LeadsTo after (bucket_of (tiles_at after count)) count (earlier_at after count)
      last =
          subst (λ n. LeadsTo after n count (earlier_at after count)) (listed ∙ sym (ap bucket_of tiles_here))
          (subst (LeadsTo after bucket count) (sym earlier_here) (still bucket count (slice_index lasts bucket) (omega arith) (is.from bucket small)))

      here : p ≡ count → LeadsTo after (bucket_of (tiles_at after p)) p (earlier_at after p)
      here e = subst (λ n. LeadsTo after (bucket_of (tiles_at after n)) n (earlier_at after n)) (sym e) last

  pub pushed_indexed : IsIndexed after (slice_set lasts bucket (count + 1)) (count + 1) most
  pushed_indexed = record { few = omega (arith, room); room = omega (arith, long, is.room); small = is.small; from = from_list; on = on_place }

  pub pushed_graph : (before : HandGraph) → before ≡ graph_of places count most → (tiles : List ℕ) → place.tiles ≡ tiles → IsPushed tiles place.node before (graph_of after (count + 1) most)
  pushed_graph before before_is tiles tiles_are = record {
    hands = ap (map (λ (it : HandPlace). it.tiles)) (take_more_set places count place there) ∙ map_push (λ (it : HandPlace). it.tiles) (take count places) place ∙ ap (λ (hand : List ℕ). (graph_of places count most).hands ++ hand ∷ []) tiles_are
        ∙ ap (λ (g : HandGraph). g.hands ++ tiles ∷ []) (sym before_is);
    nodes = ap (map (λ (it : HandPlace). it.node)) (take_more_set places count place there) ∙ map_push (λ (it : HandPlace). it.node) (take count places) place ∙ ap (λ (g : HandGraph). g.nodes ++ place.node ∷ []) (sym before_is);
    most = ap (λ (g : HandGraph). g.most_hands) (sym before_is);
  }

pub none_distinct : IsDistinct (pointwise nat_eq) []
unfolding IsDistinct
none_distinct = tt
