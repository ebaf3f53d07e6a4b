-- The kinds whose removal leaves the least distance.
use Rattle.std.proofs.Common.{◌≡◌, ℕ, suc, ◌+◌, ◌-◌, ◌<◌, ◌≤◌, true, false, cond, List, [], map, length, refl, sym, ap, ◌∙◌, arith}
use Rattle.std.proofs.lemmas.Bool.{eq-eqb, eqb-true, le-ltb, ne_eqb}
use Rattle.std.specs.List.{filter, range_with_len, sum}
use Rattle.std.specs.Prelude.{slice_index, ◌==◌, ◌&&◌}
use Rattle.std.proofs.lemmas.Bool.Decides.{same_from_decides}
use Rattle.riichi_tiles.specs.declared.meld.Meld.{Meld}
use Rattle.riichi_rows.proofs.Spread.{same_spread, spread, spread_add}
use Rattle.riichi_shape.specs.declared.discard.Discard.{Discard}
use Rattle.riichi_shape.specs.Discards.{discard_of, discards_of, distance_without, in_order, inserted, is_best, is_discard}
use Rattle.riichi_shape.proofs.Choices.{is_chosen, leaves_least}
use Rattle.riichi_shape.proofs.PairLemmas.{sum_spread}
use Rattle.riichi_shape.proofs.OrderLemmas.{chosen_step}

-- no removal leaves a lesser distance, and some removal leaves this one
pub record IsLeastLeft (hand : List ℕ) (melds : List Meld) (least : ℕ) : Type 0 where
  pub bound : (kind : ℕ) → kind < 34 → 0 < slice_index hand kind → least ≤ distance_without hand melds kind
  pub place : ℕ
  pub is_kind : place < 34
  pub held : 0 < slice_index hand place
  pub reached : distance_without hand melds place ≡ least

module _ (hand : List ℕ) (melds : List Meld) (least : ℕ) (is : IsLeastLeft hand melds least) (kind : ℕ) (inside : kind < 34) (held : 0 < slice_index hand kind) where
  there : (distance_without hand melds kind == least) ≡ true → is_discard hand melds kind ≡ true
  there e = is_chosen hand melds kind (record {
    is_kind = inside;
    held = held;
    none_less = λ other low some. omega (arith, is.bound other low some, eqb-true (distance_without hand melds kind) least e);
  })

  back : is_discard hand melds kind ≡ true → (distance_without hand melds kind == least) ≡ true
  back chosen =
      let bound = (leaves_least hand melds kind inside chosen).none_less is.place is.is_kind is.held in
      eq-eqb (distance_without hand melds kind) least (omega (arith, bound, is.reached, is.bound kind inside held))

  -- a kind is a discard just where without its tile so many are lacking
  pub chosen_is : (distance_without hand melds kind == least) ≡ is_discard hand melds kind
  chosen_is =
      same_from_decides (distance_without hand melds kind == least) (is_discard hand melds kind) (there, back) (λ e. e, λ e. e)

-- ---- the discards of the kinds from one on

unfoldable pub discards_from : List ℕ → List Meld → List ℕ → ℕ → ℕ → List Discard
discards_from hand melds seen a n = in_order (map (discard_of hand melds seen) (filter (is_discard hand melds) (range_with_len a n)))

pub discards_all : (hand : List ℕ) (melds : List Meld) (seen : List ℕ) → discards_from hand melds seen 0 34 ≡ discards_of hand melds seen
unfolding discards_from discards_of
discards_all hand melds seen = refl

pub discards_none : (hand : List ℕ) (melds : List Meld) (seen : List ℕ) (a : ℕ) → discards_from hand melds seen a 0 ≡ []
unfolding discards_from in_order
discards_none hand melds seen a = refl

module _ (hand : List ℕ) (melds : List Meld) (seen : List ℕ) where
  discards_next : (kind n : ℕ) → discards_from hand melds seen kind (suc n) ≡ cond (is_discard hand melds kind) (inserted (discard_of hand melds seen kind) (discards_from hand melds seen (kind + 1) n)) (discards_from hand melds seen (kind + 1) n)
  unfolding discards_from
  discards_next kind n = chosen_step hand melds seen (is_discard hand melds kind) kind (filter (is_discard hand melds) (range_with_len (kind + 1) n))

-- ---- one kind less, from the greatest down

module _ (hand : List ℕ) (melds : List Meld) (seen : List ℕ) (number : ℕ) (some : 0 < number) (most : number ≤ 34) where
  one_more_left : 34 - (number - 1) ≡ suc (34 - number)
  one_more_left = omega arith

  next : number - 1 + 1 ≡ number
  next = omega arith

  discards_at : discards_from hand melds seen (number - 1) (34 - (number - 1)) ≡ cond (is_discard hand melds (number - 1)) (inserted (discard_of hand melds seen (number - 1)) (discards_from hand melds seen number (34 - number))) (discards_from hand melds seen number (34 - number))
  discards_at =
      ap (discards_from hand melds seen (number - 1)) one_more_left ∙ discards_next hand melds seen (number - 1) (34 - number)
      ∙ ap (λ k. cond (is_discard hand melds (number - 1)) (inserted (discard_of hand melds seen (number - 1)) (discards_from hand melds seen k (34 - number))) (discards_from hand melds seen k (34 - number))) next

  spread_at : spread (slice_index hand) (number - 1) (34 - (number - 1)) ≡ slice_index hand (number - 1) + spread (slice_index hand) number (34 - number)
  unfolding spread
  spread_at = ap (spread (slice_index hand) (number - 1)) one_more_left ∙ ap (λ k. slice_index hand (number - 1) + spread (slice_index hand) k (34 - number)) next

  pub still_room : (size : ℕ) → length hand ≡ 34 → sum hand ≤ 14 → 0 < slice_index hand (number - 1) → size ≤ spread (slice_index hand) number (34 - number) → size < 14
  still_room size long few held so_many =
      let whole = spread_add (slice_index hand) 0 (number - 1) (34 - (number - 1)) in
      let all = sum_spread hand long in
      let parts = same_spread (slice_index hand) 0 0 34 (number - 1 + (34 - (number - 1))) refl (omega arith) in
      let here = same_spread (slice_index hand) (0 + (number - 1)) (number - 1) (34 - (number - 1)) (34 - (number - 1)) (omega arith) refl in
      omega (arith, whole, all, parts, here, spread_at, so_many, held, few)

  module _ (least : ℕ) (is : IsLeastLeft hand melds least) (list : List Discard) (so_far : list ≡ discards_from hand melds seen number (34 - number)) where
    pub put_list : (next : List Discard) (discard : Discard) (kind : ℕ) → kind ≡ number - 1 → discard ≡ discard_of hand melds seen kind → 0 < slice_index hand kind → distance_without hand melds (number - 1) ≡ least → next ≡ inserted discard list → next ≡ discards_from hand melds seen (number - 1) (34 - (number - 1))
    put_list next discard kind kind_is discard_is held equal next_is =
        next_is ∙ ap (λ d. inserted d list) (discard_is ∙ ap (discard_of hand melds seen) kind_is) ∙ ap (inserted (discard_of hand melds seen (number - 1))) so_far
        ∙ sym (discards_at ∙ ap (λ t. cond t (inserted (discard_of hand melds seen (number - 1)) (discards_from hand melds seen number (34 - number))) (discards_from hand melds seen number (34 - number))) chosen)
      where
        there : 0 < slice_index hand (number - 1)
        there = omega (arith, held, ap (slice_index hand) kind_is)

        chosen : is_discard hand melds (number - 1) ≡ true
        chosen = sym (chosen_is hand melds least is (number - 1) (omega arith) there) ∙ eq-eqb (distance_without hand melds (number - 1)) least equal

    left_list : (is_discard hand melds (number - 1) ≡ false) → list ≡ discards_from hand melds seen (number - 1) (34 - (number - 1))
    left_list chosen = so_far ∙ sym (discards_at ∙ ap (λ t. cond t (inserted (discard_of hand melds seen (number - 1)) (discards_from hand melds seen number (34 - number))) (discards_from hand melds seen number (34 - number))) chosen)

    pub left_unheld : slice_index hand (number - 1) ≤ 0 → list ≡ discards_from hand melds seen (number - 1) (34 - (number - 1))
    left_unheld none = left_list (ap (λ t. t && is_best hand melds (number - 1)) (le-ltb 0 (slice_index hand (number - 1)) none))

    pub left_worse : 0 < slice_index hand (number - 1) → (distance_without hand melds (number - 1) ≡ least → ⊥) → list ≡ discards_from hand melds seen (number - 1) (34 - (number - 1))
    left_worse held worse =
        left_list (sym (chosen_is hand melds least is (number - 1) (omega arith) held) ∙ ne_eqb (distance_without hand melds (number - 1)) least worse)

  pub put_few : (size : ℕ) → size ≤ spread (slice_index hand) number (34 - number) → 0 < slice_index hand (number - 1) → size + 1 ≤ spread (slice_index hand) (number - 1) (34 - (number - 1))
  put_few size few held = omega (arith, few, held, spread_at)

  pub left_few : (size : ℕ) → size ≤ spread (slice_index hand) number (34 - number) → size ≤ spread (slice_index hand) (number - 1) (34 - (number - 1))
  left_few size few = omega (arith, few, spread_at)
