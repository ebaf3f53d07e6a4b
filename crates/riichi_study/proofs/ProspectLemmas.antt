-- Prospects in an order, put one by one.
use Rattle.std.proofs.Common.{◌≡◌, ℕ, suc, ◌+◌, ◌-◌, ◌<◌, ◌≤◌, Bool, true, false, cond, not, List, [], ◌∷◌, map, Option, None, Some, length, drop, refl, sym, ap, subst, ◌∙◌, arith}
use Rattle.std.proofs.lemmas.Bool.Decides.{nat_tests}
use Rattle.std.proofs.lemmas.List.{drop_all}
use Rattle.std.proofs.lemmas.Option.{get_or_from_slice_get, slice_get_within}
use Rattle.std.proofs.Math.Seq.{drop-cons}
use Rattle.std.specs.Prelude.{Contains, nat_le, nat_lt, slice_get, slice_index, unwrap_or}
use Rattle.std.specs.List.{insert, position, position_or_len}
use Rattle.riichi_hand.specs.HandParts.{ShapeParts}
use Rattle.riichi_shape.proofs.Choices.{discards_are}
use Rattle.riichi_shape.specs.Discards.{discards_of, inserted_by}
use Rattle.riichi_deeper.specs.Deeper.{deeper_without}
use Rattle.riichi_deeper.specs.declared.outlook.Outlook.{Outlook}
use Rattle.riichi_shape.specs.declared.discard.Discard.{Discard}
use Rattle.riichi_study.specs.declared.order.Order.{Order}
use Rattle.riichi_study.specs.declared.prospect.Prospect.{Prospect}
use Rattle.riichi_study.specs.Prospects.{figure, figure_of, gives_way_to, kept_prospect, ordered_by, ordered_discards, prospect_of}

-- a prospect of these parts
abbrev pub made : Discard → Option Outlook → Prospect
made discard outlook = record { discard = discard; outlook = outlook }

module _ (parts : ShapeParts) (order : Order) (discard : Discard) where
  abbrev place_in : List Discard → ℕ
  place_in discards = position_or_len (gives_way_to order (figure parts order discard)) (map (kept_prospect parts) discards)

  -- one place on, where the first does not give way
  put_next : (t : Bool) (next : Discard) (discards rest : List Discard) (place : ℕ) →
      (t ≡ false → insert (map (kept_prospect parts) discards) place (kept_prospect parts discard) ≡ map (kept_prospect parts) rest) →
      insert (map (kept_prospect parts) (next ∷ discards)) (cond (not t) (1 + place) 0) (kept_prospect parts discard) ≡ map (kept_prospect parts) (cond t (discard ∷ next ∷ discards) (next ∷ rest))
  put_next true next discards rest place later = refl
  put_next false next discards rest place later =
      ap (λ k. insert (map (kept_prospect parts) (next ∷ discards)) k (kept_prospect parts discard)) one_more ∙ ap (λ ps. kept_prospect parts next ∷ ps) (later refl)
    where
      one_more : 1 + place ≡ suc place
      one_more = omega arith

  put_at_place : (discards : List Discard) → insert (map (kept_prospect parts) discards) (place_in discards) (kept_prospect parts discard) ≡ map (kept_prospect parts) (inserted_by (figure parts order) discard discards)
  unfolding inserted_by
  put_at_place [] = refl
  put_at_place (next ∷ discards) = put_next (nat_le (figure parts order next) (figure parts order discard)) next discards (inserted_by (figure parts order) discard discards) (place_in discards) (λ less. put_at_place discards)

pub place_within : {X : Type 0} (p : X → Bool) (xs : List X) → position_or_len p xs ≤ length xs
place_within p [] = omega arith
place_within p (x ∷ xs) = by_test (p x) (position_or_len p xs) (place_within p xs)
  where
    by_test : (t : Bool) (k : ℕ) → k ≤ length xs → cond (not t) (1 + k) 0 ≤ length (x ∷ xs)
    by_test true k h = omega arith
    by_test false k h = omega (arith, h)

-- what stands after a prospect was put
pub put_is : (order : Order) (before after : List (Option Prospect)) (prospect : Prospect) (place : ℕ) → place ≡ position_or_len (gives_way_to order (figure_of order prospect.outlook)) before → after ≡ insert before place (Some prospect)
    → (parts : ShapeParts) (discard : Discard) (discards : List Discard) → before ≡ map (kept_prospect parts) discards → Some prospect ≡ kept_prospect parts discard → after ≡ map (kept_prospect parts) (inserted_by (figure parts order) discard discards)
put_is order before after prospect place place_is after_is parts discard discards before_is same =
    after_is
    ∙ ap (λ k. insert before k (Some prospect)) place_is
    ∙ ap (λ (b : List (Option Prospect)). insert b (position_or_len (gives_way_to order (figure_of order prospect.outlook)) b) (Some prospect)) before_is
    ∙ ap (λ (one : Prospect). insert (map (kept_prospect parts) discards) (position_or_len (gives_way_to order (figure_of order one.outlook)) (map (kept_prospect parts) discards)) (Some one)) one_is
    ∙ put_at_place parts order discard discards
  where
    one_is : prospect ≡ prospect_of parts discard
    one_is = cc

-- the place of the first that passes a test, or the one behind them all
pub found : {X : Type 0} (p : X → Bool) (xs : List X) → unwrap_or (position p xs) (length xs) ≡ position_or_len p xs
found p xs = by_place (position_or_len p xs) (length xs) (nat_lt (position_or_len p xs) (length xs)) refl (place_within p xs)
  where
    by_place : (i n : ℕ) (t : Bool) → nat_lt i n ≡ t → i ≤ n → unwrap_or (cond t (Some i) None) n ≡ i
    by_place i n true e h = refl
    by_place i n false e h = grind (arith, nat_tests)

pub found_in : {X : Type 0} (p : X → Bool) (xs items : List X) (place len : ℕ) (at_first : Option ℕ) → xs ≡ items → at_first ≡ position p xs → len ≡ length items → place ≡ unwrap_or at_first len → place ≡ position_or_len p items
found_in p xs items place len at_first same found_at len_is e =
    e ∙ ap (unwrap_or at_first) len_is ∙ ap (λ (o : Option ℕ). unwrap_or o (length items)) (found_at ∙ ap (position p) same) ∙ found p items

pub found_within : {X : Type 0} (p : X → Bool) (items : List X) (place : ℕ) → place ≡ position_or_len p items → place ≤ length items
found_within p items place e = omega (arith, e, place_within p items)

-- ---- all discards, from the last on

pub none_put : (parts : ShapeParts) (order : Order) (discards : List Discard) → [] ≡ map (kept_prospect parts) (ordered_by (figure parts order) (drop (length discards - 0) discards))
unfolding ordered_by
none_put parts order discards = sym (ap (λ (ds : List Discard). map (kept_prospect parts) (ordered_by (figure parts order) ds)) (drop_all (length discards - 0) discards (omega arith)))

module _ (discards : List Discard) (discard : Discard) (done place : ℕ) (low : done < length discards) (place_is : place ≡ length discards - 1 - done) (there : slice_get discards place ≡ Some discard) where
  last_more : drop (length discards - (done + 1)) discards ≡ discard ∷ drop (length discards - done) discards
  last_more =
      ap (λ k. drop k discards) first ∙ drop-cons discards place discard within
      ∙ ap (λ (d : Discard). d ∷ drop (suc place) discards) (get_or_from_slice_get discards place discard discard there)
      ∙ ap (λ k. discard ∷ drop k discards) next
    where
      within : place < length discards
      within = omega (arith, low, place_is)

      first : length discards - (done + 1) ≡ place
      first = omega (arith, low, place_is)

      next : suc place ≡ length discards - done
      next = omega (arith, low, place_is)

  pub one_put : (parts : ShapeParts) (order : Order) (before after : List (Option Prospect)) (outlook : Option Outlook) → outlook ≡ deeper_without parts discard.kind
      → before ≡ map (kept_prospect parts) (ordered_by (figure parts order) (drop (length discards - done) discards))
      → (Some (made discard outlook) ≡ kept_prospect parts discard → after ≡ map (kept_prospect parts) (inserted_by (figure parts order) discard (ordered_by (figure parts order) (drop (length discards - done) discards))))
      → after ≡ map (kept_prospect parts) (ordered_by (figure parts order) (drop (length discards - (done + 1)) discards))
  unfolding ordered_by
  one_put parts order before after outlook e inv put = put (ap (λ (o : Option Outlook). Some (made discard o)) e) ∙ sym (ap (λ (ds : List Discard). map (kept_prospect parts) (ordered_by (figure parts order) ds)) last_more)

pub all_put : (parts : ShapeParts) (order : Order) (discards : List Discard) (done : ℕ) (items : List (Option Prospect)) → length discards ≤ done → discards ≡ discards_of parts.tiles parts.melds parts.seen
    → items ≡ map (kept_prospect parts) (ordered_by (figure parts order) (drop (length discards - done) discards)) → items ≡ map (kept_prospect parts) (ordered_discards parts order)
unfolding ordered_discards
all_put parts order discards done items all are inv =
    inv ∙ ap (λ k. map (kept_prospect parts) (ordered_by (figure parts order) (drop k discards))) none ∙ ap (λ (ds : List Discard). map (kept_prospect parts) (ordered_by (figure parts order) ds)) are
  where
    none : length discards - done ≡ 0
    none = omega (arith, all)

-- a discard of the list is held
pub is_held_discard : (parts : ShapeParts) (discards : List Discard) (discard : Discard) (place : ℕ) → discards ≡ discards_of parts.tiles parts.melds parts.seen → slice_get discards place ≡ Some discard → 0 < slice_index parts.tiles discard.kind
is_held_discard parts discards discard place are there =
    let contained : Contains (discards_of parts.tiles parts.melds parts.seen) discard = subst (λ (ds : List Discard). Contains ds discard) are (place, slice_get_within discards place discard there, get_or_from_slice_get discards place discard discard there) in
    ((discards_are parts.tiles parts.melds parts.seen discard).0 contained).0.held
