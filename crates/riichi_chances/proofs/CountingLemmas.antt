-- The numbers of a hand by the numbers of those that it leads to.
use Rattle.std.proofs.Common.{◌≡◌, ℕ, zero, suc, ◌+◌, ◌-◌, ◌*◌, ◌<◌, ◌≤◌, Bool, true, false, cond, Contains, max, inl, inr, List, [], ◌∷◌, ◌++◌, map, take, Some, None, length, refl, sym, ap, subst, ◌∙◌, arith}
use Rattle.std.proofs.lemmas.Bool.{and_parts, lt-ltb, ltb-true}
use Rattle.std.proofs.lemmas.List.Sums.{sum_by-cons}
use Rattle.std.specs.List.{filter}
use Rattle.std.specs.Option.{option_map}
use Rattle.std.specs.Prelude.{nat_le, nat_lt, slice_get, slice_index, slice_index_or, sum_by}
use Rattle.riichi_hand.specs.HandParts.{ShapeParts}
use Rattle.riichi_tiles.specs.Melds.{every_kind}
use Rattle.riichi_tiles.specs.declared.meld.Meld.{Meld}
use Rattle.riichi_tiles.proofs.Members.{IsIn, Contains-in, in-filter, in-filter-inv, in-map, in-map-inv, in-range}
use Rattle.riichi_shape.specs.Accepted.{accepted_of, is_accepted, live_of, with_one, without_one}
use Rattle.riichi_shape.specs.Choosing.{LeavesLeast}
use Rattle.riichi_shape.specs.Discards.{discard_of, discards_of, in_order, inserted, inserted_by, is_discard, live_with}
use Rattle.riichi_shape.specs.EveryWinning.{distance_of}
use Rattle.riichi_shape.specs.KeptDiscards.{short_of}
use Rattle.riichi_shape.specs.LiveCopies.{live_in, pairs_of}
use Rattle.riichi_shape.specs.declared.discard.Discard.{Discard}
use Rattle.riichi_shape.specs.declared.discard.ShortDiscard.{ShortDiscard}
use Rattle.riichi_shape.proofs.Choices.{discards_are}
use Rattle.riichi_deeper.proofs.DeeperLemmas.{has_copies, pair_at}
use Rattle.riichi_deeper.specs.Drawn.{parts_with}
use Rattle.riichi_chances.specs.Aims.{Aim, HasCounts, counted_in, draws_at, lack_of, floor_of}
use Rattle.riichi_chances.specs.AtMost.{accepted_most, counted_most}
use Rattle.riichi_chances.specs.Bests.{Follow}
use Rattle.riichi_chances.specs.Counted.{accepts, counted_by, counted_draws, counted_rest, counted_with, accepted_draws, parts_less}
use Rattle.riichi_chances.specs.Draws.{all_draws, greatest, is_there}
use Rattle.riichi_chances.specs.Graph.{AreLeft, AreRests, discard_kinds}
use Rattle.riichi_chances.specs.Numbers.{most_draws, unseen_at}
use Rattle.riichi_chances.specs.declared.rows.Column.{Column}
use Rattle.riichi_chances.specs.declared.rows.Column.TheVariants.{Ready, Win, ReadyAtMost, WinAtMost}
use Rattle.riichi_chances.proofs.BoundLemmas.{all_few, counted_few, pairs_few, times_few, upper_few, with_few}
use Rattle.riichi_chances.proofs.SpanLemmas.{all_none, one_turn_more}

-- the draws that begin with an accepted kind, where the hand itself has so many
abbrev pub gains_in : Column → ℕ → ℕ → ShapeParts → ℕ → ℕ
gains_in column unseen left parts own = sum_by (λ (pair : ℕ × ℕ). pair.1 * max (counted_with (lack_of column) unseen left (λ rest. counted_in column rest unseen left) (parts_with parts pair.0)) (floor_of column own)) (accepts parts)

abbrev pub gains_at : Aim → ShapeParts → ℕ → ℕ → ℕ
gains_at aim parts left own = gains_in aim.column (unseen_at aim.span left) left parts own

-- ---- a hand that is there

pub near_counted : (goal : ℕ) (parts : ShapeParts) (unseen left : ℕ) → is_there goal parts ≡ true → counted_draws goal parts unseen left ≡ all_draws unseen left
unfolding counted_draws
near_counted goal parts unseen zero near = ap (λ t. cond t 1 0) near ∙ sym (all_none unseen)
near_counted goal parts unseen (suc left) near =
    ap (λ t. cond t (all_draws unseen (suc left)) ((unseen - live_in (accepts parts)) * counted_draws goal parts (unseen - 1) left + accepted_draws goal (unseen - 1) left (λ rest. counted_draws goal rest (unseen - 1) left) parts)) near

near_most : (goal : ℕ) (parts : ShapeParts) (unseen left : ℕ) → is_there goal parts ≡ true → counted_most goal parts unseen left ≡ all_draws unseen left
unfolding counted_most
near_most goal parts unseen zero near = ap (λ t. cond t 1 0) near ∙ sym (all_none unseen)
near_most goal parts unseen (suc left) near =
    ap (λ t. cond t (all_draws unseen (suc left)) ((unseen - live_in (accepts parts)) * counted_most goal parts (unseen - 1) left + accepted_most goal (unseen - 1) left (λ rest. counted_most goal rest (unseen - 1) left) parts)) near

pub near_in : (column : Column) (parts : ShapeParts) (unseen left : ℕ) → is_there (lack_of column) parts ≡ true → counted_in column parts unseen left ≡ all_draws unseen left
near_in Ready = near_counted 1
near_in Win = near_counted 0
near_in ReadyAtMost = near_most 1
near_in WinAtMost = near_most 0

pub near_with : (goal unseen left : ℕ) (value : ShapeParts → ℕ) (drawn : ShapeParts) → is_there goal drawn ≡ true → counted_with goal unseen left value drawn ≡ all_draws unseen left
unfolding counted_with
near_with goal unseen left value drawn near = ap (λ t. cond t (all_draws unseen left) (counted_rest value drawn)) near

-- ---- one that isn't

pub far_with : (goal unseen left : ℕ) (value : ShapeParts → ℕ) (drawn : ShapeParts) → is_there goal drawn ≡ false → counted_with goal unseen left value drawn ≡ counted_rest value drawn
unfolding counted_with
far_with goal unseen left value drawn far = ap (λ t. cond t (all_draws unseen left) (counted_rest value drawn)) far

far_none : (goal : ℕ) (parts : ShapeParts) (unseen : ℕ) → is_there goal parts ≡ false → counted_draws goal parts unseen 0 ≡ 0
unfolding counted_draws
far_none goal parts unseen far = ap (λ t. cond t 1 0) far

far_more : (goal : ℕ) (parts : ShapeParts) (unseen left : ℕ) → is_there goal parts ≡ false → counted_draws goal parts unseen (suc left) ≡ (unseen - live_in (accepts parts)) * counted_draws goal parts (unseen - 1) left + accepted_draws goal (unseen - 1) left (λ rest. counted_draws goal rest (unseen - 1) left) parts
unfolding counted_draws
far_more goal parts unseen left far =
    ap (λ t. cond t (all_draws unseen (suc left)) ((unseen - live_in (accepts parts)) * counted_draws goal parts (unseen - 1) left + accepted_draws goal (unseen - 1) left (λ rest. counted_draws goal rest (unseen - 1) left) parts)) far

most_none_yet : (goal : ℕ) (parts : ShapeParts) (unseen : ℕ) → is_there goal parts ≡ false → counted_most goal parts unseen 0 ≡ 0
unfolding counted_most
most_none_yet goal parts unseen far = ap (λ t. cond t 1 0) far

none_in : (column : Column) (parts : ShapeParts) (unseen : ℕ) → is_there (lack_of column) parts ≡ false → counted_in column parts unseen 0 ≡ 0
none_in Ready = far_none 1
none_in Win = far_none 0
none_in ReadyAtMost = most_none_yet 1
none_in WinAtMost = most_none_yet 0

pairs_same : (f g : ℕ × ℕ → ℕ) → ((pair : ℕ × ℕ) → f pair ≡ g pair) → (pairs : List (ℕ × ℕ)) → sum_by f pairs ≡ sum_by g pairs
pairs_same f g same [] = refl
pairs_same f g same (pair ∷ pairs) = omega (arith, sum_by-cons f pair pairs, sum_by-cons g pair pairs, same pair, pairs_same f g same pairs)

reached_more : (goal : ℕ) (parts : ShapeParts) (unseen left : ℕ) → is_there goal parts ≡ false → counted_draws goal parts unseen (suc left)
    ≡ (unseen - live_in (accepts parts)) * counted_draws goal parts (unseen - 1) left + sum_by (λ (pair : ℕ × ℕ). pair.1 * max (counted_with goal (unseen - 1) left (λ rest. counted_draws goal rest (unseen - 1) left) (parts_with parts pair.0)) 0) (accepts parts)
unfolding accepted_draws
reached_more goal parts unseen left far =
    far_more goal parts unseen left far
    ∙ ap (λ n. (unseen - live_in (accepts parts)) * counted_draws goal parts (unseen - 1) left + n)
    (pairs_same (counted_by goal (unseen - 1) left value parts) (λ (pair : ℕ × ℕ). pair.1 * max (counted_with goal (unseen - 1) left value (parts_with parts pair.0)) 0) (λ pair. ap (λ n. pair.1 * n) (no_least (counted_with goal (unseen - 1) left value (parts_with parts pair.0)))) (accepts parts))
  where
    value : ShapeParts → ℕ
    value rest = counted_draws goal rest (unseen - 1) left

    no_least : (n : ℕ) → n ≡ max n 0
    no_least n = omega arith

upper_more : (goal : ℕ) (parts : ShapeParts) (unseen left : ℕ) → is_there goal parts ≡ false → counted_most goal parts unseen (suc left)
    ≡ (unseen - live_in (accepts parts)) * counted_most goal parts (unseen - 1) left + sum_by (λ (pair : ℕ × ℕ). pair.1 * max (counted_with goal (unseen - 1) left (λ rest. counted_most goal rest (unseen - 1) left) (parts_with parts pair.0)) (counted_most goal parts (unseen - 1) left)) (accepts parts)
unfolding counted_most accepted_most
upper_more goal parts unseen left far =
    ap (λ t. cond t (all_draws unseen (suc left)) ((unseen - live_in (accepts parts)) * counted_most goal parts (unseen - 1) left + accepted_most goal (unseen - 1) left (λ rest. counted_most goal rest (unseen - 1) left) parts)) far

more_in : (column : Column) (parts : ShapeParts) (unseen left : ℕ) → is_there (lack_of column) parts ≡ false → counted_in column parts unseen (suc left) ≡ (unseen - live_in (accepts parts)) * counted_in column parts (unseen - 1) left + gains_in column (unseen - 1) left parts (counted_in column parts (unseen - 1) left)
more_in Ready = reached_more 1
more_in Win = reached_more 0
more_in ReadyAtMost = upper_more 1
more_in WinAtMost = upper_more 0

module _ (aim : Aim) (parts : ShapeParts) (far : is_there (lack_of aim.column) parts ≡ false) (live : ℕ) (live_is : live ≡ live_in (accepts parts)) (begun : ℕ → ℕ → ℕ) (row : List ℕ) (are_gains : (left own : ℕ) → left < aim.span.turns → begun left own ≡ gains_at aim parts left own) (follows : Follow aim.span live begun row) where
  step : (left : ℕ) → left < aim.span.turns → slice_index row left ≡ draws_at aim left parts → slice_index row (left + 1) ≡ counted_in aim.column parts (unseen_at aim.span (left + 1)) (suc left)
  step left low so_far =
      follows.more left low ∙ ap (λ n. (unseen_at aim.span (left + 1) - n) * slice_index row left + begun left (slice_index row left)) live_is
      ∙ ap (λ n. (unseen_at aim.span (left + 1) - live_in (accepts parts)) * slice_index row left + n) (are_gains left (slice_index row left) low)
      ∙ ap (λ n. (unseen_at aim.span (left + 1) - live_in (accepts parts)) * n + gains_at aim parts left n) so_far
      ∙ ap (λ n. (unseen_at aim.span (left + 1) - live_in (accepts parts)) * counted_in aim.column parts n left + gains_in aim.column n left parts (counted_in aim.column parts n left)) (sym (one_turn_more aim.span left low))
      ∙ sym (more_in aim.column parts (unseen_at aim.span (left + 1)) left far)

  pub followed : HasCounts aim parts row
  followed zero low = follows.none ∙ sym (none_in aim.column parts (unseen_at aim.span 0) far)
  followed (suc left) low =
      ap (slice_index row) (one left) ∙ step left (omega arith) (followed left (omega arith)) ∙ ap (λ n. counted_in aim.column parts (unseen_at aim.span n) (suc left)) (sym (one left))
    where
      one : (n : ℕ) → suc n ≡ n + 1
      one n = omega arith

few_in : (column : Column) (turns unseen : ℕ) (parts : ShapeParts) → unseen ≤ 136 → counted_in column parts unseen turns ≤ most_draws turns
few_in Ready = counted_few 1
few_in Win = counted_few 0
few_in ReadyAtMost = upper_few 1
few_in WinAtMost = upper_few 0

pub least_few : (column : Column) (own : ℕ) → floor_of column own ≤ own
least_few Ready own = omega arith
least_few Win own = omega arith
least_few ReadyAtMost own = omega arith
least_few WinAtMost own = omega arith

-- so few draws begin with an accepted kind
pub gains_bound : (aim : Aim) (parts : ShapeParts) (live : ℕ) → aim.span.unseen ≤ 136 → live_in (accepts parts) ≤ live → (left own : ℕ) → own ≤ most_draws left → gains_at aim parts left own ≤ live * most_draws left
gains_bound aim parts live few some left own small =
    omega (
      arith,
      pairs_few (λ kind. max (counted_with (lack_of aim.column) (unseen_at aim.span left) left (draws_at aim left) (parts_with parts kind)) (floor_of aim.column own)) (most_draws left)
          (λ kind. omega (arith, with_few (lack_of aim.column) (unseen_at aim.span left) left (most_draws left) (draws_at aim left) (all_few (unseen_at aim.span left) left (omega (arith, few))) (λ rest. few_in aim.column left (unseen_at aim.span left) rest (omega (arith, few))) (parts_with parts kind), least_few aim.column own, small)) (accepts parts),
      times_few (live_in (accepts parts)) live (most_draws left) (most_draws left) some (omega arith),
    )

-- ---- the discards of a list

greatest_first : (value : ℕ → ℕ) (kind : ℕ) (kinds : List ℕ) → greatest value (kind ∷ kinds) ≡ max (value kind) (greatest value kinds)
unfolding greatest
greatest_first value kind kinds = refl

greatest_put : (value : ℕ → ℕ) (discard : Discard) (rest : List Discard) → greatest value (discard_kinds (inserted discard rest)) ≡ max (value discard.kind) (greatest value (discard_kinds rest))
unfolding inserted_by
greatest_put value discard [] = greatest_first value discard.kind []
greatest_put value discard (next ∷ rest) = by_test (nat_le (live_with next) (live_with discard)) (greatest_put value discard rest)
  where
    swap : (a b c : ℕ) → max a (max b c) ≡ max b (max a c)
    swap a b c = omega arith

    by_test : (t : Bool) → greatest value (discard_kinds (inserted discard rest)) ≡ max (value discard.kind) (greatest value (discard_kinds rest)) → greatest value (discard_kinds (cond t (discard ∷ next ∷ rest) (next ∷ inserted discard rest))) ≡ max (value discard.kind) (greatest value (discard_kinds (next ∷ rest)))
    by_test true later = greatest_first value discard.kind (discard_kinds (next ∷ rest))
    by_test false later =
        greatest_first value next.kind (discard_kinds (inserted discard rest)) ∙ ap (max (value next.kind)) later ∙ swap (value next.kind) (value discard.kind) (greatest value (discard_kinds rest)) ∙ ap (max (value discard.kind)) (sym (greatest_first value next.kind (discard_kinds rest)))

greatest_ordered : (value : ℕ → ℕ) (hand : List ℕ) (melds : List Meld) (seen kinds : List ℕ) → greatest value (discard_kinds (in_order (map (discard_of hand melds seen) kinds))) ≡ greatest value kinds
unfolding in_order
greatest_ordered value hand melds seen [] = refl
greatest_ordered value hand melds seen (kind ∷ kinds) =
    greatest_put value (discard_of hand melds seen kind) (in_order (map (discard_of hand melds seen) kinds)) ∙ ap (max (value kind)) (greatest_ordered value hand melds seen kinds) ∙ sym (greatest_first value kind kinds)

greatest_discards : (value : ShapeParts → ℕ) (drawn : ShapeParts) → greatest (λ kind. value (parts_less drawn kind)) (discard_kinds (discards_of drawn.tiles drawn.melds drawn.seen)) ≡ counted_rest value drawn
unfolding discards_of counted_rest
greatest_discards value drawn = greatest_ordered (λ kind. value (parts_less drawn kind)) drawn.tiles drawn.melds drawn.seen (filter (is_discard drawn.tiles drawn.melds) every_kind)

greatest_left : (value : List ℕ → ℕ) (at without : ℕ → List ℕ) (places kinds : List ℕ) → map at places ≡ map without kinds → greatest (λ place. value (at place)) places ≡ greatest (λ kind. value (without kind)) kinds
unfolding greatest
greatest_left value at without [] [] e = refl
greatest_left value at without [] (kind ∷ kinds) e = absurd (cc)
greatest_left value at without (place ∷ places) [] e = absurd (cc)
greatest_left value at without (place ∷ places) (kind ∷ kinds) e =
    let here : at place ≡ without kind = cc in
    let others : map at places ≡ map without kinds = cc in
    ap (λ n. max n (greatest (λ p. value (at p)) places)) (ap value here) ∙ ap (max (value (without kind))) (greatest_left value at without places kinds others)

-- what stands at the places has the greatest value of a best discard
pub left_rests : (hands : List (List ℕ)) (places : List ℕ) (drawn : ShapeParts) (discards : List Discard) → discards ≡ discards_of drawn.tiles drawn.melds drawn.seen → AreLeft hands places drawn.tiles (discard_kinds discards) → AreRests hands places drawn
left_rests hands places drawn discards is left value =
    greatest_left (λ tiles. value (record { tiles = tiles; melds = drawn.melds; seen = drawn.seen })) (λ place. slice_index_or hands place []) (without_one drawn.tiles) places (discard_kinds discards) left
    ∙ ap (λ (ds : List Discard). greatest (λ kind. value (parts_less drawn kind)) (discard_kinds ds)) is ∙ greatest_discards value drawn

-- the kinds of one discard more
pub kinds_more : (discards : List Discard) (at : ℕ) (short : ShortDiscard) → Some short ≡ option_map short_of (slice_get discards at) → discard_kinds (take (at + 1) discards) ≡ discard_kinds (take at discards) ++ short.kind ∷ []
kinds_more [] at short e = absurd (cc)
kinds_more (discard ∷ rest) zero short e = let same : short ≡ short_of discard = cc in ap (λ (s : ShortDiscard). s.kind ∷ []) (sym same)
kinds_more (discard ∷ rest) (suc at) short e = ap (λ n. discard_kinds (take n (discard ∷ rest))) (one at) ∙ ap (λ (ks : List ℕ). discard.kind ∷ ks) (kinds_more rest at short e)
  where
    one : (n : ℕ) → suc n + 1 ≡ suc (n + 1)
    one n = omega arith

-- a discard of the list is one of the best
pub found_at : (discards : List Discard) (place : ℕ) (short : ShortDiscard) → Some short ≡ option_map short_of (slice_get discards place) → (discard : Discard) × IsIn discard discards × (discard.kind ≡ short.kind)
found_at [] place short e = absurd (cc)
found_at (discard ∷ rest) zero short e = let same : short ≡ short_of discard = cc in (discard, inl refl, ap (λ (s : ShortDiscard). s.kind) (sym same))
found_at (discard ∷ rest) (suc place) short e = let found = found_at rest place short e in (found.0, inr found.1, found.2)

pub best_at : (drawn : ShapeParts) (discards : List Discard) (place : ℕ) (short : ShortDiscard) → discards ≡ discards_of drawn.tiles drawn.melds drawn.seen → Some short ≡ option_map short_of (slice_get discards place) → LeavesLeast drawn.tiles drawn.melds short.kind
best_at drawn discards place short is e =
    let found = found_at discards place short e in
    subst (LeavesLeast drawn.tiles drawn.melds) found.2 ((discards_are drawn.tiles drawn.melds drawn.seen found.0).0 (subst (λ (ds : List Discard). Contains ds found.0) is (Contains-in found.0 discards found.1))).0

listed : (discards : List Discard) (place : ℕ) → place < length discards → (discard : Discard) × IsIn discard discards × (discard.kind ≡ slice_index (discard_kinds discards) place)
listed [] place low = absurd (omega (arith, low))
listed (discard ∷ rest) zero low = (discard, inl refl, refl)
listed (discard ∷ rest) (suc place) low = let found = listed rest place (omega (arith, low)) in (found.0, inr found.1, found.2)

pub best_listed : (drawn : ShapeParts) (discards : List Discard) (place : ℕ) → discards ≡ discards_of drawn.tiles drawn.melds drawn.seen → place < length discards → LeavesLeast drawn.tiles drawn.melds (slice_index (discard_kinds discards) place)
best_listed drawn discards place is low =
    let found = listed discards place low in
    subst (LeavesLeast drawn.tiles drawn.melds) found.2 ((discards_are drawn.tiles drawn.melds drawn.seen found.0).0 (subst (λ (ds : List Discard). Contains ds found.0) is (Contains-in found.0 discards found.1))).0

-- a best discard is listed
in_put : (item discard : Discard) (rest : List Discard) → IsIn item (discard ∷ rest) → IsIn item (inserted discard rest)
unfolding inserted_by
in_put item discard [] there = there
in_put item discard (next ∷ rest) there = by_test (nat_le (live_with next) (live_with discard)) there (in_put item discard rest)
  where
    by_test : (t : Bool) → IsIn item (discard ∷ next ∷ rest) → (IsIn item (discard ∷ rest) → IsIn item (inserted discard rest)) → IsIn item (cond t (discard ∷ next ∷ rest) (next ∷ inserted discard rest))
    by_test true i later = i
    by_test false (inl e) later = inr (later (inl e))
    by_test false (inr (inl e)) later = inl e
    by_test false (inr (inr i)) later = inr (later (inr i))

in_ordered : (item : Discard) (discards : List Discard) → IsIn item discards → IsIn item (in_order discards)
unfolding in_order
in_ordered item [] there = there
in_ordered item (discard ∷ rest) (inl e) = in_put item discard (in_order rest) (inl e)
in_ordered item (discard ∷ rest) (inr there) = in_put item discard (in_order rest) (inr (in_ordered item rest there))

pub best_in : (drawn : ShapeParts) (kind : ℕ) → kind < 34 → is_discard drawn.tiles drawn.melds kind ≡ true → IsIn kind (discard_kinds (discards_of drawn.tiles drawn.melds drawn.seen))
unfolding discards_of
best_in drawn kind low best =
    let made = discard_of drawn.tiles drawn.melds drawn.seen in
    let best_kinds = filter (is_discard drawn.tiles drawn.melds) every_kind in
    in-map (λ (discard : Discard). discard.kind) (made kind) (in_order (map made best_kinds)) (in_ordered (made kind) (map made best_kinds) (in-map made kind best_kinds (in-filter (is_discard drawn.tiles drawn.melds) kind every_kind (in-range 34 0 kind (omega arith) (omega (arith, low))) best)))

pub never_past : (discards : List Discard) (place : ℕ) → place < length discards → None ≡ option_map short_of (slice_get discards place) → ⊥
never_past [] place low e = omega arith
never_past (discard ∷ rest) zero low e = cc
never_past (discard ∷ rest) (suc place) low e = never_past rest place (omega arith) e

-- a kind of the list is accepted
pub drawn_accepted : (parts : ShapeParts) (copies : List ℕ) (number : ℕ) → pairs_of copies ≡ accepted_of parts.tiles parts.melds parts.seen → number < 34 → 0 < slice_index copies number → is_accepted parts.tiles parts.melds parts.seen number ≡ true
unfolding pairs_of accepted_of
drawn_accepted parts copies number same low some =
    let live : ℕ → ℕ = live_of parts.tiles parts.melds parts.seen in
    let there : IsIn (number, slice_index copies number) (accepted_of parts.tiles parts.melds parts.seen) =
    subst (λ (pairs : List (ℕ × ℕ)). IsIn (number, slice_index copies number) pairs) same
    (in-map (pair_at copies) number (filter (has_copies copies) every_kind) (in-filter (has_copies copies) number every_kind (in-range 34 0 number (omega arith) (omega (arith, low))) (lt-ltb 0 (slice_index copies number) some))) in
    let made = in-map-inv (λ k. (k, live k)) (number, slice_index copies number) (filter (is_accepted parts.tiles parts.melds parts.seen) every_kind) there in
    ap (is_accepted parts.tiles parts.melds parts.seen) (sym (ap (λ (p : ℕ × ℕ). p.0) made.2)) ∙ (in-filter-inv (is_accepted parts.tiles parts.melds parts.seen) made.0 every_kind made.1).1

-- so it brings the hand nearer
pub drawn_nearer : (parts : ShapeParts) (copies : List ℕ) (number place : ℕ) (drawn : ShapeParts) → pairs_of copies ≡ accepted_of parts.tiles parts.melds parts.seen → number < 34 → 0 < slice_index copies number → place ≡ number → drawn ≡ parts_with parts place → distance_of drawn.tiles drawn.melds < distance_of parts.tiles parts.melds
drawn_nearer parts copies number place drawn same low some place_is drawn_is =
    let tests = and_parts (nat_lt 0 (live_of parts.tiles parts.melds parts.seen number)) (nat_lt (distance_of (with_one parts.tiles number) parts.melds) (distance_of parts.tiles parts.melds)) (drawn_accepted parts copies number same low some) in
    omega (arith, ltb-true (distance_of (with_one parts.tiles number) parts.melds) (distance_of parts.tiles parts.melds) tests.1, ap (λ (p : ShapeParts). distance_of p.tiles p.melds) (drawn_is ∙ ap (parts_with parts) place_is))
