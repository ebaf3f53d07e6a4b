-- The kinds that the least seven pairs lack.
use Rattle.std.proofs.Common.{◌≡◌, ℕ, zero, suc, ◌+◌, ◌-◌, ◌*◌, ◌<◌, ◌≤◌, min, true, ◌⊎◌, inl, inr, List, [], ◌∷◌, length, get_or, ltb, refl, sym, ap, ◌∙◌, ⊎_elim, arith}
use Rattle.std.proofs.lemmas.Bool.{cases_lt, lt-ltb, ltb-true}
use Rattle.std.proofs.lemmas.Bool.Decides.{nat_tests}
use Rattle.std.specs.Prelude.{count_by, nat_le, slice_index, ◌↔◌}
use Rattle.riichi_tiles.specs.Melds.{every_kind, tiles}
use Rattle.riichi_tiles.specs.declared.meld.Meld.{Meld}
use Rattle.riichi_rows.proofs.Spread.{spread, sum_range, table_at}
use Rattle.riichi_shape.specs.Distance.{PairsReached}
use Rattle.riichi_shape.specs.Lacked.{FormLacks, PairsLaw, kinds_paired, kinds_single}
use Rattle.riichi_tiles.specs.Forms.{IsSevenPairs}
use Rattle.riichi_shape.specs.Special.{AreNearestPairs, AreNoMelds, lacks_held}
use Rattle.riichi_shape.specs.Winning.{lacking}
use Rattle.riichi_shape.specs.declared.nearest_form.NearestForm.{NearestForm}
use Rattle.riichi_shape.proofs.Distances.{each_below, pair_few}
use Rattle.riichi_shape.proofs.SpecialLemmas.{lacks_back, lacks_there}
use Rattle.riichi_shape.proofs.PairLemmas.{AreSeven, Picked, chosen, count_ones, count_twos, counts_held, held_is, length_table, nil, of_two, one, pairs_bound, pairs_reached, picked, seven_least, seven_picked, seven_wanted, skipped, taken, total_of, total_table, two}

-- ---- seven pairs with a kind among them

record PickedWith (hs : List ℕ) (x p s z : ℕ) : Type 0 where
  pub pick : Picked hs p s z
  pub two_here : get_or pick.wanted x 0 ≡ 2

skipped_with : (h : ℕ) (hs : List ℕ) (x p s z : ℕ) → PickedWith hs x p s z → PickedWith (h ∷ hs) (suc x) p s z
unfolding skipped
skipped_with h hs x p s z w = record { pick = skipped h hs p s z w.pick; two_here = w.two_here }

taken_with : (h : ℕ) (hs : List ℕ) (x p s z p' s' z' : ℕ) → PickedWith hs x p s z → 1 + p + s + z ≡ p' + s' + z' → (2 - h) + (s + 2 * z) ≡ s' + 2 * z' → PickedWith (h ∷ hs) (suc x) p' s' z'
unfolding taken
taken_with h hs x p s z p' s' z' w more lack = record { pick = taken h hs p s z p' s' z' w.pick more lack; two_here = w.two_here }

taken_here : (h : ℕ) (hs : List ℕ) (p s z p' s' z' : ℕ) → Picked hs p s z → 1 + p + s + z ≡ p' + s' + z' → (2 - h) + (s + 2 * z) ≡ s' + 2 * z' → PickedWith (h ∷ hs) zero p' s' z'
unfolding taken
taken_here h hs p s z p' s' z' w more lack = record { pick = taken h hs p s z p' s' z' w more lack; two_here = refl }

of_one : (h : ℕ) → h ≡ 1 → (one h ≡ 1) × (nil h ≡ 0)
of_one h e = grind (arith, nat_tests)

of_none : (h : ℕ) → h ≡ 0 → (one h ≡ 0) × (nil h ≡ 1)
of_none h e = grind (arith, nat_tests)

-- one of those that are of the class of a kind
some_here : (f : ℕ → ℕ) (hs : List ℕ) (x : ℕ) → x < length hs → f (get_or hs x 0) ≤ total_of f hs
unfolding total_of
some_here f [] x inside = absurd (omega arith)
some_here f (h ∷ hs) zero inside = omega arith
some_here f (h ∷ hs) (suc x) inside = omega (arith, some_here f hs x (omega arith))

-- p kinds held twice, s held once and z not held, beside the kind x, which is none of the first
with_kind : (hs : List ℕ) (x p s z : ℕ) → x < length hs → get_or hs x 0 ≤ 1 → p ≤ total_of two hs → s + one (get_or hs x 0) ≤ total_of one hs → z + nil (get_or hs x 0) ≤ total_of nil hs →
    PickedWith hs x p (s + one (get_or hs x 0)) (z + nil (get_or hs x 0))
unfolding total_of
with_kind [] x p s z inside few hp hs' hz = absurd (omega arith)
with_kind (zero ∷ hs) zero p s z inside few hp hs' hz = taken_here 0 hs p s z p (s + 0) (z + 1) (picked hs p s z (omega arith) (omega arith) (omega arith)) (omega arith) (omega arith)
with_kind (suc zero ∷ hs) zero p s z inside few hp hs' hz = taken_here 1 hs p s z p (s + 1) (z + 0) (picked hs p s z (omega arith) (omega arith) (omega arith)) (omega arith) (omega arith)
with_kind (suc (suc h) ∷ hs) zero p s z inside few hp hs' hz = absurd (omega arith)
with_kind (zero ∷ hs) (suc x) p s zero inside few hp hs' hz =
    skipped_with 0 hs x p (s + one (get_or hs x 0)) (0 + nil (get_or hs x 0)) (with_kind hs x p s 0 (omega arith) few (omega arith) (omega arith) (omega (arith, some_here nil hs x (omega arith))))
with_kind (zero ∷ hs) (suc x) p s (suc z) inside few hp hs' hz =
    taken_with 0 hs x p (s + one (get_or hs x 0)) (z + nil (get_or hs x 0)) p (s + one (get_or hs x 0)) (suc z + nil (get_or hs x 0)) (with_kind hs x p s z (omega arith) few (omega arith) (omega arith) (omega arith)) (omega arith) (omega arith)
with_kind (suc zero ∷ hs) (suc x) p zero z inside few hp hs' hz =
    skipped_with 1 hs x p (0 + one (get_or hs x 0)) (z + nil (get_or hs x 0)) (with_kind hs x p 0 z (omega arith) few (omega arith) (omega (arith, some_here one hs x (omega arith))) (omega arith))
with_kind (suc zero ∷ hs) (suc x) p (suc s) z inside few hp hs' hz =
    taken_with 1 hs x p (s + one (get_or hs x 0)) (z + nil (get_or hs x 0)) p (suc s + one (get_or hs x 0)) (z + nil (get_or hs x 0)) (with_kind hs x p s z (omega arith) few (omega arith) (omega arith) (omega arith)) (omega arith) (omega arith)
with_kind (suc (suc h) ∷ hs) (suc x) zero s z inside few hp hs' hz =
    skipped_with (suc (suc h)) hs x 0 (s + one (get_or hs x 0)) (z + nil (get_or hs x 0)) (with_kind hs x 0 s z (omega arith) few (omega arith) (omega (arith, of_two h)) (omega (arith, of_two h)))
with_kind (suc (suc h) ∷ hs) (suc x) (suc p) s z inside few hp hs' hz =
    taken_with (suc (suc h)) hs x p (s + one (get_or hs x 0)) (z + nil (get_or hs x 0)) (suc p) (s + one (get_or hs x 0)) (z + nil (get_or hs x 0))
    (with_kind hs x p s z (omega arith) few (omega (arith, of_two h)) (omega (arith, of_two h)) (omega (arith, of_two h))) (omega arith) (omega arith)

-- seven of which x is one
kind_among : (hs : List ℕ) (x p s z : ℕ) → x < length hs → get_or hs x 0 ≤ 1 → one (get_or hs x 0) ≤ s → nil (get_or hs x 0) ≤ z → p ≤ total_of two hs → s ≤ total_of one hs → z ≤ total_of nil hs → PickedWith hs x p s z
kind_among hs x p s z inside few some none hp hs' hz =
    rw (back s (one (get_or hs x 0)) some, back z (nil (get_or hs x 0)) none) (with_kind hs x p (s - one (get_or hs x 0)) (z - nil (get_or hs x 0)) inside few hp (omega arith) (omega arith))
  where
    back : (n m : ℕ) → m ≤ n → n ≡ n - m + m
    back n m low = omega arith

-- ---- the law

module _ (hand : List ℕ) (melds : List Meld) (n x : ℕ) (inside : x < 34) (no_melds : (k : ℕ) → k < 34 → tiles melds k ≡ 0) (reached : PairsReached hand n) (bound : (wanted : List ℕ) → IsSevenPairs wanted → n ≤ lacking hand wanted) where
  abbrev twos : ℕ
  twos = spread (λ k. two (slice_index hand k)) 0 34

  abbrev ones : ℕ
  ones = spread (λ k. one (slice_index hand k)) 0 34

  abbrev least : ℕ
  least = 14 - 2 * min twos 7 - min ones (7 - min twos 7)

  n_is : n ≡ least
  n_is =
      let other = pairs_reached hand twos ones least refl refl refl in
      omega (arith, pairs_bound hand twos ones least refl refl refl reached.wanted reached.seven_pairs, reached.lacks, bound other.wanted other.seven_pairs, other.lacks)

  paired_is : kinds_paired hand ≡ twos
  paired_is = count_twos hand (kinds_paired hand) refl

  single_is : kinds_single hand ≡ ones
  single_is = sum_range (λ k. one (slice_index hand k)) 0 34

  abbrev Lacked : Type 0
  Lacked = (kinds_paired hand < 7) × ((slice_index hand x ≡ 1) ⊎ ((slice_index hand x ≡ 0) × (kinds_paired hand + kinds_single hand < 7)))

  pub pairs_there : FormLacks IsSevenPairs hand melds n x → Lacked
  pairs_there w =
      let c = chosen (slice_index hand) (slice_index w.wanted) 0 34 (λ k low. w.is_form.two_or_none k (omega arith)) in
      let here = each_below (λ k. slice_index w.wanted k - slice_index hand k) 0 34 x (omega arith) (omega (arith, inside)) in
      let sum = sum_range (λ k. slice_index w.wanted k - slice_index hand k) 0 34 in
      let few : kinds_paired hand < 7 = omega (arith, paired_is, n_is, here, sum, w.lacks, w.lacks_kind) in
      let wanted_two : slice_index w.wanted x ≡ 2 = ⊎_elim (λ e. absurd (omega (arith, e, w.lacks_kind))) (λ e. e) (w.is_form.two_or_none x inside) in (
        few,
        ⊎_elim (λ none. inr (not_held c.from_twos c.from_ones c.from_none (omega (arith, none)) wanted_two few c.twos c.tiles c.lacks (c.fresh x (omega arith) (omega (arith, inside)) (omega (arith, none)) wanted_two)))
            (λ some. inl (omega (arith, some, w.lacks_kind, wanted_two))) (cases_lt (slice_index hand x) 1),
      )
    where
      not_held : (from_twos from_ones from_none : ℕ) → slice_index hand x ≡ 0 → slice_index w.wanted x ≡ 2 → kinds_paired hand < 7 → from_twos ≤ twos → spread (slice_index w.wanted) 0 34 ≡ 2 * (from_twos + from_ones + from_none) →
          spread (λ k. slice_index w.wanted k - slice_index hand k) 0 34 ≡ from_ones + 2 * from_none → 0 < from_none → (slice_index hand x ≡ 0) × (kinds_paired hand + kinds_single hand < 7)
      not_held from_twos from_ones from_none none wanted_two few take total lacks fresh = (
        none,
        omega (arith, paired_is, single_is, n_is, few, take, total, lacks, fresh, sum_range (slice_index w.wanted) 0 34, sum_range (λ k. slice_index w.wanted k - slice_index hand k) 0 34, w.is_form.fourteen, w.lacks),
      )

  abbrev p : ℕ
  p = min twos 7

  abbrev s : ℕ
  s = min ones (7 - p)

  are : AreSeven hand twos ones least refl refl refl p s (7 - p - s)
  are = seven_least hand twos ones least refl refl refl

  x_held : get_or (counts_held hand) x 0 ≡ slice_index hand x
  x_held = table_at (slice_index hand) 0 34 x inside ∙ at_kind (omega arith)
    where
      at_kind : {k : ℕ} → k ≡ x → slice_index hand k ≡ slice_index hand x
      at_kind e = cc

  lacked_by : (w : PairsReached hand least) → slice_index w.wanted x ≡ 2 → slice_index hand x ≤ 1 → FormLacks IsSevenPairs hand melds n x
  lacked_by w two_here few = record {
    wanted = w.wanted;
    is_form = w.seven_pairs;
    within_four = record { at = λ k low. pair_few (slice_index w.wanted k) (tiles melds k) (w.seven_pairs.two_or_none k low) (no_melds k low) };
    lacks = w.lacks ∙ sym n_is;
    lacks_kind = omega (arith, two_here, few);
  }

  lacked_among : PickedWith (counts_held hand) x p s (7 - p - s) → slice_index hand x ≤ 1 → FormLacks IsSevenPairs hand melds n x
  lacked_among w few =
      let seven = seven_wanted hand twos ones least refl refl refl p s (7 - p - s) are w.pick in
      lacked_by (seven_picked hand twos ones least refl refl refl p s (7 - p - s) are w.pick) (ap (λ wanted. slice_index wanted x) seven ∙ w.two_here) few

  pub pairs_back : Lacked → FormLacks IsSevenPairs hand melds n x
  pairs_back lacked = ⊎_elim single (λ none. missing none.0 none.1) lacked.1
    where
      within : x < length (counts_held hand)
      within = omega (arith, inside, length_table (slice_index hand) 0 34)

      among : get_or (counts_held hand) x 0 ≤ 1 → one (get_or (counts_held hand) x 0) ≤ s → nil (get_or (counts_held hand) x 0) ≤ 7 - p - s → FormLacks IsSevenPairs hand melds n x
      among few taken missing = lacked_among (kind_among (counts_held hand) x p s (7 - p - s) within few taken missing are.few_twos are.few_ones are.few_none) (omega (arith, x_held, few))

      single : slice_index hand x ≡ 1 → FormLacks IsSevenPairs hand melds n x
      single one_held =
          let c = of_one (get_or (counts_held hand) x 0) (x_held ∙ one_held) in
          among (omega (arith, x_held, one_held)) (omega (arith, c, some_here one (counts_held hand) x within, total_table one (slice_index hand) 0 34, lacked.0, paired_is)) (omega (arith, c))

      missing : slice_index hand x ≡ 0 → kinds_paired hand + kinds_single hand < 7 → FormLacks IsSevenPairs hand melds n x
      missing none few =
          let c = of_none (get_or (counts_held hand) x 0) (x_held ∙ none) in
          among (omega (arith, x_held, none)) (omega (arith, c)) (omega (arith, c, few, paired_is, single_is))

pub pairs_lacked : PairsLaw
pairs_lacked hand melds n x inside no_melds reached bound = (pairs_there hand melds n x inside no_melds reached bound, pairs_back hand melds n x inside no_melds reached bound)

-- ---- the nearest seven pairs, by counts of kinds

module _ (hand : List ℕ) (twos some : ℕ) (twos_are : twos ≡ count_by (λ kind. nat_le 2 (slice_index hand kind)) every_kind) (some_are : some ≡ count_by (λ kind. nat_le 1 (slice_index hand kind)) every_kind)
    (form : NearestForm) (lack_is : form.lack ≡ 14 - 2 * min twos 7 - min (some - twos) (7 - min twos 7)) (missing_is : form.lacked.missing ≡ ltb some 7) (single_is : form.lacked.single ≡ ltb twos 7) where
  nearest_bound : (wanted : List ℕ) → IsSevenPairs wanted → form.lack ≤ lacking hand wanted
  nearest_bound = pairs_bound hand twos (some - twos) form.lack (count_twos hand twos twos_are) (count_ones hand twos some twos_are some_are) lack_is

  nearest_reached : PairsReached hand form.lack
  nearest_reached = pairs_reached hand twos (some - twos) form.lack (count_twos hand twos twos_are) (count_ones hand twos some twos_are some_are) lack_is

  all_is : some ≡ kinds_paired hand + kinds_single hand
  all_is = omega (arith, held_is hand twos some twos_are some_are, twos_are, sum_range (λ k. one (slice_index hand k)) 0 34)

  module _ (melds : List Meld) (no_melds : AreNoMelds melds) (kind : ℕ) (inside : kind < 34) where
    counted_there : lacks_held form.lacked (slice_index hand kind) ≡ true → (kinds_paired hand < 7) × ((slice_index hand kind ≡ 1) ⊎ ((slice_index hand kind ≡ 0) × (kinds_paired hand + kinds_single hand < 7)))
    counted_there e =
        ⊎_elim (λ none. (let few = ltb-true some 7 (sym missing_is ∙ none.1) in (omega (arith, few, all_is), inr (none.0, omega (arith, few, all_is)))))
        (λ one_held. (let few = ltb-true twos 7 (sym single_is ∙ one_held.1) in (omega (arith, few, twos_are), inl one_held.0))) (lacks_there (slice_index hand kind) form.lacked e)

    counted_back : (kinds_paired hand < 7) × ((slice_index hand kind ≡ 1) ⊎ ((slice_index hand kind ≡ 0) × (kinds_paired hand + kinds_single hand < 7))) → lacks_held form.lacked (slice_index hand kind) ≡ true
    counted_back h =
        lacks_back (slice_index hand kind) form.lacked
        (⊎_elim (λ one_held. inr (one_held, single_is ∙ lt-ltb twos 7 (omega (arith, h.0, twos_are)))) (λ none. inl (none.0, missing_is ∙ lt-ltb some 7 (omega (arith, none.1, all_is)))) h.1)

    nearest_lacked : lacks_held form.lacked (slice_index hand kind) ≡ true ↔ FormLacks IsSevenPairs hand melds form.lack kind
    nearest_lacked = (
      λ e. pairs_back hand melds form.lack kind inside no_melds nearest_reached nearest_bound (counted_there e),
      λ w. counted_back (pairs_there hand melds form.lack kind inside no_melds nearest_reached nearest_bound w),
    )

  pub nearest_pairs_are : AreNearestPairs hand form
  nearest_pairs_are = record { bound = nearest_bound; reached = nearest_reached; lacked = nearest_lacked }
