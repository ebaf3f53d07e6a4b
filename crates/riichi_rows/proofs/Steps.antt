-- One rank more: the least lack from a rank on, out of the least lacks from the next rank on.
use Rattle.std.proofs.Common.{◌≡◌, ℕ, zero, suc, ◌+◌, ◌-◌, ◌*◌, ◌<◌, ◌≤◌, min, Bool, true, false, inl, inr, List, [], ◌∷◌, refl, ◌∙◌, ⊎_elim, arith}
use Rattle.std.proofs.lemmas.Bool.{false≢true}
use Rattle.std.proofs.lemmas.Bool.Decides.{nat_tests}
use Rattle.riichi_rows.specs.Lanes.{capped, with_set, with_pair}
use Rattle.riichi_rows.specs.Open.{cost}
use Rattle.riichi_rows.specs.Columns.{Column, held, MayRun, Fits, lack_from, sets_in, pairs_in, Reaches, LeastFrom}
use Rattle.riichi_rows.proofs.Joins.{min_is, at_same}

-- the best of adding nothing, a triplet or a pair to w tiles of the rank
abbrev pub with_blocks : (ℕ → ℕ → ℕ) → ℕ → ℕ → ℕ → ℕ → ℕ → ℕ
with_blocks f w have limit s p =
    min (min (capped (f s p + cost have limit w)) (capped (with_set f s p + cost have limit (w + 3))))
    (capped (with_pair f s p + cost have limit (w + 2)))

cost_within : (have limit n : ℕ) → n ≤ limit → cost have limit n ≡ n - have
cost_within have limit n h = grind (arith, nat_tests)

cost_below : (have limit n : ℕ) → cost have limit n < 255 → (n ≤ limit) × (cost have limit n ≡ n - have)
cost_below have limit n h = grind (arith, nat_tests)

-- ---- no choice lacks less

module _ (f : ℕ → ℕ → ℕ) (w have limit s p v : ℕ) where
  least_plain : w ≤ limit → f s p ≤ v → with_blocks f w have limit s p ≤ (w - have) + v
  least_plain h le = omega (arith, cost_within have limit w h)

  least_triplet : w + 3 ≤ limit → f s p ≤ v → with_blocks f w have limit (suc s) p ≤ (w + 3 - have) + v
  least_triplet h le = omega (arith, cost_within have limit (w + 3) h)

  least_pair : w + 2 ≤ limit → f s p ≤ v → with_blocks f w have limit s (suc p) ≤ (w + 2 - have) + v
  least_pair h le = omega (arith, cost_within have limit (w + 2) h)

-- ---- some choice lacks as much

-- how a value with blocks came about
record Taken (f : ℕ → ℕ → ℕ) (w have limit s p v : ℕ) : Type 0 where
  pub triplets : ℕ
  pub pairs : ℕ
  pub later_sets : ℕ
  pub later_pairs : ℕ
  pub in_cap : w + 3 * triplets + 2 * pairs ≤ limit
  pub has_sets : triplets + later_sets ≡ s
  pub has_pairs : pairs + later_pairs ≡ p
  pub below : f later_sets later_pairs < 255
  pub value : v ≡ (w + 3 * triplets + 2 * pairs - have) + f later_sets later_pairs

sum_reached : (x have limit n : ℕ) → capped (x + cost have limit n) < 255 → (n ≤ limit) × (capped (x + cost have limit n) ≡ (n - have) + x) × (x < 255)
sum_reached x have limit n h =
    let small : cost have limit n < 255 = omega arith in
    let c = cost_below have limit n small in
    (c.0, omega (arith, c.1), omega arith)

module _ (f : ℕ → ℕ → ℕ) (w have limit : ℕ) where
  -- with t triplets and d pairs beside w tiles, n tiles in all
  taken : (t d n s p s' p' v : ℕ) → n ≡ w + 3 * t + 2 * d → t + s' ≡ s → d + p' ≡ p → v < 255
      → v ≡ capped (f s' p' + cost have limit n) → Taken f w have limit s p v
  taken t d n s p s' p' v many es ep low e =
      let small : capped (f s' p' + cost have limit n) < 255 = omega arith in
      let r = sum_reached (f s' p') have limit n small in
      record {
        triplets = t;
        pairs = d;
        later_sets = s';
        later_pairs = p';
        in_cap = omega (arith, r.0);
        has_sets = es;
        has_pairs = ep;
        below = r.2;
        value = omega (arith, r.1);
      }

  triplet_reached : (s p v : ℕ) → v < 255 → v ≡ capped (with_set f s p + cost have limit (w + 3)) → Taken f w have limit s p v
  triplet_reached zero p v low e = absurd (omega arith)
  triplet_reached (suc s) p v low e = taken 1 0 (w + 3) (suc s) p s p v (omega arith) (omega arith) (omega arith) low e

  pair_reached : (s p v : ℕ) → v < 255 → v ≡ capped (with_pair f s p + cost have limit (w + 2)) → Taken f w have limit s p v
  pair_reached s zero v low e = absurd (omega arith)
  pair_reached s (suc p) v low e = taken 0 1 (w + 2) s (suc p) s p v (omega arith) (omega arith) (omega arith) low e

  blocks_reached : (s p v : ℕ) → v < 255 → v ≡ with_blocks f w have limit s p → Taken f w have limit s p v
  blocks_reached s p v low e =
      let plain : ℕ = capped (f s p + cost have limit w) in
      let triplet : ℕ = capped (with_set f s p + cost have limit (w + 3)) in
      let pair : ℕ = capped (with_pair f s p + cost have limit (w + 2)) in
      ⊎_elim (λ outer. ⊎_elim (λ inner. taken 0 0 w s p s p v (omega arith) (omega arith) (omega arith) low (e ∙ outer ∙ inner))
      (λ inner. triplet_reached s p v low (e ∙ outer ∙ inner)) (min_is plain triplet))
      (λ outer. pair_reached s p v low (e ∙ outer)) (min_is (min plain triplet) pair)

-- ---- three equal runs are three triplets: the same sets, the same tiles

abbrev one_triplet_more : Column → Column
one_triplet_more x = record { runs = x.runs; triplets = x.triplets + 1; pairs = x.pairs }

-- columns after u open runs in place of columns after three more
record Traded (runs : Bool) (counts caps : List ℕ) (u more a : ℕ) (xs : List Column) : Type 0 where
  pub columns : List Column
  pub fits : Fits runs caps u a columns
  pub has_sets : sets_in columns ≡ sets_in xs + 2
  pub has_pairs : pairs_in columns ≡ pairs_in xs
  pub lacks : lack_from counts u a columns ≡ lack_from counts more a xs

trade_lack : (counts : List ℕ) (u more a : ℕ) (x y : Column) (xs : List Column) → more ≡ u + 3 → lack_from counts u a (one_triplet_more x ∷ one_triplet_more y ∷ xs) ≡ lack_from counts more a (x ∷ y ∷ xs)
trade_lack [] u more a x y xs e = refl
trade_lack (c ∷ []) u more a x y xs e = omega arith
trade_lack (c ∷ c' ∷ counts) u more a x y xs e = omega arith

trade : (runs : Bool) (counts caps : List ℕ) (u more a : ℕ) (xs : List Column) → more ≡ u + 3 → Fits runs caps more a xs → Traded runs counts caps u more a xs
trade runs counts [] u more a [] e fits = absurd (omega (arith, fits.0))
trade runs counts [] u more a (x ∷ xs) e fits = absurd fits
trade runs counts (k ∷ caps) u more a [] e fits = absurd fits
trade runs counts (k ∷ []) u more a (x ∷ []) e fits = absurd (let f : more ≡ 0 = fits.2.1 in omega arith)
trade runs counts (k ∷ []) u more a (x ∷ y ∷ xs) e fits = absurd fits.2
trade runs counts (k ∷ k' ∷ caps) u more a (x ∷ []) e fits = absurd fits.2
trade runs counts (k ∷ k' ∷ caps) u more a (x ∷ y ∷ xs) e fits =
    let first : held more a x ≤ k = fits.0 in
    let second : held x.runs more y ≤ k' = fits.2.0 in
    record {
      columns = one_triplet_more x ∷ one_triplet_more y ∷ xs;
      fits = (omega arith, fits.1, (omega arith, fits.2.1, fits.2.2));
      has_sets = omega arith;
      has_pairs = refl;
      lacks = trade_lack counts u more a x y xs e;
    }

-- ---- one rank

least_blocks : (f : ℕ → ℕ → ℕ) (w have limit t d s' p' s p v : ℕ) → w + 3 * t + 2 * d ≤ limit → limit ≤ 4 → t + s' ≡ s → d + p' ≡ p → p < 2 → f s' p' ≤ v → with_blocks f w have limit s p ≤ (w + 3 * t + 2 * d - have) + v
least_blocks f w have limit zero zero s' p' s p v h c es ep low le =
    let same = at_same (with_blocks f w have limit) s s' p p' (omega arith) (omega arith) in
    let bound = least_plain f w have limit s' p' v (omega arith) le in
    omega arith
least_blocks f w have limit (suc zero) zero s' p' s p v h c es ep low le =
    let same = at_same (with_blocks f w have limit) s (suc s') p p' (omega arith) (omega arith) in
    let bound = least_triplet f w have limit s' p' v (omega arith) le in
    omega arith
least_blocks f w have limit zero (suc zero) s' p' s p v h c es ep low le =
    let same = at_same (with_blocks f w have limit) s s' p (suc p') (omega arith) (omega arith) in
    let bound = least_pair f w have limit s' p' v (omega arith) le in
    omega arith
least_blocks f w have limit (suc zero) (suc d) s' p' s p v h c es ep low le = absurd (omega arith)
least_blocks f w have limit (suc (suc t)) d s' p' s p v h c es ep low le = absurd (omega arith)
least_blocks f w have limit zero (suc (suc d)) s' p' s p v h c es ep low le = absurd (omega arith)

-- the best of beginning no run, one or two, where w runs are open and g has the values by the runs begun
abbrev pub row_value : Bool → (ℕ → ℕ → ℕ → ℕ) → ℕ → ℕ → ℕ → ℕ → ℕ → ℕ
row_value true g w have limit s p =
    min (min (with_blocks (g 0) w have limit s p) (with_blocks (with_set (g 1)) (w + 1) have limit s p))
    (with_blocks (with_set (with_set (g 2))) (w + 2) have limit s p)
row_value false g w have limit s p = with_blocks (g 0) w have limit s p

-- the values g of the next rank, by the runs begun here, are least
pub record LeastAfter (runs : Bool) (counts caps : List ℕ) (a : ℕ) (g : ℕ → ℕ → ℕ → ℕ) : Type 0 where
  pub at : (u s p : ℕ) → u < 3 → MayRun runs u → s < 5 → p < 2 → LeastFrom runs counts caps u a s p (g u s p)

module _ (runs : Bool) (counts caps : List ℕ) (a b have limit : ℕ) (g : ℕ → ℕ → ℕ → ℕ) (few : limit ≤ 4) (after : LeastAfter runs counts caps a g) where
  -- the columns after this one, as g has them
  later_least : (u : ℕ) (xs : List Column) → u < 3 → MayRun runs u → Fits runs caps u a xs → sets_in xs < 5 → pairs_in xs < 2 → g u (sets_in xs) (pairs_in xs) ≤ lack_from counts u a xs
  later_least u xs below may fits fs fp = (after.at u (sets_in xs) (pairs_in xs) below may fs fp).least xs fits refl refl

  begun_none : (t d s p : ℕ) (xs : List Column) → a + b + 3 * t + 2 * d ≤ limit → Fits runs caps 0 a xs → t + sets_in xs ≡ s → d + pairs_in xs ≡ p → s < 5 → p < 2 → with_blocks (g 0) (a + b) have limit s p ≤ (a + b + 3 * t + 2 * d - have) + lack_from counts 0 a xs
  begun_none t d s p xs h fits es ep ls lp =
      least_blocks (g 0) (a + b) have limit t d (sets_in xs) (pairs_in xs) s p (lack_from counts 0 a xs) h few es ep lp (later_least 0 xs (omega arith) (inl refl) fits (omega arith) (omega arith))

  begun_one : runs ≡ true → (t d s p : ℕ) (xs : List Column) → a + b + 1 + 3 * t + 2 * d ≤ limit → Fits runs caps 1 a xs → 1 + t + sets_in xs ≡ s → d + pairs_in xs ≡ p → s < 5 → p < 2 → with_blocks (with_set (g 1)) (a + b + 1) have limit s p ≤ (a + b + 1 + 3 * t + 2 * d - have) + lack_from counts 1 a xs
  begun_one may t d s p xs h fits es ep ls lp =
      least_blocks (with_set (g 1)) (a + b + 1) have limit t d (suc (sets_in xs)) (pairs_in xs) s p (lack_from counts 1 a xs) h few (omega arith) ep lp (later_least 1 xs (omega arith) (inr may) fits (omega arith) (omega arith))

  begun_two : runs ≡ true → (t d s p : ℕ) (xs : List Column) → a + b + 2 + 3 * t + 2 * d ≤ limit → Fits runs caps 2 a xs → 2 + t + sets_in xs ≡ s → d + pairs_in xs ≡ p → s < 5 → p < 2 → with_blocks (with_set (with_set (g 2))) (a + b + 2) have limit s p ≤ (a + b + 2 + 3 * t + 2 * d - have) + lack_from counts 2 a xs
  begun_two may t d s p xs h fits es ep ls lp =
      least_blocks (with_set (with_set (g 2))) (a + b + 2) have limit t d (suc (suc (sets_in xs))) (pairs_in xs) s p (lack_from counts 2 a xs) h few (omega arith) ep lp (later_least 2 xs (omega arith) (inr may) fits (omega arith) (omega arith))

-- how a value of a row came about
record Origin (runs : Bool) (g : ℕ → ℕ → ℕ → ℕ) (w have limit s p v : ℕ) : Type 0 where
  pub begun : ℕ
  pub triplets : ℕ
  pub pairs : ℕ
  pub later_sets : ℕ
  pub later_pairs : ℕ
  pub few : begun < 3
  pub may_run : MayRun runs begun
  pub in_cap : w + begun + 3 * triplets + 2 * pairs ≤ limit
  pub has_sets : begun + triplets + later_sets ≡ s
  pub has_pairs : pairs + later_pairs ≡ p
  pub below : g begun later_sets later_pairs < 255
  pub value : v ≡ (w + begun + 3 * triplets + 2 * pairs - have) + g begun later_sets later_pairs

none_reached : (runs : Bool) (g : ℕ → ℕ → ℕ → ℕ) (w have limit s p v : ℕ) → v < 255 → v ≡ with_blocks (g 0) w have limit s p → Origin runs g w have limit s p v
none_reached runs g w have limit s p v low e =
    let r = blocks_reached (g 0) w have limit s p v low e in
    record { begun = 0; triplets = r.triplets; pairs = r.pairs; later_sets = r.later_sets; later_pairs = r.later_pairs; few = omega arith; may_run = inl refl; in_cap = omega (arith, r.in_cap); has_sets = omega (arith, r.has_sets); has_pairs = r.has_pairs; below = r.below; value = omega (arith, r.value) }

-- a set more was taken off a row that has no set less than one
one_set : (f : ℕ → ℕ → ℕ) (s p : ℕ) → with_set f s p < 255 → (n : ℕ) × (s ≡ suc n) × (with_set f s p ≡ f n p)
one_set f zero p h = absurd (omega arith)
one_set f (suc n) p h = (n, refl, refl)

one_reached : (g : ℕ → ℕ → ℕ → ℕ) (w have limit s p v : ℕ) → v < 255 → v ≡ with_blocks (with_set (g 1)) (w + 1) have limit s p → Origin true g w have limit s p v
one_reached g w have limit s p v low e =
    let r = blocks_reached (with_set (g 1)) (w + 1) have limit s p v low e in
    let q = one_set (g 1) r.later_sets r.later_pairs r.below in
    record { begun = 1; triplets = r.triplets; pairs = r.pairs; later_sets = q.0; later_pairs = r.later_pairs; few = omega arith; may_run = inr refl; in_cap = omega (arith, r.in_cap); has_sets = omega (arith, r.has_sets, q.1); has_pairs = r.has_pairs; below = omega (arith, r.below, q.2); value = omega (arith, r.value, q.2) }

two_reached : (g : ℕ → ℕ → ℕ → ℕ) (w have limit s p v : ℕ) → v < 255 → v ≡ with_blocks (with_set (with_set (g 2))) (w + 2) have limit s p → Origin true g w have limit s p v
two_reached g w have limit s p v low e =
    let r = blocks_reached (with_set (with_set (g 2))) (w + 2) have limit s p v low e in
    let q = one_set (with_set (g 2)) r.later_sets r.later_pairs r.below in
    let z = one_set (g 2) q.0 r.later_pairs (omega (arith, r.below, q.2)) in
    record { begun = 2; triplets = r.triplets; pairs = r.pairs; later_sets = z.0; later_pairs = r.later_pairs; few = omega arith; may_run = inr refl; in_cap = omega (arith, r.in_cap); has_sets = omega (arith, r.has_sets, q.1, z.1); has_pairs = r.has_pairs; below = omega (arith, r.below, q.2, z.2); value = omega (arith, r.value, q.2, z.2) }

row_reached : (runs : Bool) (g : ℕ → ℕ → ℕ → ℕ) (w have limit s p v : ℕ) → v < 255 → v ≡ row_value runs g w have limit s p → Origin runs g w have limit s p v
row_reached false g w have limit s p v low e = none_reached false g w have limit s p v low e
row_reached true g w have limit s p v low e =
    let none : ℕ = with_blocks (g 0) w have limit s p in
    let one : ℕ = with_blocks (with_set (g 1)) (w + 1) have limit s p in
    let two : ℕ = with_blocks (with_set (with_set (g 2))) (w + 2) have limit s p in
    ⊎_elim (λ outer. ⊎_elim (λ inner. none_reached true g w have limit s p v low (e ∙ outer ∙ inner)) (λ inner. one_reached g w have limit s p v low (e ∙ outer ∙ inner)) (min_is none one))
    (λ outer. two_reached g w have limit s p v low (e ∙ outer)) (min_is (min none one) two)

module _ (runs : Bool) (counts caps : List ℕ) (a b have limit : ℕ) (g : ℕ → ℕ → ℕ → ℕ) (few : limit ≤ 4) (after : LeastAfter runs counts caps a g) where
  -- at most two runs begun here
  few_begun : (r : Bool) → runs ≡ r → (u t d s p : ℕ) (xs : List Column) → u < 3 → MayRun r u → a + b + u + 3 * t + 2 * d ≤ limit → Fits runs caps u a xs → u + t + sets_in xs ≡ s → d + pairs_in xs ≡ p → s < 5 → p < 2 → row_value r g (a + b) have limit s p ≤ (a + b + u + 3 * t + 2 * d - have) + lack_from counts u a xs
  few_begun false same zero t d s p xs lu may h fits es ep ls lp =
      let bound = begun_none runs counts caps a b have limit g few after t d s p xs (omega arith) fits (omega arith) ep ls lp in
      omega arith
  few_begun false same (suc u) t d s p xs lu may h fits es ep ls lp = absurd (⊎_elim (λ z. omega (arith, z)) (λ z. false≢true z) may)
  few_begun true same zero t d s p xs lu may h fits es ep ls lp =
      let bound = begun_none runs counts caps a b have limit g few after t d s p xs (omega arith) fits (omega arith) ep ls lp in
      omega arith
  few_begun true same (suc zero) t d s p xs lu may h fits es ep ls lp =
      let bound = begun_one runs counts caps a b have limit g few after same t d s p xs (omega arith) fits (omega arith) ep ls lp in
      omega arith
  few_begun true same (suc (suc zero)) t d s p xs lu may h fits es ep ls lp =
      let bound = begun_two runs counts caps a b have limit g few after same t d s p xs (omega arith) fits (omega arith) ep ls lp in
      omega arith
  few_begun true same (suc (suc (suc u))) t d s p xs lu may h fits es ep ls lp = absurd (omega arith)

  -- any number of runs
  any_begun : (u t d s p : ℕ) (xs : List Column) → MayRun runs u → a + b + u + 3 * t + 2 * d ≤ limit → Fits runs caps u a xs → u + t + sets_in xs ≡ s → d + pairs_in xs ≡ p → s < 5 → p < 2 → row_value runs g (a + b) have limit s p ≤ (a + b + u + 3 * t + 2 * d - have) + lack_from counts u a xs
  any_begun zero t d s p xs may h fits es ep ls lp = few_begun runs refl 0 t d s p xs (omega arith) may h fits es ep ls lp
  any_begun (suc zero) t d s p xs may h fits es ep ls lp = few_begun runs refl 1 t d s p xs (omega arith) may h fits es ep ls lp
  any_begun (suc (suc zero)) t d s p xs may h fits es ep ls lp = few_begun runs refl 2 t d s p xs (omega arith) may h fits es ep ls lp
  any_begun (suc (suc (suc u))) t d s p xs may h fits es ep ls lp =
      let other = trade runs counts caps u (suc (suc (suc u))) a xs (omega arith) fits in
      let may_few : MayRun runs u = ⊎_elim (λ z. absurd (omega (arith, z))) (λ z. inr z) may in
      let bound = few_begun runs refl u (t + 1) d s p other.columns (omega arith) may_few (omega arith) other.fits (omega (arith, other.has_sets)) (omega (arith, other.has_pairs)) ls lp in
      omega (arith, bound, other.lacks)

  step_least : (s p : ℕ) → s < 5 → p < 2 → (xs : List Column) → Fits runs (limit ∷ caps) a b xs → sets_in xs ≡ s → pairs_in xs ≡ p → row_value runs g (a + b) have limit s p ≤ lack_from (have ∷ counts) a b xs
  step_least s p ls lp [] fits es ep = absurd fits
  step_least s p ls lp (x ∷ xs) fits es ep =
      any_begun x.runs x.triplets x.pairs s p xs fits.1 fits.0 fits.2 es ep ls lp

  step_reached : (s p v : ℕ) → s < 5 → p < 2 → v ≡ row_value runs g (a + b) have limit s p → v < 255 → Reaches runs (have ∷ counts) (limit ∷ caps) a b s p v
  step_reached s p v ls lp e low =
      let r = row_reached runs g (a + b) have limit s p v low e in
      let later = (after.at r.begun r.later_sets r.later_pairs r.few r.may_run (omega (arith, r.has_sets)) (omega (arith, r.has_pairs))).reached r.below in
      record {
        columns = record { runs = r.begun; triplets = r.triplets; pairs = r.pairs } ∷ later.columns;
        fits = (omega (arith, r.in_cap), r.may_run, later.fits);
        has_sets = omega (arith, r.has_sets, later.has_sets);
        has_pairs = omega (arith, r.has_pairs, later.has_pairs);
        lacks = omega (arith, r.value, later.lacks);
      }

  -- the values of a row are least where those of the next rank are
  pub step : (s p v : ℕ) → s < 5 → p < 2 → v ≡ row_value runs g (a + b) have limit s p → LeastFrom runs (have ∷ counts) (limit ∷ caps) a b s p v
  step s p v ls lp e = record {
    least = λ xs fits es ep. (let bound = step_least s p ls lp xs fits es ep in omega (arith, bound, e));
    reached = λ low. step_reached s p v ls lp e low;
  }
