-- Choices of blocks and columns by rank have the same lacks.
use Rattle.std.proofs.Common.{◌≡◌, ℕ, zero, suc, ◌+◌, ◌-◌, ◌*◌, ◌<◌, ◌≤◌, Bool, true, false, cond, inl, inr, List, [], ◌∷◌, ◌++◌, length, drop, get_or, replicate, ltb, eqb, refl, sym, ap, ◌∙◌, ⊎_elim, Some, None, subst, arith}
use Rattle.std.proofs.lemmas.Bool.{false≢true, ltb-true, ltb-false}
use Rattle.std.proofs.lemmas.Bool.Decides.{nat_tests}
use Rattle.std.proofs.lemmas.List.Elements.{All-nil, All-cons, All-head, All-tail}
use Rattle.std.proofs.lemmas.List.Folds.{sum_by-replicate}
use Rattle.std.proofs.lemmas.List.Sums.{sum_by-append, sum_by-cons}
use Rattle.std.specs.Prelude.{All, slice_index}
use Rattle.std.specs.List.{sum_by}
use Rattle.riichi_rows.specs.Columns.{Column, held, MayRun, Fits, lack_from, sets_in, pairs_in, LeastFrom}
use Rattle.riichi_rows.specs.Suit.{entry_of, IsLeastLack, is_set, IsInSuit, IsChoice, lack, LackReached}
use Rattle.riichi_rows.proofs.Spread.{spread_few, sum_range}
use Rattle.riichi_tiles.specs.Blocks.{copies, total, is_pair}
pub use Rattle.riichi_tiles.proofs.KindSums.{tiles_is_sum}
use Rattle.riichi_tiles.specs.declared.block.Block.{Block}
use Rattle.riichi_tiles.specs.declared.block.Block.TheVariants.{Run, Triplet, Pair}

-- ---- how often a block stands in a list

abbrev run_of : ℕ → Block → ℕ
run_of r (Run q) = cond (eqb q r) 1 0
run_of r (Triplet q) = 0
run_of r (Pair q) = 0

abbrev triplet_of : ℕ → Block → ℕ
triplet_of r (Run q) = 0
triplet_of r (Triplet q) = cond (eqb q r) 1 0
triplet_of r (Pair q) = 0

abbrev pair_of : ℕ → Block → ℕ
pair_of r (Run q) = 0
pair_of r (Triplet q) = 0
pair_of r (Pair q) = cond (eqb q r) 1 0

-- the tiles of a rank in a block
abbrev pub tiles_of : ℕ → Block → ℕ
tiles_of r b = copies b r

tiles_first : (b : Block) → tiles_of 0 b ≡ run_of 0 b + 3 * triplet_of 0 b + 2 * pair_of 0 b
tiles_first (Run q) = grind (arith, nat_tests)
tiles_first (Triplet q) = grind (arith, nat_tests)
tiles_first (Pair q) = grind (arith, nat_tests)

tiles_second : (b : Block) → tiles_of 1 b ≡ run_of 0 b + run_of 1 b + 3 * triplet_of 1 b + 2 * pair_of 1 b
tiles_second (Run q) = grind (arith, nat_tests)
tiles_second (Triplet q) = grind (arith, nat_tests)
tiles_second (Pair q) = grind (arith, nat_tests)

tiles_later : (r : ℕ) (b : Block) → tiles_of (r + 2) b ≡ run_of (r + 1) b + run_of r b + run_of (r + 2) b + 3 * triplet_of (r + 2) b + 2 * pair_of (r + 2) b
tiles_later r (Run q) = grind (arith, nat_tests)
tiles_later r (Triplet q) = grind (arith, nat_tests)
tiles_later r (Pair q) = grind (arith, nat_tests)

pub sum_by-same : (f g : Block → ℕ) → ((b : Block) → f b ≡ g b) → (bs : List Block) → sum_by f bs ≡ sum_by g bs
sum_by-same f g same [] = refl
sum_by-same f g same (b ∷ bs) = omega (arith, sum_by-cons f b bs, sum_by-cons g b bs, same b, sum_by-same f g same bs)

pub sum_by-same_of : (P : Block → Type 0) (f g : Block → ℕ) → ((b : Block) → P b → f b ≡ g b) → (bs : List Block) → All P bs → sum_by f bs ≡ sum_by g bs
sum_by-same_of P f g same [] all = refl
sum_by-same_of P f g same (b ∷ bs) all =
    omega (arith, sum_by-cons f b bs, sum_by-cons g b bs, same b (All-head P b bs all), sum_by-same_of P f g same bs (All-tail P b bs all))

module _ (f x y z t p : Block → ℕ) (splits : (b : Block) → f b ≡ x b + y b + z b + 3 * t b + 2 * p b) where
  sum_by-splits : (bs : List Block) → sum_by f bs ≡ sum_by x bs + sum_by y bs + sum_by z bs + 3 * sum_by t bs + 2 * sum_by p bs
  sum_by-splits [] = refl
  sum_by-splits (b ∷ bs) = omega (arith, splits b, sum_by-cons f b bs, sum_by-cons x b bs, sum_by-cons y b bs, sum_by-cons z b bs, sum_by-cons t b bs, sum_by-cons p b bs, sum_by-splits bs)

abbrev pub no_block : Block → ℕ
no_block b = 0

pub sum_by-none : (bs : List Block) → sum_by no_block bs ≡ 0
sum_by-none [] = refl
sum_by-none (b ∷ bs) = omega (arith, sum_by-cons no_block b bs, sum_by-none bs)

-- ---- from a list of blocks to columns

abbrev column_at : List Block → ℕ → Column
column_at bs r = record { runs = sum_by (run_of r) bs; triplets = sum_by (triplet_of r) bs; pairs = sum_by (pair_of r) bs }

abbrev columns_of : List Block → List Column
columns_of bs = column_at bs 0 ∷ column_at bs 1 ∷ column_at bs 2 ∷ column_at bs 3 ∷ column_at bs 4 ∷ column_at bs 5 ∷ column_at bs 6 ∷ column_at bs 7 ∷ column_at bs 8 ∷ []

held_first : (bs : List Block) → held 0 0 (column_at bs 0) ≡ total bs 0
held_first bs =
    let e = sum_by-splits (tiles_of 0) (run_of 0) no_block no_block (triplet_of 0) (pair_of 0) (λ b. omega (arith, tiles_first b)) bs in
    omega (arith, e, sum_by-none bs, tiles_is_sum 0 bs)

held_second : (bs : List Block) → held (sum_by (run_of 0) bs) 0 (column_at bs 1) ≡ total bs 1
held_second bs =
    let e = sum_by-splits (tiles_of 1) (run_of 0) (run_of 1) no_block (triplet_of 1) (pair_of 1) (λ b. omega (arith, tiles_second b)) bs in
    omega (arith, e, sum_by-none bs, tiles_is_sum 1 bs)

held_later : (r : ℕ) (bs : List Block) → held (sum_by (run_of (r + 1)) bs) (sum_by (run_of r) bs) (column_at bs (r + 2)) ≡ total bs (r + 2)
held_later r bs =
    let e = sum_by-splits (tiles_of (r + 2)) (run_of (r + 1)) (run_of r) (run_of (r + 2)) (triplet_of (r + 2)) (pair_of (r + 2)) (tiles_later r) bs in
    omega (arith, e, tiles_is_sum (r + 2) bs)

-- no run begins at the last two ranks
no_late_run : (runs : Bool) (bs : List Block) (r : ℕ) → 7 ≤ r → All (IsInSuit runs) bs → sum_by (run_of r) bs ≡ 0
no_late_run runs bs r h all = sum_by-same_of (IsInSuit runs) (run_of r) no_block here bs all ∙ sum_by-none bs
  where
    here : (b : Block) → IsInSuit runs b → run_of r b ≡ 0
    here (Run q) inside = let low = inside.1 in grind (arith, nat_tests, low)
    here (Triplet q) inside = refl
    here (Pair q) inside = refl

no_run_without : (bs : List Block) (r : ℕ) → All (IsInSuit false) bs → sum_by (run_of r) bs ≡ 0
no_run_without bs r all = sum_by-same_of (IsInSuit false) (run_of r) no_block here bs all ∙ sum_by-none bs
  where
    here : (b : Block) → IsInSuit false b → run_of r b ≡ 0
    here (Run q) inside = absurd (false≢true inside.0)
    here (Triplet q) inside = refl
    here (Pair q) inside = refl

may_run : (runs : Bool) (bs : List Block) (r : ℕ) → All (IsInSuit runs) bs → MayRun runs (sum_by (run_of r) bs)
may_run true bs r all = inr refl
may_run false bs r all = inl (no_run_without bs r all)

abbrev nine : (ℕ → ℕ) → ℕ
nine f = f 0 + (f 1 + (f 2 + (f 3 + (f 4 + (f 5 + (f 6 + (f 7 + (f 8 + 0))))))))

one_of_nine : (q : ℕ) → q < 9 → nine (λ r. cond (eqb q r) 1 0) ≡ 1
one_of_nine q h = grind (arith, nat_tests)

abbrev pub set_of : Block → ℕ
set_of b = cond (is_set b) 1 0

abbrev pub has_pair : Block → ℕ
has_pair b = cond (is_pair b) 1 0

block_sets : (runs : Bool) (b : Block) → IsInSuit runs b → nine (λ r. run_of r b + triplet_of r b) ≡ set_of b
block_sets runs (Run q) inside = let low = inside.1 in omega (arith, one_of_nine q (omega arith))
block_sets runs (Triplet q) inside = omega (arith, one_of_nine q inside)
block_sets runs (Pair q) inside = refl

block_pairs : (runs : Bool) (b : Block) → IsInSuit runs b → nine (λ r. pair_of r b) ≡ has_pair b
block_pairs runs (Run q) inside = refl
block_pairs runs (Triplet q) inside = refl
block_pairs runs (Pair q) inside = one_of_nine q inside

column-cons : (b : Block) (bs : List Block) (r : ℕ) →
    (sum_by (run_of r) (b ∷ bs) ≡ run_of r b + sum_by (run_of r) bs) × (sum_by (triplet_of r) (b ∷ bs) ≡ triplet_of r b + sum_by (triplet_of r) bs) × (sum_by (pair_of r) (b ∷ bs) ≡ pair_of r b + sum_by (pair_of r) bs)
column-cons b bs r = (sum_by-cons (run_of r) b bs, sum_by-cons (triplet_of r) b bs, sum_by-cons (pair_of r) b bs)

sets_of_columns : (runs : Bool) (bs : List Block) → All (IsInSuit runs) bs → sets_in (columns_of bs) ≡ sum_by set_of bs
sets_of_columns runs [] all = refl
sets_of_columns runs (b ∷ bs) all =
    let each = column-cons b bs in
    omega (arith, block_sets runs b (All-head (IsInSuit runs) b bs all), sets_of_columns runs bs (All-tail (IsInSuit runs) b bs all), sum_by-cons set_of b bs, each 0, each 1, each 2, each 3, each 4, each 5, each 6, each 7, each 8)

pairs_of_columns : (runs : Bool) (bs : List Block) → All (IsInSuit runs) bs → pairs_in (columns_of bs) ≡ sum_by has_pair bs
pairs_of_columns runs [] all = refl
pairs_of_columns runs (b ∷ bs) all =
    let each = column-cons b bs in
    omega (arith, block_pairs runs b (All-head (IsInSuit runs) b bs all), pairs_of_columns runs bs (All-tail (IsInSuit runs) b bs all), sum_by-cons has_pair b bs, each 0, each 1, each 2, each 3, each 4, each 5, each 6, each 7, each 8)

-- ---- a list of nine

abbrev nine_list : (ℕ → ℕ) → List ℕ
nine_list f = f 0 ∷ f 1 ∷ f 2 ∷ f 3 ∷ f 4 ∷ f 5 ∷ f 6 ∷ f 7 ∷ f 8 ∷ []

nine_elements : (xs : List ℕ) → length xs ≡ 9 → xs ≡ nine_list (λ r. get_or xs r 0)
nine_elements (a ∷ b ∷ c ∷ d ∷ e ∷ f ∷ g ∷ h ∷ i ∷ []) long = refl
nine_elements xs long = absurd (omega arith)

regroup : (a b c d e f g h i : ℕ) → a + (b + (c + (d + (e + (f + (g + (h + (i + 0)))))))) ≡ 0 + a + b + c + d + e + f + g + h + i
regroup a b c d e f g h i = omega arith

-- ---- the columns of a choice

module _ (runs : Bool) (have cap : ℕ → ℕ) (s p : ℕ) (bs : List Block) (choice : IsChoice runs (nine_list cap) s p bs) where
  all : All (IsInSuit runs) bs
  all = choice.in_suit

  -- one rank in front of the later ones
  rank_fits : (r a b limit : ℕ) (caps : List ℕ) (xs : List Column) → held a b (column_at bs r) ≡ total bs r → total bs r ≤ limit → Fits runs caps (sum_by (run_of r) bs) a xs → Fits runs (limit ∷ caps) a b (column_at bs r ∷ xs)
  rank_fits r a b limit caps xs same within later = (omega (arith, same, within), may_run runs bs r all, later)

  columns_fit : Fits runs (nine_list cap) 0 0 (columns_of bs)
  columns_fit =
      let ks = nine_list cap in
      let xs = columns_of bs in
      let begun : ℕ → ℕ = λ r. sum_by (run_of r) bs in
      rank_fits 0 0 0 (cap 0) (drop 1 ks) (drop 1 xs) (held_first bs) (choice.in_caps 0 (omega arith))
      (rank_fits 1 (begun 0) 0 (cap 1) (drop 2 ks) (drop 2 xs) (held_second bs) (choice.in_caps 1 (omega arith))
      (rank_fits 2 (begun 1) (begun 0) (cap 2) (drop 3 ks) (drop 3 xs) (held_later 0 bs) (choice.in_caps 2 (omega arith))
      (rank_fits 3 (begun 2) (begun 1) (cap 3) (drop 4 ks) (drop 4 xs) (held_later 1 bs) (choice.in_caps 3 (omega arith))
      (rank_fits 4 (begun 3) (begun 2) (cap 4) (drop 5 ks) (drop 5 xs) (held_later 2 bs) (choice.in_caps 4 (omega arith))
      (rank_fits 5 (begun 4) (begun 3) (cap 5) (drop 6 ks) (drop 6 xs) (held_later 3 bs) (choice.in_caps 5 (omega arith))
      (rank_fits 6 (begun 5) (begun 4) (cap 6) (drop 7 ks) (drop 7 xs) (held_later 4 bs) (choice.in_caps 6 (omega arith))
      (rank_fits 7 (begun 6) (begun 5) (cap 7) (drop 8 ks) (drop 8 xs) (held_later 5 bs) (choice.in_caps 7 (omega arith))
      (rank_fits 8 (begun 7) (begun 6) (cap 8) (drop 9 ks) (drop 9 xs) (held_later 6 bs) (choice.in_caps 8 (omega arith))
      (no_late_run runs bs 8 (omega arith) all, no_late_run runs bs 7 (omega arith) all)))))))))

  columns_lack : lack_from (nine_list have) 0 0 (columns_of bs) ≡ lack (nine_list have) bs
  columns_lack = rw (held_first bs, held_second bs, held_later 0 bs, held_later 1 bs, held_later 2 bs, held_later 3 bs, held_later 4 bs, held_later 5 bs, held_later 6 bs)
      (regroup (total bs 0 - have 0) (total bs 1 - have 1) (total bs 2 - have 2) (total bs 3 - have 3) (total bs 4 - have 4) (total bs 5 - have 5) (total bs 6 - have 6) (total bs 7 - have 7) (total bs 8 - have 8))

  columns_sets : sets_in (columns_of bs) ≡ s
  columns_sets = sets_of_columns runs bs all ∙ choice.has_sets

  columns_pairs : pairs_in (columns_of bs) ≡ p
  columns_pairs = pairs_of_columns runs bs all ∙ choice.has_pairs

-- ---- from columns to a list of blocks

sum_by-repeated : (f : Block → ℕ) (n : ℕ) (b : Block) (bs : List Block) → sum_by f (replicate n b ++ bs) ≡ n * f b + sum_by f bs
sum_by-repeated f n b bs = sum_by-append f (replicate n b) bs ∙ ap (λ m. m + sum_by f bs) (sum_by-replicate f n b)

All-repeated : (P : Block → Type 0) (n : ℕ) (b : Block) (bs : List Block) → (0 < n → P b) → All P bs → All P (replicate n b ++ bs)
All-repeated P zero b bs here rest = rest
All-repeated P (suc n) b bs here rest = All-cons P b (replicate n b ++ bs) (here (omega arith)) (All-repeated P n b bs (λ h. here (omega arith)) rest)

blocks_from : ℕ → List Column → List Block
blocks_from r [] = []
blocks_from r (x ∷ xs) = replicate x.runs (Run r) ++ (replicate x.triplets (Triplet r) ++ (replicate x.pairs (Pair r) ++ blocks_from (suc r) xs))

-- the same sum over the columns
abbrev parts : (Block → ℕ) → ℕ → List Column → ℕ
parts f r [] = 0
parts f r (x ∷ xs) = x.runs * f (Run r) + (x.triplets * f (Triplet r) + (x.pairs * f (Pair r) + parts f (suc r) xs))

sum_by-blocks_from : (f : Block → ℕ) (r : ℕ) (xs : List Column) → sum_by f (blocks_from r xs) ≡ parts f r xs
unfolding blocks_from
sum_by-blocks_from f r [] = refl
sum_by-blocks_from f r (x ∷ xs) =
    sum_by-repeated f x.runs (Run r) _ ∙ ap (λ n. x.runs * f (Run r) + n)
    (sum_by-repeated f x.triplets (Triplet r) _ ∙ ap (λ n. x.triplets * f (Triplet r) + n)
    (sum_by-repeated f x.pairs (Pair r) _ ∙ ap (λ n. x.pairs * f (Pair r) + n) (sum_by-blocks_from f (suc r) xs)))

-- a run that is open is closed two ranks later
room_for_run : (runs : Bool) (caps : List ℕ) (u a : ℕ) (xs : List Column) → Fits runs caps u a xs → 0 < u → 2 ≤ length xs
room_for_run runs [] u a [] fits h = absurd (omega (arith, fits.0))
room_for_run runs [] u a (x ∷ xs) fits h = absurd fits
room_for_run runs (k ∷ caps) u a [] fits h = absurd fits
room_for_run runs (k ∷ []) u a (x ∷ []) fits h = absurd (let e : u ≡ 0 = fits.2.1 in omega arith)
room_for_run runs (k ∷ k' ∷ caps) u a (x ∷ []) fits h = absurd fits.2
room_for_run runs (k ∷ caps) u a (x ∷ y ∷ xs) fits h = omega arith

blocks_in_suit : (runs : Bool) (caps : List ℕ) (a b r : ℕ) (xs : List Column) → Fits runs caps a b xs → r + length xs ≡ 9 → All (IsInSuit runs) (blocks_from r xs)
unfolding blocks_from
blocks_in_suit runs caps a b r [] fits long = All-nil (IsInSuit runs)
blocks_in_suit runs [] a b r (x ∷ xs) fits long = absurd fits
blocks_in_suit runs (k ∷ caps) a b r (x ∷ xs) fits long =
    All-repeated (IsInSuit runs) x.runs (Run r) _ (λ h. (⊎_elim (λ none. absurd (omega (arith, none))) (λ may. may) fits.1, omega (arith, room_for_run runs caps x.runs a xs fits.2 h)))
    (All-repeated (IsInSuit runs) x.triplets (Triplet r) _ (λ h. omega arith)
    (All-repeated (IsInSuit runs) x.pairs (Pair r) _ (λ h. omega arith) (blocks_in_suit runs caps x.runs a (suc r) xs fits.2 (omega arith))))

sets_from : (r : ℕ) (xs : List Column) → parts set_of r xs ≡ sets_in xs
sets_from r [] = refl
sets_from r (x ∷ xs) = omega (arith, sets_from (suc r) xs)

pairs_from : (r : ℕ) (xs : List Column) → parts has_pair r xs ≡ pairs_in xs
pairs_from r [] = refl
pairs_from r (x ∷ xs) = omega (arith, pairs_from (suc r) xs)

fits_length : (runs : Bool) (caps : List ℕ) (a b : ℕ) (xs : List Column) → Fits runs caps a b xs → length xs ≡ length caps
fits_length runs [] a b [] fits = refl
fits_length runs [] a b (x ∷ xs) fits = absurd fits
fits_length runs (k ∷ caps) a b [] fits = absurd fits
fits_length runs (k ∷ caps) a b (x ∷ xs) fits = ap suc (fits_length runs caps x.runs a xs fits.2)

-- the tiles at each rank, of nine columns
module _ (x0 x1 x2 x3 x4 x5 x6 x7 x8 : Column) where
  abbrev nine_columns : List Column
  nine_columns = x0 ∷ x1 ∷ x2 ∷ x3 ∷ x4 ∷ x5 ∷ x6 ∷ x7 ∷ x8 ∷ []

  tiles_from : (r : ℕ) → total (blocks_from 0 nine_columns) r ≡ parts (tiles_of r) 0 nine_columns
  tiles_from r = tiles_is_sum r (blocks_from 0 nine_columns) ∙ sum_by-blocks_from (tiles_of r) 0 nine_columns

  tiles_are : (let tiles = total (blocks_from 0 nine_columns) in
      (tiles 0 ≡ held 0 0 x0) × (tiles 1 ≡ held x0.runs 0 x1) × (tiles 2 ≡ held x1.runs x0.runs x2) × (tiles 3 ≡ held x2.runs x1.runs x3) × (tiles 4 ≡ held x3.runs x2.runs x4)
      × (tiles 5 ≡ held x4.runs x3.runs x5) × (tiles 6 ≡ held x5.runs x4.runs x6) × (tiles 7 ≡ held x6.runs x5.runs x7) × (tiles 8 ≡ held x7.runs x6.runs x8))
  tiles_are = (
    omega (arith, tiles_from 0),
    omega (arith, tiles_from 1),
    omega (arith, tiles_from 2),
    omega (arith, tiles_from 3),
    omega (arith, tiles_from 4),
    omega (arith, tiles_from 5),
    omega (arith, tiles_from 6),
    omega (arith, tiles_from 7),
    omega (arith, tiles_from 8),
  )

  module _ (runs : Bool) (have cap : ℕ → ℕ) (s p : ℕ) (fits : Fits runs (nine_list cap) 0 0 nine_columns) (sets_are : sets_in nine_columns ≡ s) (pairs_are : pairs_in nine_columns ≡ p) where
    chosen_in_caps : (r : ℕ) → r < 9 → total (blocks_from 0 nine_columns) r ≤ slice_index (nine_list cap) r
    chosen_in_caps zero h = rw tiles_are.0 (fits.0)
    chosen_in_caps (suc zero) h = rw tiles_are.1 (fits.2.0)
    chosen_in_caps (suc (suc zero)) h = rw tiles_are.2 (fits.2.2.0)
    chosen_in_caps (suc (suc (suc zero))) h = rw tiles_are.3 (fits.2.2.2.0)
    chosen_in_caps (suc (suc (suc (suc zero)))) h = rw tiles_are.4 (fits.2.2.2.2.0)
    chosen_in_caps (suc (suc (suc (suc (suc zero))))) h = rw tiles_are.5 (fits.2.2.2.2.2.0)
    chosen_in_caps (suc (suc (suc (suc (suc (suc zero)))))) h = rw tiles_are.6 (fits.2.2.2.2.2.2.0)
    chosen_in_caps (suc (suc (suc (suc (suc (suc (suc zero))))))) h = rw tiles_are.7 (fits.2.2.2.2.2.2.2.0)
    chosen_in_caps (suc (suc (suc (suc (suc (suc (suc (suc zero)))))))) h = rw tiles_are.8 (fits.2.2.2.2.2.2.2.2.0)
    chosen_in_caps (suc (suc (suc (suc (suc (suc (suc (suc (suc r))))))))) h = absurd (omega arith)

    chosen_is_choice : IsChoice runs (nine_list cap) s p (blocks_from 0 nine_columns)
    chosen_is_choice = record {
      in_suit = blocks_in_suit runs (nine_list cap) 0 0 0 nine_columns fits (omega arith);
      has_sets = sum_by-blocks_from set_of 0 nine_columns ∙ sets_from 0 nine_columns ∙ sets_are;
      has_pairs = sum_by-blocks_from has_pair 0 nine_columns ∙ pairs_from 0 nine_columns ∙ pairs_are;
      in_caps = chosen_in_caps;
    }

    chosen_lack : lack (nine_list have) (blocks_from 0 nine_columns) ≡ lack_from (nine_list have) 0 0 nine_columns
    chosen_lack = rw (tiles_are.0, tiles_are.1, tiles_are.2, tiles_are.3, tiles_are.4, tiles_are.5, tiles_are.6, tiles_are.7, tiles_are.8)
        (sym (regroup (held 0 0 x0 - have 0) (held x0.runs 0 x1 - have 1) (held x1.runs x0.runs x2 - have 2) (held x2.runs x1.runs x3 - have 3) (held x3.runs x2.runs x4 - have 4) (held x4.runs x3.runs x5 - have 5) (held x5.runs x4.runs x6 - have 6) (held x6.runs x5.runs x7 - have 7) (held x7.runs x6.runs x8 - have 8)))

blocks_reached : (runs : Bool) (have cap : ℕ → ℕ) (s p v : ℕ) (xs : List Column) → Fits runs (nine_list cap) 0 0 xs → sets_in xs ≡ s → pairs_in xs ≡ p → lack_from (nine_list have) 0 0 xs ≡ v → LackReached runs (nine_list have) (nine_list cap) s p v
blocks_reached runs have cap s p v (x0 ∷ x1 ∷ x2 ∷ x3 ∷ x4 ∷ x5 ∷ x6 ∷ x7 ∷ x8 ∷ []) fits es ep el = record {
  blocks = blocks_from 0 (x0 ∷ x1 ∷ x2 ∷ x3 ∷ x4 ∷ x5 ∷ x6 ∷ x7 ∷ x8 ∷ []);
  is_choice = chosen_is_choice x0 x1 x2 x3 x4 x5 x6 x7 x8 runs have cap s p fits es ep;
  lacks = chosen_lack x0 x1 x2 x3 x4 x5 x6 x7 x8 runs have cap s p fits es ep ∙ el;
}
blocks_reached runs have cap s p v xs fits es ep el = absurd (omega (arith, fits_length runs (nine_list cap) 0 0 xs fits))

-- ---- an entry

lack_small : (runs : Bool) (counts caps : List ℕ) → ((r : ℕ) → r < 9 → slice_index caps r ≤ 4) → (s p : ℕ) (bs : List Block) → IsChoice runs caps s p bs → lack counts bs ≤ 36
lack_small runs counts caps few s p bs choice =
    subst (λ (n : ℕ). n ≤ 36) (sym (sum_range (λ r. total bs r - slice_index counts r) 0 9)) (spread_few (λ r. total bs r - slice_index counts r) 0 9 (λ r low high. each r (omega arith)))
  where
    each : (r : ℕ) → r < 9 → total bs r - slice_index counts r ≤ 4
    each r inside = omega (arith, choice.in_caps r inside, few r inside)

module _ (runs : Bool) (have cap : ℕ → ℕ) where
  bound : (s p v : ℕ) → LeastFrom runs (nine_list have) (nine_list cap) 0 0 s p v → (bs : List Block) → IsChoice runs (nine_list cap) s p bs → v ≤ lack (nine_list have) bs
  bound s p v least bs choice =
      let b = least.least (columns_of bs) (columns_fit runs have cap s p bs choice) (columns_sets runs have cap s p bs choice) (columns_pairs runs have cap s p bs choice) in
      omega (arith, b, columns_lack runs have cap s p bs choice)

  nine_entry : ((r : ℕ) → r < 9 → slice_index (nine_list cap) r ≤ 4) → (s p v : ℕ) → LeastFrom runs (nine_list have) (nine_list cap) 0 0 s p v → IsLeastLack runs (nine_list have) (nine_list cap) s p (entry_of v)
  nine_entry few s p v least = by_test (ltb v 255) refl
    where
      by_test : (t : Bool) → ltb v 255 ≡ t → IsLeastLack runs (nine_list have) (nine_list cap) s p (cond t (Some v) None)
      by_test false e = λ bs choice. absurd (let large : 255 ≤ v = ltb-false v 255 e in omega (arith, bound s p v least bs choice, lack_small runs (nine_list have) (nine_list cap) few s p bs choice))
      by_test true e = (reach, record { bound = bound s p v least })
        where
          reach : LackReached runs (nine_list have) (nine_list cap) s p v
          reach = let r = least.reached (ltb-true v 255 e) in blocks_reached runs have cap s p v r.columns r.fits r.has_sets r.has_pairs r.lacks

-- an entry of a row
pub entry_least : (runs : Bool) (counts caps : List ℕ) → length counts ≡ 9 → length caps ≡ 9 → ((r : ℕ) → r < 9 → slice_index caps r ≤ 4) → (s p v : ℕ) → LeastFrom runs counts caps 0 0 s p v → IsLeastLack runs counts caps s p (entry_of v)
entry_least runs counts caps lc lk = rw (nine_elements counts lc, nine_elements caps lk) (nine_entry runs (slice_index counts) (slice_index caps))
