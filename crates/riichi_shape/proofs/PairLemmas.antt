-- Seven pairs: the best choice takes kinds held twice, then kinds held once.
use Rattle.std.proofs.Common.{◌≡◌, ℕ, zero, suc, ◌+◌, ◌-◌, ◌*◌, ◌<◌, ◌≤◌, min, Bool, cond, ◌⊎◌, inl, inr, List, [], ◌∷◌, length, get_or, leb, eqb, refl, sym, ap, ◌∙◌, ⊎_elim, arith}
use Rattle.std.proofs.lemmas.Bool.{cases_lt}
use Rattle.std.proofs.lemmas.Bool.Decides.{nat_tests}
use Rattle.std.proofs.lemmas.List.Sums.{sum_by-cons}
use Rattle.std.specs.Prelude.{sum, sum_by, count_by, nat_le, slice_index}
use Rattle.riichi_shape.specs.Distance.{PairsReached}
use Rattle.riichi_tiles.specs.Forms.{IsSevenPairs}
use Rattle.riichi_shape.specs.Winning.{lacking}
use Rattle.riichi_tiles.specs.Melds.{every_kind}
use Rattle.riichi_rows.proofs.Spread.{same_spread, spread, spread_sum, sum_range, spread_shift, table, table_at, at_same_number}

abbrev pub two : ℕ → ℕ
two h = cond (leb 2 h) 1 0

abbrev pub one : ℕ → ℕ
one h = cond (eqb h 1) 1 0

abbrev pub nil : ℕ → ℕ
nil h = cond (eqb h 0) 1 0

pub of_two : (h : ℕ) → (two (suc (suc h)) ≡ 1) × (one (suc (suc h)) ≡ 0) × (nil (suc (suc h)) ≡ 0)
of_two h = grind (arith, nat_tests)

-- ---- lists side by side

unfoldable pub total_of : (ℕ → ℕ) → List ℕ → ℕ
total_of f [] = 0
total_of f (x ∷ xs) = f x + total_of f xs

pub sum_is_total : (f : ℕ → ℕ) (xs : List ℕ) → sum_by f xs ≡ total_of f xs
unfolding total_of
sum_is_total f [] = refl
sum_is_total f (x ∷ xs) = sum_by-cons f x xs ∙ ap (λ n. f x + n) (sum_is_total f xs)

pub lack_beside : List ℕ → List ℕ → ℕ
lack_beside [] ws = 0
lack_beside (h ∷ hs) [] = 0
lack_beside (h ∷ hs) (w ∷ ws) = (w - h) + lack_beside hs ws

lack_is : (hs ws : List ℕ) → length ws ≡ length hs → spread (λ k. get_or ws k 0 - get_or hs k 0) 0 (length hs) ≡ lack_beside hs ws
unfolding lack_beside spread
lack_is [] ws long = refl
lack_is (h ∷ hs) [] long = absurd (omega arith)
lack_is (h ∷ hs) (w ∷ ws) long =
    let shifted = spread_shift (λ k. get_or (w ∷ ws) k 0 - get_or (h ∷ hs) k 0) (λ k. get_or ws k 0 - get_or hs k 0) (0 + 1) 0 (length hs) (λ r low. moved r) in
    omega (arith, shifted, lack_is hs ws (omega arith))
  where
    moved : (r : ℕ) → get_or (w ∷ ws) (0 + 1 + r) 0 - get_or (h ∷ hs) (0 + 1 + r) 0 ≡ get_or ws (0 + r) 0 - get_or hs (0 + r) 0
    moved r = at_same_number (λ k. get_or (w ∷ ws) k 0 - get_or (h ∷ hs) k 0) (0 + 1 + r) (suc r) (omega arith) ∙ at_same_number (λ k. get_or ws k 0 - get_or hs k 0) r (0 + r) (omega arith)

-- ---- no seven pairs lack less

-- of n successive kinds w takes two tiles each of some that h holds twice or more, of some that it holds once, and of some that it has not
pub record Chosen (h w : ℕ → ℕ) (a n : ℕ) : Type 0 where
  pub from_twos : ℕ
  pub from_ones : ℕ
  pub from_none : ℕ
  pub twos : from_twos ≤ spread (λ k. two (h k)) a n
  pub ones : from_ones ≤ spread (λ k. one (h k)) a n
  pub tiles : spread w a n ≡ 2 * (from_twos + from_ones + from_none)
  pub lacks : spread (λ k. w k - h k) a n ≡ from_ones + 2 * from_none
  pub fresh : (k : ℕ) → a ≤ k → k < a + n → h k ≡ 0 → w k ≡ 2 → 0 < from_none

pub chosen : (h w : ℕ → ℕ) (a n : ℕ) → ((k : ℕ) → k < a + n → (w k ≡ 0) ⊎ (w k ≡ 2)) → Chosen h w a n
unfolding spread
chosen h w a zero each = record { from_twos = 0; from_ones = 0; from_none = 0; twos = omega arith; ones = omega arith; tiles = omega arith; lacks = omega arith; fresh = λ k low high none two. absurd (omega arith) }
chosen h w a (suc n) each =
    let rest = chosen h w (a + 1) n (λ k low. each k (omega arith)) in
    ⊎_elim (λ none. more rest 0 0 0 (omega arith) (omega arith) (omega (arith, none)) (omega (arith, none))
    (λ not_held two. absurd (omega (arith, none, two))))
    (λ taken. take_by rest taken (h a) refl) (each a (omega arith))
  where
    -- from the first kind t tiles twice, o once, z not at all
    more : Chosen h w (a + 1) n → (t o z : ℕ) → t ≤ two (h a) → o ≤ one (h a) → w a ≡ 2 * (t + o + z) → w a - h a ≡ o + 2 * z
        → (h a ≡ 0 → w a ≡ 2 → 0 < z) → Chosen h w a (suc n)
    more rest t o z few_twos few_ones tiles lacks fresh = record {
      from_twos = t + rest.from_twos;
      from_ones = o + rest.from_ones;
      from_none = z + rest.from_none;
      twos = omega (arith, rest.twos);
      ones = omega (arith, rest.ones);
      tiles = omega (arith, rest.tiles);
      lacks = omega (arith, rest.lacks);
      fresh = λ k low high not_held two.
          ⊎_elim (λ later. (let some = rest.fresh k (omega arith) (omega arith) not_held two in omega (arith, some)))
          (λ here. (let same : a ≡ k = omega arith in
          let some = fresh (ap h same ∙ not_held) (ap w same ∙ two) in omega (arith, some))) (cases_lt a k);
    }

    take_by : Chosen h w (a + 1) n → w a ≡ 2 → (held : ℕ) → h a ≡ held → Chosen h w a (suc n)
    take_by rest taken zero e = more rest 0 0 1 (omega arith) (omega arith) (omega (arith, taken)) (omega (arith, taken, e))
        (λ not_held two. omega arith)
    take_by rest taken (suc zero) e =
        let here : one (h a) ≡ 1 = grind (arith, nat_tests) in
        more rest 0 1 0 (omega arith) (omega (arith, here)) (omega (arith, taken)) (omega (arith, taken, e))
        (λ not_held two. absurd (omega (arith, e, not_held)))
    take_by rest taken (suc (suc held)) e =
        let here : two (h a) ≡ 1 = grind (arith, nat_tests) in
        more rest 1 0 0 (omega (arith, here)) (omega arith) (omega (arith, taken)) (omega (arith, taken, e))
        (λ not_held two. absurd (omega (arith, e, not_held)))

-- ---- some seven pairs lack as much

pub record Picked (hs : List ℕ) (p s z : ℕ) : Type 0 where
  pub wanted : List ℕ
  pub long : length wanted ≡ length hs
  pub each : (k : ℕ) → (get_or wanted k 0 ≡ 0) ⊎ (get_or wanted k 0 ≡ 2)
  pub tiles : total_of (λ w. w) wanted ≡ 2 * (p + s + z)
  pub lacks : lack_beside hs wanted ≡ s + 2 * z

pub each_more : (w : ℕ) (ws : List ℕ) → (w ≡ 0) ⊎ (w ≡ 2) → ((k : ℕ) → (get_or ws k 0 ≡ 0) ⊎ (get_or ws k 0 ≡ 2)) → (k : ℕ) → (get_or (w ∷ ws) k 0 ≡ 0) ⊎ (get_or (w ∷ ws) k 0 ≡ 2)
each_more w ws here rest zero = here
each_more w ws here rest (suc k) = rest k

unfoldable pub skipped : (h : ℕ) (hs : List ℕ) (p s z : ℕ) → Picked hs p s z → Picked (h ∷ hs) p s z
unfolding total_of lack_beside
skipped h hs p s z r = record { wanted = 0 ∷ r.wanted; long = ap suc r.long; each = each_more 0 r.wanted (inl refl) r.each; tiles = omega (arith, r.tiles); lacks = omega (arith, r.lacks) }

unfoldable pub taken : (h : ℕ) (hs : List ℕ) (p s z p' s' z' : ℕ) → Picked hs p s z → 1 + p + s + z ≡ p' + s' + z' → (2 - h) + (s + 2 * z) ≡ s' + 2 * z' → Picked (h ∷ hs) p' s' z'
unfolding total_of lack_beside
taken h hs p s z p' s' z' r more lack = record { wanted = 2 ∷ r.wanted; long = ap suc r.long; each = each_more 2 r.wanted (inr refl) r.each; tiles = omega (arith, r.tiles); lacks = omega (arith, r.lacks) }

pub picked : (hs : List ℕ) (p s z : ℕ) → p ≤ total_of two hs → s ≤ total_of one hs → z ≤ total_of nil hs → Picked hs p s z
unfolding total_of lack_beside
picked [] p s z hp hs' hz = record { wanted = []; long = refl; each = λ k. inl refl; tiles = omega arith; lacks = omega arith }
picked (zero ∷ hs) p s zero hp hs' hz = skipped 0 hs p s 0 (picked hs p s 0 (omega arith) (omega arith) (omega arith))
picked (zero ∷ hs) p s (suc z) hp hs' hz = taken 0 hs p s z p s (suc z) (picked hs p s z (omega arith) (omega arith) (omega arith)) (omega arith) (omega arith)
picked (suc zero ∷ hs) p zero z hp hs' hz = skipped 1 hs p 0 z (picked hs p 0 z (omega arith) (omega arith) (omega arith))
picked (suc zero ∷ hs) p (suc s) z hp hs' hz = taken 1 hs p s z p (suc s) z (picked hs p s z (omega arith) (omega arith) (omega arith)) (omega arith) (omega arith)
picked (suc (suc h) ∷ hs) zero s z hp hs' hz = skipped (suc (suc h)) hs 0 s z (picked hs 0 s z (omega arith) (omega (arith, of_two h)) (omega (arith, of_two h)))
picked (suc (suc h) ∷ hs) (suc p) s z hp hs' hz = taken (suc (suc h)) hs p s z (suc p) s z (picked hs p s z (omega (arith, of_two h)) (omega (arith, of_two h)) (omega (arith, of_two h))) (omega arith) (omega arith)

classes : (hs : List ℕ) → total_of two hs + total_of one hs + total_of nil hs ≡ length hs
unfolding total_of
classes [] = refl
classes (zero ∷ hs) = omega (arith, classes hs)
classes (suc zero ∷ hs) = omega (arith, classes hs)
classes (suc (suc h) ∷ hs) = omega (arith, of_two h, classes hs)

pub spread_total : (f : ℕ → ℕ) (xs : List ℕ) → spread (λ k. f (get_or xs k 0)) 0 (length xs) ≡ total_of f xs
unfolding total_of spread
spread_total f [] = refl
spread_total f (x ∷ xs) =
    let shifted = spread_shift (λ k. f (get_or (x ∷ xs) k 0)) (λ k. f (get_or xs k 0)) (0 + 1) 0 (length xs) (λ r low. moved r) in
    omega (arith, shifted, spread_total f xs)
  where
    moved : (r : ℕ) → f (get_or (x ∷ xs) (0 + 1 + r) 0) ≡ f (get_or xs (0 + r) 0)
    moved r = at_same_number (λ k. f (get_or (x ∷ xs) k 0)) (0 + 1 + r) (suc r) (omega arith) ∙ at_same_number (λ k. f (get_or xs k 0)) r (0 + r) (omega arith)

-- all tiles of a hand
pub sum_spread : (hand : List ℕ) → length hand ≡ 34 → spread (slice_index hand) 0 34 ≡ sum hand
sum_spread hand long = ap (spread (slice_index hand) 0) (sym long) ∙ spread_total (λ n. n) hand ∙ sym (sum_is_total (λ n. n) hand)

pub length_table : (f : ℕ → ℕ) (a n : ℕ) → length (table f a n) ≡ n
unfolding table
length_table f a zero = refl
length_table f a (suc n) = ap suc (length_table f (a + 1) n)

pub total_table : (f h : ℕ → ℕ) (a n : ℕ) → total_of f (table h a n) ≡ spread (λ k. f (h k)) a n
unfolding table total_of spread
total_table f h a zero = refl
total_table f h a (suc n) = ap (λ m. f (h a) + m) (total_table f h (a + 1) n)

-- the counts of the kinds
abbrev pub counts_held : List ℕ → List ℕ
counts_held hand = table (slice_index hand) 0 34

module _ (hand : List ℕ) (twos ones r : ℕ) (twos_are : twos ≡ spread (λ k. two (slice_index hand k)) 0 34) (ones_are : ones ≡ spread (λ k. one (slice_index hand k)) 0 34) (r_is : r ≡ 14 - 2 * min twos 7 - min ones (7 - min twos 7)) where
  pub pairs_bound : (wanted : List ℕ) → IsSevenPairs wanted → r ≤ lacking hand wanted
  pairs_bound wanted is =
      let c = chosen (slice_index hand) (slice_index wanted) 0 34 (λ k low. is.two_or_none k (omega arith)) in
      omega (arith, c.twos, c.ones, c.tiles, c.lacks, sum_range (slice_index wanted) 0 34, sum_range (λ k. slice_index wanted k - slice_index hand k) 0 34, is.fourteen)

  same_held : (w : ℕ → ℕ) → spread (λ k. w k - slice_index hand k) 0 34 ≡ spread (λ k. w k - slice_index (counts_held hand) k) 0 34
  same_held w = spread_shift (λ k. w k - slice_index hand k) (λ k. w k - slice_index (counts_held hand) k) 0 0 34
      (λ k low. ap (λ h. w (0 + k) - h) (sym (table_at (slice_index hand) 0 34 (0 + k) (omega arith) ∙ at_same_number (slice_index hand) (0 + (0 + k)) (0 + k) (omega arith))))

  -- so many kinds of each class are seven, and lack as much as any seven
  pub record AreSeven (p s z : ℕ) : Type 0 where
    pub few_twos : p ≤ total_of two (counts_held hand)
    pub few_ones : s ≤ total_of one (counts_held hand)
    pub few_none : z ≤ total_of nil (counts_held hand)
    pub seven : p + s + z ≡ 7
    pub least : s + 2 * z ≡ r

  pub seven_least : AreSeven (min twos 7) (min ones (7 - min twos 7)) (7 - min twos 7 - min ones (7 - min twos 7))
  seven_least =
      let long = length_table (slice_index hand) 0 34 in
      let t = total_table two (slice_index hand) 0 34 in
      let o = total_table one (slice_index hand) 0 34 in
      let n = classes (counts_held hand) in
      record { few_twos = omega arith; few_ones = omega arith; few_none = omega arith; seven = omega arith; least = omega arith }

  pub seven_picked : (p s z : ℕ) → AreSeven p s z → Picked (counts_held hand) p s z → PairsReached hand r
  seven_picked p s z are w =
      let long = length_table (slice_index hand) 0 34 in
      record {
        wanted = w.wanted;
        seven_pairs = record {
          two_or_none = λ k low. w.each k;
          fourteen = sum_range (slice_index w.wanted) 0 34 ∙ same_spread (slice_index w.wanted) 0 0 34 (length w.wanted) refl (sym long ∙ sym w.long) ∙ spread_total (λ x. x) w.wanted ∙ omega (arith, w.tiles, are.seven);
        };
        lacks = sum_range (λ k. slice_index w.wanted k - slice_index hand k) 0 34 ∙ same_held (slice_index w.wanted) ∙ same_spread (λ k. slice_index w.wanted k - slice_index (counts_held hand) k) 0 0 34 (length (counts_held hand)) refl (sym long) ∙ lack_is (counts_held hand) w.wanted w.long ∙ omega (arith, w.lacks, are.least);
      }

  pub seven_wanted : (p s z : ℕ) (are : AreSeven p s z) (w : Picked (counts_held hand) p s z) → (seven_picked p s z are w).wanted ≡ w.wanted
  unfolding seven_picked
  seven_wanted p s z are w = refl

  pub pairs_reached : PairsReached hand r
  pairs_reached =
      let p : ℕ = min twos 7 in
      let s : ℕ = min ones (7 - p) in
      let are = seven_least in
      seven_picked p s (7 - p - s) are (picked (counts_held hand) p s (7 - p - s) are.few_twos are.few_ones are.few_none)

-- ---- kinds counted

-- the counts that pass a test, by kind
pub counted_kinds : (p : ℕ → Bool) (hand : List ℕ) → length hand ≡ 34 → count_by p hand ≡ count_by (λ kind. p (slice_index hand kind)) every_kind
counted_kinds p hand long =
    sum_is_total (λ n. cond (p n) 1 0) hand ∙ sym (spread_total (λ n. cond (p n) 1 0) hand) ∙ same_spread (λ k. cond (p (slice_index hand k)) 1 0) 0 0 (length hand) 34 refl long
    ∙ sym (sum_range (λ k. cond (p (slice_index hand k)) 1 0) 0 34)

two_or_one : (h : ℕ) → cond (leb 1 h) 1 0 ≡ two h + one h
two_or_one h = grind (arith, nat_tests)

pub count_twos : (hand : List ℕ) (twos : ℕ) → twos ≡ count_by (λ kind. nat_le 2 (slice_index hand kind)) every_kind → twos ≡ spread (λ k. two (slice_index hand k)) 0 34
count_twos hand twos are = are ∙ sum_range (λ k. two (slice_index hand k)) 0 34

pub held_is : (hand : List ℕ) (twos held : ℕ) → twos ≡ count_by (λ kind. nat_le 2 (slice_index hand kind)) every_kind → held ≡ count_by (λ kind. nat_le 1 (slice_index hand kind)) every_kind → held ≡ twos + spread (λ k. one (slice_index hand k)) 0 34
held_is hand twos held twos_are held_are =
    omega (arith, count_twos hand twos twos_are, held_are, sum_range (λ k. cond (leb 1 (slice_index hand k)) 1 0) 0 34, spread_sum (λ k. two (slice_index hand k)) (λ k. one (slice_index hand k)) (λ k. cond (leb 1 (slice_index hand k)) 1 0) (λ k. two_or_one (slice_index hand k)) 0 34)

pub count_ones : (hand : List ℕ) (twos held : ℕ) → twos ≡ count_by (λ kind. nat_le 2 (slice_index hand kind)) every_kind → held ≡ count_by (λ kind. nat_le 1 (slice_index hand kind)) every_kind → held - twos ≡ spread (λ k. one (slice_index hand k)) 0 34
count_ones hand twos held twos_are held_are = omega (arith, held_is hand twos held twos_are held_are)
