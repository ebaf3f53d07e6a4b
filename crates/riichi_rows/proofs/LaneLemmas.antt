-- What the operations on sixteen lanes give at one lane.
use Rattle.std.proofs.Common.{◌≡◌, ℕ, zero, suc, ◌+◌, ◌-◌, ◌<◌, ◌≤◌, ◌%◌, ◌^◌, min, Bool, false, cond, List, [], ◌∷◌, ◌++◌, map, length, get_or, replicate, ltb, refl, sym, ap, ◌∙◌, arith}
use Rattle.std.proofs.Common as width
use Rattle.std.proofs.lemmas.Bool.Decides.{nat_tests}
use Rattle.std.proofs.lemmas.List.{get_or_append_left, get_or_default, get_or_at}
use Rattle.std.proofs.lemmas.Simd.{get_or-zip2, get_or-replicate, length-replicate, tops_compared, length-sel_l, get_or-sel_l, length-zip2}
use lib.Lanes.{zip2, sel_l, top}
use Rattle.riichi_rows.specs.Lanes.{at_place, lane, HasLanes, nothing, with_set, with_pair, capped}

-- what holds at each of sixteen places holds for each number of sets and pairs
pub by_place : (P : (ℕ → List ℕ → ℕ) → Type 0) → ((k : ℕ) → k < 16 → P (λ other xs. get_or xs k other)) → (s p : ℕ) → s < 8 → P (λ other xs. at_place other xs s p)
by_place P each s zero hs = each s (omega arith)
by_place P each s (suc p) hs = each (8 + s) (omega arith)

abbrev pub sixteen : ℕ → List ℕ
sixteen n = replicate 16 n

-- ---- lanes that are chosen by a test of two others

abbrev pub tested : (ℕ → ℕ → Bool) → List ℕ → List ℕ → List Bool
tested t xs ys = map (top 7) (zip2 (λ a b. cond (t a b) 255 0) xs ys)

module _ (t : ℕ → ℕ → Bool) (xs ys : List ℕ) (lx : length xs ≡ 16) (ly : length ys ≡ 16) where
  tested_is : tested t xs ys ≡ zip2 t xs ys
  tested_is = tops_compared width.w8 t xs ys

  pub length_tested : length (tested t xs ys) ≡ 16
  length_tested = ap length tested_is ∙ length-zip2 t xs ys (lx ∙ sym ly) ∙ lx

  pub tested_at : (k : ℕ) → k < 16 → get_or (tested t xs ys) k false ≡ t (get_or xs k 255) (get_or ys k 255)
  tested_at k h = ap (λ (ms : List Bool). get_or ms k false) tested_is ∙ get_or-zip2 t xs ys k 255 255 false (omega arith) (omega arith)

  module _ (us vs : List ℕ) (lu : length us ≡ 16) (lv : length vs ≡ 16) where
    pub length_chosen : length (sel_l (tested t xs ys) us vs) ≡ 16
    length_chosen = length-sel_l (tested t xs ys) us vs (length_tested ∙ sym lu) (length_tested ∙ sym lv) ∙ length_tested

    pub chosen_at : (k d : ℕ) → k < 16 → get_or (sel_l (tested t xs ys) us vs) k d ≡ cond (t (get_or xs k 255) (get_or ys k 255)) (get_or us k d) (get_or vs k d)
    chosen_at k d h =
        get_or-sel_l (tested t xs ys) us vs k d (omega (arith, length_tested, h)) (omega arith) (omega arith) ∙ ap (λ (b : Bool). cond b (get_or us k d) (get_or vs k d)) (tested_at k h)

-- ---- the lesser

abbrev pub lesser : List ℕ → List ℕ → List ℕ
lesser xs ys = sel_l (tested ltb xs ys) xs ys

cond_min : (x y : ℕ) → cond (ltb x y) x y ≡ min x y
cond_min x y = grind (arith, nat_tests)

module _ (xs ys : List ℕ) (lx : length xs ≡ 16) (ly : length ys ≡ 16) where
  pub length_lesser : length (lesser xs ys) ≡ 16
  length_lesser = length_chosen ltb xs ys lx ly xs ys lx ly

  pub lesser_at : (k : ℕ) → k < 16 → get_or (lesser xs ys) k 255 ≡ min (get_or xs k 255) (get_or ys k 255)
  lesser_at k h = chosen_at ltb xs ys lx ly xs ys lx ly k 255 h ∙ cond_min (get_or xs k 255) (get_or ys k 255)

  pub lesser_lanes : HasLanes (lesser xs ys) (λ s p. min (lane xs s p) (lane ys s p))
  lesser_lanes s p hs hp = by_place (λ at. at 255 (lesser xs ys) ≡ min (at 255 xs) (at 255 ys)) lesser_at s p (omega arith)

-- ---- a shift: places that are taken from others by their number, and 16 for none

abbrev pub picked : ℕ → List ℕ → List ℕ → List ℕ
picked other xs ks = map (λ k. get_or (xs ++ sixteen other) k 0) ks

abbrev pub set_order : List ℕ
set_order = 16 ∷ 0 ∷ 1 ∷ 2 ∷ 3 ∷ 4 ∷ 5 ∷ 6 ∷ 16 ∷ 8 ∷ 9 ∷ 10 ∷ 11 ∷ 12 ∷ 13 ∷ 14 ∷ []

abbrev pub pair_order : List ℕ
pair_order = 16 ∷ 16 ∷ 16 ∷ 16 ∷ 16 ∷ 16 ∷ 16 ∷ 16 ∷ 0 ∷ 1 ∷ 2 ∷ 3 ∷ 4 ∷ 5 ∷ 6 ∷ 7 ∷ []

module _ (other : ℕ) (xs : List ℕ) (long : length xs ≡ 16) where
  pub front : (k : ℕ) → k < 16 → get_or (xs ++ sixteen other) k 0 ≡ get_or xs k other
  front k h = get_or_append_left xs (sixteen other) 0 k (omega arith) ∙ get_or_default xs k 0 other (omega arith)

  pub seam : get_or (xs ++ sixteen other) 16 0 ≡ other
  seam = get_or_at xs other _ 0 16 long

  pub no_set : (p : ℕ) → at_place other (picked other xs set_order) zero p ≡ other
  no_set zero = seam
  no_set (suc p) = seam

  pub set_more : (s p : ℕ) → suc s < 5 → at_place other (picked other xs set_order) (suc s) p ≡ at_place other xs s p
  set_more zero zero hs = front 0 (omega arith)
  set_more zero (suc p) hs = front 8 (omega arith)
  set_more (suc zero) zero hs = front 1 (omega arith)
  set_more (suc zero) (suc p) hs = front 9 (omega arith)
  set_more (suc (suc zero)) zero hs = front 2 (omega arith)
  set_more (suc (suc zero)) (suc p) hs = front 10 (omega arith)
  set_more (suc (suc (suc zero))) zero hs = front 3 (omega arith)
  set_more (suc (suc (suc zero))) (suc p) hs = front 11 (omega arith)
  set_more (suc (suc (suc (suc s)))) p hs = absurd (omega arith)

  pub pair_moved : (s : ℕ) → s < 5 → (at_place other (picked other xs pair_order) s 0 ≡ other) × (at_place other (picked other xs pair_order) s 1 ≡ at_place other xs s 0)
  pair_moved zero hs = (seam, front 0 (omega arith))
  pair_moved (suc zero) hs = (seam, front 1 (omega arith))
  pair_moved (suc (suc zero)) hs = (seam, front 2 (omega arith))
  pair_moved (suc (suc (suc zero))) hs = (seam, front 3 (omega arith))
  pair_moved (suc (suc (suc (suc zero)))) hs = (seam, front 4 (omega arith))
  pair_moved (suc (suc (suc (suc (suc s))))) hs = absurd (omega arith)

module _ (xs : List ℕ) (long : length xs ≡ 16) where
  pub set_lanes : HasLanes (picked 255 xs set_order) (with_set (lane xs))
  set_lanes zero p hs hp = no_set 255 xs long p
  set_lanes (suc s) p hs hp = set_more 255 xs long s p hs

  pub pair_lanes : HasLanes (picked 255 xs pair_order) (with_pair (lane xs))
  pair_lanes s zero hs hp = (pair_moved 255 xs long s hs).0
  pair_lanes s (suc zero) hs hp = (pair_moved 255 xs long s hs).1
  pair_lanes s (suc (suc p)) hs hp = absurd (omega arith)

-- ---- a sum

abbrev pub raised : List ℕ → ℕ → List ℕ
raised xs n = zip2 (λ a b. (a + b) % 2 ^ 8) xs (sixteen n)

pub length_raised : (xs : List ℕ) (n : ℕ) → length xs ≡ 16 → length (raised xs n) ≡ 16
length_raised xs n lx = length-zip2 (λ a b. (a + b) % 2 ^ 8) xs (sixteen n) (lx ∙ sym (length-replicate 16 n)) ∙ lx

raised_at : (xs : List ℕ) (n : ℕ) → length xs ≡ 16 → (k : ℕ) → k < 16 → get_or (raised xs n) k 255 ≡ (get_or xs k 255 + n) % 2 ^ 8
raised_at xs n lx k h =
    let long : length (sixteen n) ≡ 16 = length-replicate 16 n in
    get_or-zip2 (λ a b. (a + b) % 2 ^ 8) xs (sixteen n) k 255 255 255 (omega arith) (omega arith) ∙ ap (λ m. (get_or xs k 255 + m) % 2 ^ 8) (get_or-replicate 16 k n 255 h)

capped_sum : (x n r : ℕ) → n ≤ 255 → r ≡ 255 - n → (min x r + n) % 2 ^ 8 ≡ capped (x + n)
capped_sum x n r h e = omega arith

-- the lesser of a lane and the room for n, and n more
pub raised_lanes : (xs kept : List ℕ) (n : ℕ) → n ≤ 255 → length kept ≡ 16 → HasLanes kept (λ s p. min (lane xs s p) (lane (sixteen (255 - n)) s p)) → HasLanes (raised kept n) (λ s p. capped (lane xs s p + n))
raised_lanes xs kept n fits long has s p hs hp =
    by_place (λ at. at 255 (raised kept n) ≡ (at 255 kept + n) % 2 ^ 8) (raised_at kept n long) s p (omega arith) ∙ ap (λ m. (m + n) % 2 ^ 8) (has s p hs hp)
    ∙ capped_sum (lane xs s p) n (lane (sixteen (255 - n)) s p) fits (by_place (λ at. at 255 (sixteen (255 - n)) ≡ 255 - n) (λ k h. get_or-replicate 16 k (255 - n) 255 h) s p (omega arith))

pub nothing_lanes : HasLanes (0 ∷ 255 ∷ 255 ∷ 255 ∷ 255 ∷ 255 ∷ 255 ∷ 255 ∷ 255 ∷ 255 ∷ 255 ∷ 255 ∷ 255 ∷ 255 ∷ 255 ∷ 255 ∷ []) nothing
nothing_lanes zero zero hs hp = refl
nothing_lanes zero (suc p) hs hp = refl
nothing_lanes (suc zero) zero hs hp = refl
nothing_lanes (suc zero) (suc p) hs hp = refl
nothing_lanes (suc (suc zero)) zero hs hp = refl
nothing_lanes (suc (suc zero)) (suc p) hs hp = refl
nothing_lanes (suc (suc (suc zero))) zero hs hp = refl
nothing_lanes (suc (suc (suc zero))) (suc p) hs hp = refl
nothing_lanes (suc (suc (suc (suc zero)))) zero hs hp = refl
nothing_lanes (suc (suc (suc (suc zero)))) (suc p) hs hp = refl
nothing_lanes (suc (suc (suc (suc (suc s))))) p hs hp = absurd (omega arith)
