-- From the lanes of one rank in the code to the least lacks.
use Rattle.std.proofs.Common.{◌≡◌, ℕ, zero, suc, ◌+◌, ◌-◌, ◌<◌, ◌≤◌, min, Bool, true, false, refl, List, ◌∷◌, sym, ap, ◌∙◌, arith}
use Rattle.std.proofs.Math.Nat.{le-min, le_antisymm, le_refl}
use Rattle.std.proofs.lemmas.Bool.Decides.{nat_tests}
use Rattle.std.specs.Prelude.{if◌then◌else◌, nat_lt}
use Rattle.riichi_rows.specs.Columns.{AreLeast, LeastFrom}
use Rattle.riichi_rows.specs.Lanes.{Agree, HasRoomForFour, IsFew, capped, none, with_set, with_pair}
use Rattle.riichi_rows.specs.Open.{Added, Begun, cost, IsAdded, LeastBegun}
use Rattle.riichi_rows.proofs.Steps.{row_value, LeastAfter, step}

-- ---- the better of two, joined in another order

left_below : (a b v : ℕ) → a ≤ v → min a b ≤ v
left_below a b v h = omega arith

right_below : (a b v : ℕ) → b ≤ v → min a b ≤ v
right_below a b v h = omega arith

-- by the tiles taken on the left, by the runs begun on the right
module _ (z0 z2 z3 o0 o2 o3 v0 v2 v3 : ℕ) (few : z0 ≤ 255) (none : v3 ≡ 255) where
  same_least : min (min (min (min z0 o0) (min z2 v0)) (min z3 o2)) (min o3 v2) ≡ min (min (min (min z0 z3) z2) (min (min o0 o3) o2)) (min (min v0 v3) v2)
  same_least =
      let by_tiles : ℕ = min (min (min (min z0 o0) (min z2 v0)) (min z3 o2)) (min o3 v2) in
      let beyond : by_tiles ≤ v3 = omega arith in
      le_antisymm (search (beyond, le-min, left_below, right_below, le_refl) depth 9 fits 20000) (search (le-min, left_below, right_below, le_refl) depth 9 fits 20000)

sum_lesser : (x y c : ℕ) → capped (min x y + c) ≡ min (capped (x + c)) (capped (y + c))
sum_lesser x y c = omega arith

-- ---- what a rank costs, with the hand's tiles and with one more

pub few_cost : (have limit n c : ℕ) → limit ≤ 4 → c ≡ cost have limit n → c < 255 → c ≤ 4
few_cost have limit n c few is below = grind (arith, nat_tests)

pub own_cost : (have limit n c : ℕ) → limit ≤ 4 → c ≡ cost have limit n → (if nat_lt c 255 then c - 1 else 255) ≡ cost (have + 1) limit n
own_cost have limit n c few is = grind (arith, nat_tests)

pub with_room : (lack : ℕ) → IsFew lack → HasRoomForFour lack
with_room lack few low = omega (arith, few low)

cost_above : (have limit n : ℕ) → limit < n → cost have limit n ≡ 255
cost_above have limit n h = grind (arith, nat_tests)

pub beyond_four : (v x have limit used : ℕ) → limit ≤ 4 → 4 < used → v ≤ 255 → v ≡ min v (capped (x + cost have limit used))
beyond_four v x have limit used low more most = (let c = cost_above have limit used (omega (arith, low, more)) in omega (arith, c, most))

-- ---- the values by the runs begun at the rank

abbrev values : Begun → ℕ → ℕ → ℕ → ℕ
values x zero = x.zero
values x (suc zero) = x.one
values x (suc (suc u)) = x.two

after_begun : (runs : Bool) (counts caps : List ℕ) (a : ℕ) (x : Begun) → LeastBegun runs counts caps a x → LeastAfter runs counts caps a (values x)
after_begun runs counts caps a x least = record { at = λ u s p hu may hs hp. least_at u s p hu hs hp }
  where
    least_at : (u s p : ℕ) → u < 3 → s < 5 → p < 2 → LeastFrom runs counts caps u a s p (values x u s p)
    least_at zero s p hu hs hp = least.zero_begun.at s p hs hp
    least_at (suc zero) s p hu hs hp = least.one_begun.at s p hs hp
    least_at (suc (suc zero)) s p hu hs hp = least.two_begun.at s p hs hp
    least_at (suc (suc (suc u))) s p hu hs hp = absurd (omega arith)

none_left : (a b d : ℕ) → a ≤ 255 → min (min (min (min a 255) b) d) 255 ≡ min (min a d) b
none_left a b d few = omega arith

set_none : (s p : ℕ) → with_set none s p ≡ 255
set_none zero p = refl
set_none (suc s) p = refl

pair_none : (s p : ℕ) → with_pair none s p ≡ 255
pair_none s zero = refl
pair_none s (suc p) = refl

-- the sum of an added lane with its cost
module _ (have limit : ℕ) (few : limit ≤ 4) (later : Begun) (x : Added) (w c0 c1 c2 c3 c4 : ℕ)
    (e0 : c0 ≡ cost have limit w) (e1 : c1 ≡ cost have limit (w + 1)) (e2 : c2 ≡ cost have limit (w + 2)) (e3 : c3 ≡ cost have limit (w + 3)) (e4 : c4 ≡ cost have limit (w + 4)) (s p : ℕ) (hs : s < 5) (hp : p < 2) where
  regrouped_true : IsAdded true later x → min (min (min (min (capped (x.zero s p + c0)) (capped (x.one s p + c1))) (capped (x.two s p + c2))) (capped (x.three s p + c3))) (capped (x.four s p + c4)) ≡ row_value true (values later) w have limit s p
  regrouped_true is =
      let z : ℕ → ℕ → ℕ = later.zero in
      let o : ℕ → ℕ → ℕ = with_set (later.one) in
      let t : ℕ → ℕ → ℕ = with_set (with_set (later.two)) in
      let two = ap (λ n. capped (n + c2)) (is.two_tiles s p hs hp) ∙ sum_lesser (with_pair z s p) (t s p) c2 in
      let three = ap (λ n. capped (n + c3)) (is.three_tiles s p hs hp) ∙ sum_lesser (with_set z s p) (with_pair o s p) c3 in
      let four = ap (λ n. capped (n + c4)) (is.four_tiles s p hs hp) ∙ sum_lesser (with_set o s p) (with_pair t s p) c4 in
      let zero_is = ap (λ n. capped (n + c0)) (is.no_tile s p hs hp) in
      let one_is = ap (λ n. capped (n + c1)) (is.one_tile s p hs hp) in
      let cost3 : c3 ≡ cost have limit (w + 1 + 2) = e3 ∙ ap (cost have limit) (omega arith) in
      let cost4 : c4 ≡ cost have limit (w + 1 + 3) = e4 ∙ ap (cost have limit) (omega arith) in
      let cost4' : c4 ≡ cost have limit (w + 2 + 2) = e4 ∙ ap (cost have limit) (omega arith) in
      let cost5 : capped (with_set t s p + cost have limit (w + 2 + 3)) ≡ 255 = omega (arith, cost_above have limit (w + 2 + 3) (omega arith)) in
      let same = same_least (capped (z s p + c0)) (capped (with_pair z s p + c2)) (capped (with_set z s p + c3)) (capped (o s p + c1)) (capped (with_pair o s p + c3)) (capped (with_set o s p + c4)) (capped (t s p + c2)) (capped (with_pair t s p + c4)) (capped (with_set t s p + cost have limit (w + 2 + 3))) (omega arith) cost5 in
      cc

  regrouped_false : IsAdded false later x → min (min (min (min (capped (x.zero s p + c0)) (capped (x.one s p + c1))) (capped (x.two s p + c2))) (capped (x.three s p + c3))) (capped (x.four s p + c4)) ≡ row_value false (values later) w have limit s p
  regrouped_false is =
      let z : ℕ → ℕ → ℕ = later.zero in
      let zero_is = ap (λ n. capped (n + c0)) (is.no_tile s p hs hp) in
      let one_is : capped (x.one s p + c1) ≡ 255 = omega (arith, is.one_tile s p hs hp) in
      let two_is : capped (x.two s p + c2) ≡ capped (with_pair z s p + c2) = omega (arith, is.two_tiles s p hs hp) in
      let three_is : capped (x.three s p + c3) ≡ capped (with_set z s p + c3) =
      omega (arith, is.three_tiles s p hs hp, pair_none s p) in
      let four_is : capped (x.four s p + c4) ≡ 255 = omega (arith, is.four_tiles s p hs hp, set_none s p, pair_none s p) in
      let same = none_left (capped (z s p + c0)) (capped (with_pair z s p + c2)) (capped (with_set z s p + c3)) (omega arith) in
      cc

  regrouped : (runs : Bool) → IsAdded runs later x → min (min (min (min (capped (x.zero s p + c0)) (capped (x.one s p + c1))) (capped (x.two s p + c2))) (capped (x.three s p + c3))) (capped (x.four s p + c4)) ≡ row_value runs (values later) w have limit s p
  regrouped true is = regrouped_true is
  regrouped false is = regrouped_false is

-- what takes one tile more is looked at where the others are no more than none
abbrev Better : (ℕ → ℕ → ℕ) → (ℕ → ℕ → ℕ) → (ℕ → ℕ → ℕ) → ℕ → Type 0
Better result some others c = (s p : ℕ) → s < 5 → p < 2 → some s p ≤ 255 → result s p ≡ min (some s p) (capped (others s p + c))

pub lanes_of_rank : (runs : Bool) (counts caps : List ℕ) (a b w have limit : ℕ) → a + b ≡ w → limit ≤ 4 → (later : Begun) (x : Added) → IsAdded runs later x → LeastBegun runs counts caps a later → (plain one two three result : ℕ → ℕ → ℕ) →
    Agree plain (λ s p. capped (x.zero s p + cost have limit w)) → Better one plain x.one (cost have limit (w + 1)) → Better two one x.two (cost have limit (w + 2)) →
    Better three two x.three (cost have limit (w + 3)) → Better result three x.four (cost have limit (w + 4)) → AreLeast runs (have ∷ counts) (limit ∷ caps) a b result
lanes_of_rank runs counts caps a b w have limit sum few later x is least plain one two three result plain_is one_is two_is three_is result_is = record { at = at_lane }
  where
    value : (s p : ℕ) → s < 5 → p < 2 → result s p ≡ row_value runs (values later) w have limit s p
    value s p hs hp =
        let e0 = plain_is s p hs hp in
        let m0 : plain s p ≤ 255 = omega (arith, e0) in
        let e1 = one_is s p hs hp m0 in
        let m1 : one s p ≤ 255 = omega (arith, e1, m0) in
        let e2 = two_is s p hs hp m1 in
        let m2 : two s p ≤ 255 = omega (arith, e2, m1) in
        let e3 = three_is s p hs hp m2 in
        let m3 : three s p ≤ 255 = omega (arith, e3, m2) in
        let e4 = result_is s p hs hp m3 in
        let same = regrouped have limit few later x w _ _ _ _ _ refl refl refl refl refl s p hs hp runs is in
        cc

    at_lane : (s p : ℕ) → s < 5 → p < 2 → LeastFrom runs (have ∷ counts) (limit ∷ caps) a b s p (result s p)
    at_lane s p hs hp =
        step runs counts caps a b have limit (values later) few (after_begun runs counts caps a later least) s p (result s p) hs hp
        (value s p hs hp ∙ ap (λ n. row_value runs (values later) n have limit s p) (sym sum))
