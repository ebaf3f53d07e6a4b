-- Sums over lists that change at one place, and numbers of places.
use Rattle.std.proofs.Common.{◌≡◌, ℕ, zero, suc, ◌+◌, ◌*◌, ◌<◌, ◌≤◌, ◌≢◌, Bool, true, false, List, [], ◌∷◌, ◌++◌, map, set, sym, refl, ap, arith, suc-mul, mul-le-mul_right, cond, eqb, eq-eqb, ne_eqb, eqb-true, ◌⊎◌, inl, inr, replicate, get_or, Some}
use mathlib.Core.Logic.{dite}
use native.Mathlib.Decide.{dec_le}
use mathlib.Core.Option.{some, some-injective, some-ne-none}
use lib.ListN.{get_elem?}
use Rattle.std.specs.Prelude.{sum_by}
use Rattle.std.proofs.lemmas.List.Sums.{sum_by-cons, sum_by_push}
use Rattle.desk_run.specs.Counts.{one_if, same_ticket, times_listed}
use Rattle.desk_core.specs.declared.ticket.Ticket.{Ticket}
use Rattle.riichi_hand.specs.declared.job.Job.{Job}
use Rattle.desk_run.specs.declared.content.Content.TheVariants.{Empty, Offer}
use Rattle.desk_run.specs.declared.held.Held.{Held}
use Rattle.desk_run.specs.declared.place_state.PlaceState.TheVariants.{Out}

module _ {A : Type 0} (g : A → ℕ) where
  pub sum_by-changed : (l : List A) (j : ℕ) (v w : A) → get_elem? l j ≡ some v → sum_by g (set l j w) + g v ≡ sum_by g l + g w
  sum_by-changed [] j v w e = absurd (some-ne-none v (sym e))
  sum_by-changed (x ∷ xs) zero v w e = omega (arith, ap g (some-injective x v e), sum_by-cons g x xs, sum_by-cons g w xs)
  sum_by-changed (x ∷ xs) (suc j) v w e = omega (arith, sum_by-changed xs j v w e, sum_by-cons g x xs, sum_by-cons g x (set xs j w))

  pub sum_by-same : (l : List A) (j : ℕ) (v w : A) → get_elem? l j ≡ some v → g w ≡ g v → sum_by g (set l j w) ≡ sum_by g l
  sum_by-same l j v w e h = omega (arith, sum_by-changed l j v w e)

  pub term_le : (l : List A) (j : ℕ) (v : A) → get_elem? l j ≡ some v → g v ≤ sum_by g l
  term_le [] j v e = absurd (some-ne-none v (sym e))
  term_le (x ∷ xs) zero v e = omega (arith, ap g (some-injective x v e), sum_by-cons g x xs)
  term_le (x ∷ xs) (suc j) v e = omega (arith, term_le xs j v e, sum_by-cons g x xs)

  pub terms_le : (l : List A) (j k : ℕ) (v u : A) → k ≢ j → get_elem? l j ≡ some v → get_elem? l k ≡ some u → g v + g u ≤ sum_by g l
  terms_le [] j k v u n e d = absurd (some-ne-none v (sym e))
  terms_le (x ∷ xs) zero zero v u n e d = absurd (n refl)
  terms_le (x ∷ xs) zero (suc k) v u n e d = omega (arith, ap g (some-injective x v e), term_le xs k u d, sum_by-cons g x xs)
  terms_le (x ∷ xs) (suc j) zero v u n e d = omega (arith, ap g (some-injective x u d), term_le xs j v e, sum_by-cons g x xs)
  terms_le (x ∷ xs) (suc j) (suc k) v u n e d = omega (arith, terms_le xs j k v u (λ h. n (ap suc h)) e d, sum_by-cons g x xs)

pub one : (b : Bool) → b ≡ true → one_if b ≡ 1
one b e = ap one_if e

-- a function changed at one number
abbrev pub put : {A : Type 0} → (ℕ → A) → ℕ → A → ℕ → A
put f p x q = cond (eqb q p) x (f q)

pub put_here : {A : Type 0} (f : ℕ → A) (p q : ℕ) (x : A) → q ≡ p → put f p x q ≡ x
put_here f p q x e = ap (λ b. cond b x (f q)) (eq-eqb q p e)

pub put_else : {A : Type 0} (f : ℕ → A) (p q : ℕ) (x : A) → q ≢ p → put f p x q ≡ f q
put_else f p q x n = ap (λ b. cond b x (f q)) (ne_eqb q p n)

further : (x y n : ℕ) → x < y → x * n + n ≤ y * n
further x y n h = let a : suc x * n ≤ y * n = mul-le-mul_right n h in omega (arith, suc-mul x n)

-- places of two tables differ
pub apart : (t u n j k : ℕ) → t ≢ u → j < n → k < n → t * n + j ≢ u * n + k
apart t u n j k ne hj hk e =
    let a : ℕ = t * n in let b : ℕ = u * n in let e' : a + j ≡ b + k = e in
    dite (dec_le (suc t) u)
    (λ h. let m : a + n ≤ b = further t u n h in omega arith)
    (λ h. let m : b + n ≤ a = further u t n (omega arith) in omega arith)

pub within : (t u n k : ℕ) → t < u → k < n → t * n + k < u * n
within t u n k h hk = let a : ℕ = t * n in let b : ℕ = u * n in let m : a + n ≤ b = further t u n h in let r : a + k < b = omega arith in r

pub ticket_is : (x y : Ticket) → x.table ≡ y.table → x.seq ≡ y.seq → x ≡ y
ticket_is x y e d = λ i. record { table = e i; seq = d i }

pub same_is : (x y : Ticket) → same_ticket x y ≡ true → x ≡ y
same_is x y e = let t : (eqb x.table y.table ≡ true) × (eqb x.seq y.seq ≡ true) = grind arith in ticket_is x y (eqb-true x.table y.table t.0) (eqb-true x.seq y.seq t.1)

pub times_listed-push : (x y : Ticket) (l : List Ticket) → times_listed x (l ++ y ∷ []) ≡ times_listed x l + one_if (same_ticket x y)
times_listed-push x y l = sum_by_push (λ z. one_if (same_ticket x z)) l y

pub out_ticket : (x y : Ticket) (a b : Job) → Out x a ≡ Out y b → x ≡ y
out_ticket x y a b e = cc

pub out_job : (x y : Ticket) (a b : Job) → Out x a ≡ Out y b → a ≡ b
out_job x y a b e = cc

pub offer_ticket : (x y : Ticket) (a b : Job) → Offer x a ≡ Offer y b → x ≡ y
offer_ticket x y a b e = cc

pub offer_job : (x y : Ticket) (a b : Job) → Offer x a ≡ Offer y b → a ≡ b
offer_job x y a b e = cc

pub held_is : (p : ℕ) (x : Ticket) (job : Job) (h : Held) → Some (record { place = p; ticket = x; job = job }) ≡ Some h → (h.ticket ≡ x) × (h.job ≡ job)
held_is p x job h e = let g : Held = record { place = p; ticket = x; job = job } in let d : g ≡ h = cc in (ap (λ (z : Held). z.ticket) (sym d), ap (λ (z : Held). z.job) (sym d))

pub two_more : (p r : ℕ) → 2 + p ≡ 2 + r → p ≡ r
two_more p r e = omega arith

tested_by : (x y : Ticket) (b : Bool) → same_ticket x y ≡ b → ((x ≡ y) × (one_if b ≤ 1)) ⊎ (one_if b ≡ 0)
tested_by x y true e = inl (same_is x y e, omega arith)
tested_by x y false e = inr refl

pub tested : (x y : Ticket) → ((x ≡ y) × (one_if (same_ticket x y) ≤ 1)) ⊎ (one_if (same_ticket x y) ≡ 0)
tested x y = tested_by x y (same_ticket x y) refl

pub replicate_is : {A : Type 0} (n : ℕ) (a : A) (k : ℕ) (b : A) → get_elem? (replicate n a) k ≡ some b → (k < n) × (a ≡ b)
replicate_is zero a k b e = absurd (some-ne-none b (sym e))
replicate_is (suc n) a zero b e = (omega arith, some-injective a b e)
replicate_is (suc n) a (suc k) b e = let t = replicate_is n a k b e in (omega arith, t.1)

pub zeros : (n i : ℕ) → get_or {A = ℕ} (replicate n 0) i 0 ≡ 0
zeros zero i = refl
zeros (suc n) zero = refl
zeros (suc n) (suc i) = zeros n i

pub empties : (n i : ℕ) → i < n → get_elem? (map some (replicate n Empty)) i ≡ some (some Empty)
empties zero i h = absurd (omega arith)
empties (suc n) zero h = refl
empties (suc n) (suc i) h = empties n i (omega arith)
