-- How the withdrawn jobs at the front of a window are passed.
use Rattle.std.proofs.Common.{◌≡◌, ℕ, ◌+◌, ◌<◌, ◌≤◌, Bool, true, false, cond, List, [], ◌∷◌, length, drop, refl, sym, ap, ◌∙◌, subst, ⊎_elim, arith, length-drop}
use Rattle.std.specs.Prelude.{◌||◌, ◌==◌}
use Rattle.std.specs.List.{list_any}
use Rattle.std.specs.Ordering.{nat_cmp, eq_by_cmp}
use Rattle.std.specs.Cmp.{unsigned_tied}
use Rattle.std.proofs.lemmas.Bool.{cases_lt, cases_eq, ne_eqb}
use Rattle.std.proofs.lemmas.List.{drop-drop}
use Rattle.desk_core.specs.LaneState.{LaneState, is_among}

-- some withdrawn jobs at the front are passed, and maybe not all
pub record HasPassed (old new : LaneState) : Type 0 where
  pub count : ℕ
  pub within : count ≤ length old.window
  pub each : (i : ℕ) → i < count → is_among old.withdrawn (old.next + i) ≡ true
  pub new_is : new ≡ record old { next = old.next + count; window = drop count old.window }

pub HasPassed-one : (old mid : LaneState) → HasPassed old mid → 0 < length mid.window → is_among mid.withdrawn mid.next ≡ true → HasPassed old (record mid { next = mid.next + 1; window = drop 1 mid.window })
HasPassed-one old mid passed more gone =
    let n = passed.count in
    let next_is : mid.next ≡ old.next + n = ap (λ (l : LaneState). l.next) passed.new_is in
    let window_is : mid.window ≡ drop n old.window = ap (λ (l : LaneState). l.window) passed.new_is in
    let withdrawn_is : mid.withdrawn ≡ old.withdrawn = ap (λ (l : LaneState). l.withdrawn) passed.new_is in
    let here : is_among old.withdrawn (old.next + n) ≡ true = ap (λ w. is_among w (old.next + n)) (sym withdrawn_is) ∙ ap (is_among mid.withdrawn) (sym next_is) ∙ gone in
    let number : old.next + n + 1 ≡ old.next + (n + 1) = omega arith in
    record {
      count = n + 1;
      within = omega (arith, more, ap length window_is, length-drop n old.window);
      each = λ i below. ⊎_elim (λ before. passed.each i before) (λ last. let same : n ≡ i = omega arith in subst (λ m. is_among old.withdrawn (old.next + m) ≡ true) same here) (cases_lt i n);
      new_is =
          ap (λ (l : LaneState). record l { next = l.next + 1; window = drop 1 l.window }) passed.new_is
          ∙ ap (λ m. record old { next = m; window = drop 1 (drop n old.window) }) number
          ∙ ap (λ w. record old { next = old.next + (n + 1); window = w }) (drop-drop 1 n old.window);
    }

-- the numbers of an ordered set
pub among_contains : (keys : List ℕ) (number : ℕ) → list_any (eq_by_cmp nat_cmp number) keys ≡ is_among keys number
among_contains [] number = refl
among_contains (x ∷ keys) number =
    ap (λ b. b || list_any (eq_by_cmp nat_cmp number) keys) (unsigned_tied number x)
    ∙ ap (λ b. (number == x) || b) (among_contains keys number)

-- an ordered set with one more number
pub among-added : (old new : List ℕ) (number : ℕ) → ((q : ℕ) → list_any (eq_by_cmp nat_cmp q) new ≡ cond (eq_by_cmp nat_cmp number q) true (list_any (eq_by_cmp nat_cmp q) old)) → (i : ℕ) → is_among new i ≡ (is_among old i || (i == number))
among-added old new number updated i =
    sym (among_contains new i) ∙ updated i
    ∙ ap (λ b. cond (eq_by_cmp nat_cmp number i) true b) (among_contains old i)
    ∙ ap (λ b. cond b true (is_among old i)) (unsigned_tied number i ∙ eqb-sym number i)
    ∙ either_way (i == number) (is_among old i)
  where
    either_way : (a b : Bool) → cond a true b ≡ (b || a)
    either_way true true = refl
    either_way false true = refl
    either_way _ _ = refl

    eqb-sym : (m n : ℕ) → (m == n) ≡ (n == m)
    eqb-sym m n = ⊎_elim (λ same. rw same refl) (λ differ. ne_eqb m n differ ∙ sym (ne_eqb n m (λ e. differ (sym e)))) (cases_eq m n)

-- a number that the set has not
pub not-among : (b : Bool) (keys : List ℕ) (number : ℕ) → list_any (eq_by_cmp nat_cmp number) keys ≡ b → is_among keys number ≡ b
not-among b keys number same = sym (among_contains keys number) ∙ same
