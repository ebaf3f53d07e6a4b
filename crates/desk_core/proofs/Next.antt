-- The ticket whose answer is given next.
use Rattle.std.proofs.Common.{◌≡◌, ℕ, zero, suc, ◌+◌, ◌<◌, ◌≤◌, Bool, true, false, cond, List, [], ◌∷◌, length, refl, sym, ◌∙◌, subst, ⊎_elim, arith, zero-add}
use Rattle.std.specs.List.{take_while, enumerate_from}
use Rattle.std.proofs.lemmas.Bool.{cases_lt, false≢true}
use Rattle.std.proofs.lemmas.List.Sums.{take_while-cons}
use Rattle.desk_core.specs.History.{Turn, submitted, is_done, next_ticket}

-- of so many numbers from k on, n is how many at the front pass
record IsFront (test : ℕ → Bool) (k n size : ℕ) : Type 0 where
  pub within : n ≤ size
  pub before : (i : ℕ) → i < n → test (k + i) ≡ true
  pub stops : n < size → test (k + n) ≡ false

passes_from : (test : ℕ → Bool) (k n : ℕ) → test k ≡ true → ((i : ℕ) → i < n → test (k + 1 + i) ≡ true) → (i : ℕ) → i < suc n → test (k + i) ≡ true
passes_from test k n here rest zero below = let same : k ≡ k + 0 = omega arith in subst (λ m. test m ≡ true) same here
passes_from test k n here rest (suc i) below = let same : k + 1 + i ≡ k + suc i = omega arith in subst (λ m. test m ≡ true) same (rest i (omega arith))

IsFront-cons : {X : Type 0} (test : ℕ → Bool) (k size : ℕ) (x : X) (rest : List (ℕ × X)) → IsFront test (k + 1) (length rest) size → (b : Bool) → test k ≡ b → IsFront test k (length (cond b ((k, x) ∷ rest) [])) (suc size)
IsFront-cons test k size x rest front false here =
    record { within = omega arith; before = λ i below. absurd (omega arith); stops = λ below. let same : k ≡ k + 0 = omega arith in subst (λ m. test m ≡ false) same here }
IsFront-cons test k size x rest front true here = record {
  within = omega (arith, front.within);
  before = passes_from test k (length rest) here front.before;
  stops = λ below. let same : k + 1 + length rest ≡ k + suc (length rest) = omega arith in subst (λ m. test m ≡ false) same (front.stops (omega arith));
}

IsFront-numbered : {X : Type 0} (test : ℕ → Bool) (k : ℕ) (xs : List X) → IsFront test k (length (take_while (λ (numbered : ℕ × X). test numbered.0) (enumerate_from k xs))) (length xs)
IsFront-numbered test k [] = record { within = omega arith; before = λ i below. absurd (omega arith); stops = λ below. absurd (omega arith) }
IsFront-numbered {X = X} test k (x ∷ xs) =
    rw (take_while-cons (λ (numbered : ℕ × X). test numbered.0) (k, x) (enumerate_from (k + 1) xs))
    (IsFront-cons test k (length xs) x (take_while (λ (numbered : ℕ × X). test numbered.0) (enumerate_from (k + 1) xs)) (IsFront-numbered test (k + 1) xs) (test k) refl)

-- each ticket before n is given or withdrawn, and n is not, where there is such a ticket
pub record IsNext (turns : List Turn) (n : ℕ) : Type 0 where
  pub within : n ≤ length (submitted turns)
  pub before : (i : ℕ) → i < n → is_done turns i ≡ true
  pub stops : n < length (submitted turns) → is_done turns n ≡ false

pub IsNext-next_ticket : (turns : List Turn) → IsNext turns (next_ticket turns)
IsNext-next_ticket turns =
    let front : IsFront (is_done turns) 0 (next_ticket turns) (length (submitted turns)) = IsFront-numbered (is_done turns) 0 (submitted turns) in
    record {
      within = front.within;
      before = λ i below. subst (λ m. is_done turns m ≡ true) (zero-add i) (front.before i below);
      stops = λ below. subst (λ m. is_done turns m ≡ false) (zero-add (next_ticket turns)) (front.stops below);
    }

not_below : (turns : List Turn) (m n : ℕ) → IsNext turns m → IsNext turns n → n ≤ m
not_below turns m n one other =
    ⊎_elim (λ below. absurd (false≢true (sym (one.stops (omega (arith, other.within))) ∙ other.before m below)))
    (λ past. past) (cases_lt m n)

-- there is one alone
pub IsNext-is : (turns : List Turn) (n : ℕ) → IsNext turns n → n ≡ next_ticket turns
IsNext-is turns n next =
    let one = not_below turns n (next_ticket turns) next (IsNext-next_ticket turns) in
    let other = not_below turns (next_ticket turns) n (IsNext-next_ticket turns) next in
    omega arith
