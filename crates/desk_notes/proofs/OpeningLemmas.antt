-- The first bytes of a text that comes in pieces.
use Rattle.std.proofs.Common.{◌≡◌, ℕ, zero, suc, ◌+◌, List, [], ◌∷◌, ◌++◌, take, min, length, ap, sym, ◌∙◌, arith}
use Rattle.std.proofs.lemmas.List.{take_min}

take_behind : (n room : ℕ) (old read : List ℕ) → room + length old ≡ n → take n (old ++ read) ≡ old ++ take room read
take_behind n room [] read is = let same : n ≡ room = omega (arith, is) in ap (λ (k : ℕ). take k read) same
take_behind zero room (byte ∷ old) read is = absurd (omega (arith, is))
take_behind (suc n) room (byte ∷ old) read is = ap (λ (l : List ℕ). byte ∷ l) (take_behind n room old read (omega (arith, is)))

pub front_kept : (n room : ℕ) (old read : List ℕ) → room + length old ≡ n → old ++ take (min room (length read)) read ≡ take n (old ++ read)
front_kept n room old read is = ap (λ (l : List ℕ). old ++ l) (take_min room read) ∙ sym (take_behind n room old read is)
