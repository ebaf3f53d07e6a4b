-- What a run asks before it starts its workers.
use Rattle.std.specs.Prelude.{◌≡◌, ℕ, zero, suc, ◌<◌, Bool, true, false}

-- the workers below n were asked for, in order, each once, and each may be started
abbrev pub MayStart : {S : Type 0} → (S → ℕ → Bool → S → Type 0) → ℕ → S → S → Type 0
MayStart asked zero old new = new ≡ old
MayStart {S} asked (suc n) old new = (s : S) × MayStart asked n old s × asked s n true new

-- of n workers the first may be started, the next one may not, and nothing was asked after it
abbrev pub IsStartRefused : {S : Type 0} → (S → ℕ → Bool → S → Type 0) → ℕ → S → S → Type 0
IsStartRefused {S} asked n old new = (k : ℕ) × (s : S) × (k < n) × MayStart asked k old s × asked s k false new
