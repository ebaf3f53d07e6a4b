-- One more yaku of a chain.
use Rattle.std.proofs.Common.{◌≡◌, ℕ, ◌+◌, ◌*◌, Bool, cond, ap, ◌∙◌}

pub next : {result : ℕ} (set bit : ℕ) {told is_so : Bool} → result ≡ set + bit * cond told 1 0 → told ≡ is_so → result ≡ set + bit * cond is_so 1 0
next set bit e f = e ∙ ap (λ b. set + bit * cond b 1 0) f
