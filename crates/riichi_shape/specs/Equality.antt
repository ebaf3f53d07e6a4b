-- Two lists of what a hand accepts, or of what it discards, are the same where each of their entries is.
use Rattle.std.specs.Prelude.{◌≡◌, ◌&&◌, ℕ, List, Bool, nat_eq}
use Rattle.std.proofs.Common.{ap, refl}
use Rattle.std.specs.Bool.{Decides}
use Rattle.std.specs.Cmp.Lexicographic.{pointwise}
use Rattle.std.proofs.lemmas.Bool.Decides.{Decides-and, Decides-eqb, Decides-like}
use Rattle.std.proofs.lemmas.Slice.Eq.{slice_eq-Decides}
use Rattle.riichi_shape.specs.declared.discard.Discard.{Discard}

abbrev pub live_eq : List (ℕ × ℕ) → List (ℕ × ℕ) → Bool
live_eq = pointwise (λ pair other. nat_eq pair.0 other.0 && nat_eq pair.1 other.1)

pub live_decides : (a b : List (ℕ × ℕ)) → Decides (live_eq a b) (a ≡ b)
live_decides a b =
    slice_eq-Decides (λ p q. Decides-like _ (λ e k. (e.0 k, e.1 k)) (λ e. (ap (λ r. r.0) e, ap (λ r. r.1) e)) (Decides-and _ _ (Decides-eqb p.0 q.0) (Decides-eqb p.1 q.1))) a b (live_eq a b) refl

abbrev pub discard_eq : Discard → Discard → Bool
discard_eq a b = nat_eq a.kind b.kind && live_eq a.accepted b.accepted

pub discard_decides : (a b : Discard) → Decides (discard_eq a b) (a ≡ b)
discard_decides a b =
    Decides-like (discard_eq a b) (λ p k. record { kind = p.0 k; accepted = p.1 k }) (λ e. (ap (λ d. d.kind) e, ap (λ d. d.accepted) e))
    (Decides-and _ _ (Decides-eqb a.kind b.kind) (live_decides a.accepted b.accepted))

abbrev pub discards_eq : List Discard → List Discard → Bool
discards_eq = pointwise discard_eq

pub discards_decide : (a b : List Discard) → Decides (discards_eq a b) (a ≡ b)
discards_decide a b = slice_eq-Decides discard_decides a b (discards_eq a b) refl
