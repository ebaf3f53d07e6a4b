-- The threads of the workers, the calls of their gates, and the questions of a starter.
use Rattle.std.proofs.Common.{◌≡◌, ℕ, suc, ◌+◌, Bool, true, List, [], ◌∷◌, ◌++◌, map, reverse, sym, refl, ap, ◌∙◌, subst, arith, append_assoc}
use Rattle.std.specs.List.{FoldsTo}
use Rattle.std.proofs.lemmas.List.{map-append, reverse-append}
use Rattle.desk_run.specs.Started.{MayStart}

-- the last one was taken away, and the first of the others put before those that were taken
pub reversed_more : {A P : Type 0} (f : P → A) (xs ys all : List A) (ps qs : List P) (x : A) (p : P) → xs ≡ ys ++ x ∷ [] → f p ≡ x → qs ≡ ps ++ p ∷ []
    → xs ++ reverse (map f ps) ≡ all → ys ++ reverse (map f qs) ≡ all
reversed_more {A} {P} f xs ys all ps qs x p e d q b =
    ap (λ (l : List P). ys ++ reverse (map f l)) q
    ∙ ap (λ (l : List A). ys ++ reverse l) (map-append f ps (p ∷ []))
    ∙ ap (λ (l : List A). ys ++ l) (reverse-append (map f ps) (f p ∷ []))
    ∙ ap (λ (y : A). ys ++ y ∷ reverse (map f ps)) d
    ∙ sym (append_assoc ys (x ∷ []) (reverse (map f ps)))
    ∙ ap (λ (l : List A). l ++ reverse (map f ps)) (sym e) ∙ b

-- one step more
pub folds_more : {P A : Type 0} (R : P → A → P → Type 0) (p q r : P) (xs : List A) (x : A) → FoldsTo R p xs q → R q x r → FoldsTo R p (xs ++ x ∷ []) r
folds_more {P} {A} R p q r [] x e h = (r, subst (λ (z : P). R z x r) (sym e) h, refl)
folds_more {P} {A} R p q r (y ∷ ys) x f h = (f.0, f.1, folds_more R f.0 q r ys x f.2 h)

-- one worker more
pub may_more : {S : Type 0} (asked : S → ℕ → Bool → S → Type 0) (n : ℕ) (a b c : S) → MayStart asked n a b → asked b n true c → MayStart asked (n + 1) a c
may_more {S} asked n a b c m h = let e : n + 1 ≡ suc n = omega arith in subst (λ (k : ℕ). MayStart asked k a c) (sym e) (b, m, h)
