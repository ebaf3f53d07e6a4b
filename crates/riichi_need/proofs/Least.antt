-- The least of several sets of numbers.
use Rattle.std.proofs.Common.{◌≡◌, ℕ, ◌+◌, ◌<◌, ◌⊎◌, inl, inr, min, Bool, true, false, ◌&&◌, if◌then◌else◌, refl, sym, ap, subst, ◌∙◌, arith}
use Rattle.std.specs.Prelude.{Option, Some, None, slice_index}
use Rattle.std.proofs.lemmas.Bool.{cases_lt}
use Rattle.riichi_hand.specs.Rules.{Rules}
use Rattle.riichi_hand.specs.declared.win.By.{By}
use Rattle.riichi_score.specs.Base.{base_of}
use Rattle.riichi_game.specs.Values.{occurs}
use Rattle.riichi_need.specs.Rows.{all_fu}
use Rattle.riichi_need.specs.Needs.{IsLeast, lesser, base_passing}

-- the least of two sets together
pub of_both : (P Q : ℕ → Type 0) (passes : ℕ → Bool) (one other : Option ℕ) → IsLeast P passes one → IsLeast Q passes other
    → IsLeast (λ base. P base ⊎ Q base) passes (lesser one other)
of_both P Q passes None None h k = λ base or. elim or [ inl p ↦ h base p | inr q ↦ k base q ]
of_both P Q passes None (Some y) h k =
    (inr k.0, k.1, λ base or e. elim or [ inl p ↦ (let no = h base p in absurd (cc)) | inr q ↦ k.2 base q e ])
of_both P Q passes (Some x) None h k =
    (inl h.0, h.1, λ base or e. elim or [ inl p ↦ h.2 base p e | inr q ↦ (let no = k base q in absurd (cc)) ])
of_both P Q passes (Some x) (Some y) h k =
    let Both : ℕ → Type 0 = λ least. IsLeast (λ base. P base ⊎ Q base) passes (Some least) in
    elim (cases_lt x y) [
      | inl lt ↦ (let e : x ≡ min x y = omega arith in
          subst Both e (inl h.0, h.1, λ base or t. elim or [ inl p ↦ h.2 base p t | inr q ↦ (let l = k.2 base q t in omega arith) ]))
      | inr le ↦ (let e : y ≡ min x y = omega arith in
          subst Both e (inr k.0, k.1, λ base or t. elim or [ inl p ↦ (let l = h.2 base p t in omega arith) | inr q ↦ k.2 base q t ]))
    ]

-- the least of the same numbers
pub of_same : (P Q : ℕ → Type 0) (passes : ℕ → Bool) (least : Option ℕ) → ((base : ℕ) → P base → Q base) → ((base : ℕ) → Q base → P base)
    → IsLeast P passes least → IsLeast Q passes least
of_same P Q passes None there back h = λ base q. h base (back base q)
of_same P Q passes (Some least) there back h = (there least h.0, h.1, λ base q. h.2 base (back base q))

single : (hand passed : Bool) (passes : ℕ → Bool) (b : ℕ) → passes b ≡ passed
    → IsLeast (λ base. (hand ≡ true) × (b ≡ base)) passes (if hand && passed then Some b else None)
single true true passes b e = ((refl, refl), e, λ base p t. let same = p.1 in omega arith)
single true false passes b e = λ base p. ap passes (sym p.1) ∙ e
single false passed passes b e = λ base p. absurd (let no = p.0 in cc)

-- of the first fu, some hand has these base points
abbrev pub IsRowBelow : Rules → By → ℕ → ℕ → ℕ → Type 0
IsRowBelow rules by han fus base =
    (k : ℕ) × (k < fus) × (occurs rules by han (slice_index all_fu k) ≡ true) × (base_of rules han (slice_index all_fu k) ≡ base)

abbrev IsRowAt : Rules → By → ℕ → ℕ → ℕ → Type 0
IsRowAt rules by han fu base = (occurs rules by han fu ≡ true) × (base_of rules han fu ≡ base)

split_last : (rules : Rules) (by : By) (han fus base : ℕ) → IsRowBelow rules by han (fus + 1) base
    → IsRowBelow rules by han fus base ⊎ IsRowAt rules by han (slice_index all_fu fus) base
split_last rules by han fus base h =
    elim (cases_lt h.0 fus) [
      | inl lt ↦ inl (h.0, lt, h.2, h.3)
      | inr le ↦ (let e : h.0 ≡ fus = (let l = h.1 in omega arith) in
          inr (subst (λ (k : ℕ). IsRowAt rules by han (slice_index all_fu k) base) e (h.2, h.3)))
    ]

add_last : (rules : Rules) (by : By) (han fus base : ℕ)
    → IsRowBelow rules by han fus base ⊎ IsRowAt rules by han (slice_index all_fu fus) base → IsRowBelow rules by han (fus + 1) base
add_last rules by han fus base (inl h) = (h.0, (let l = h.1 in omega arith), h.2, h.3)
add_last rules by han fus base (inr h) = (fus, omega arith, h.0, h.1)

-- with one fu more
pub with_next : (rules : Rules) (by : By) (passes : ℕ → Bool) (han fus : ℕ) (least : Option ℕ) → IsLeast (IsRowBelow rules by han fus) passes least
    → IsLeast (IsRowBelow rules by han (fus + 1)) passes (lesser least (base_passing rules by passes han (slice_index all_fu fus)))
with_next rules by passes han fus least h =
    let fu = slice_index all_fu fus in
    let base = base_of rules han fu in
    let last = single (occurs rules by han fu) (passes base) passes base refl in
    of_same (λ n. IsRowBelow rules by han fus n ⊎ IsRowAt rules by han fu n) (IsRowBelow rules by han (fus + 1)) passes _
    (add_last rules by han fus) (split_last rules by han fus)
    (of_both (IsRowBelow rules by han fus) (IsRowAt rules by han fu) passes least _ h last)

pub of_lesser : (P Q : ℕ → Type 0) (passes : ℕ → Bool) (one other least : Option ℕ) → least ≡ lesser one other → IsLeast P passes one → IsLeast Q passes other
    → IsLeast (λ base. P base ⊎ Q base) passes least
of_lesser P Q passes one other least e h k =
    subst (λ (r : Option ℕ). IsLeast (λ base. P base ⊎ Q base) passes r) (sym e) (of_both P Q passes one other h k)
