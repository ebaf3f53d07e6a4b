-- Live copies once a tile has come, or gone.
use Rattle.std.proofs.Common.{◌≡◌, ◌≢◌, ℕ, ◌+◌, ◌-◌, ◌<◌, Bool, cond, eqb, List, length, refl, sym, ap, ◌∙◌, ⊎_elim, arith}
use Rattle.std.proofs.lemmas.Bool.{cases_eq, eq-eqb, ne_eqb}
use Rattle.std.specs.Prelude.{slice_index, sum_by}
use Rattle.riichi_tiles.specs.Melds.{every_kind}
use Rattle.riichi_tiles.specs.declared.meld.Meld.{Meld}
use Rattle.riichi_rows.proofs.Spread.{spread, spread_shift, spread_with, sum_range}
use Rattle.riichi_shape.specs.Accepted.{live_of, with_one, without_one}
use Rattle.riichi_shape.proofs.OneMore.{one_less}
use Rattle.riichi_deeper.proofs.DrawnLemmas.{more_here, more_other}

abbrev once : Bool → ℕ
once t = cond t 1 0

abbrev pub of_every : (ℕ → ℕ) → ℕ
of_every f = sum_by f every_kind

of_spread : (f : ℕ → ℕ) → of_every f ≡ spread f 0 34
of_spread f = sum_range f 0 34

pub every_same : (f g : ℕ → ℕ) → ((k : ℕ) → k < 34 → f k ≡ g k) → of_every f ≡ of_every g
every_same f g each = of_spread f ∙ spread_shift f g 0 0 34 (λ k low. each (0 + k) (omega arith)) ∙ sym (of_spread g)

pub every_but_one : (f g : ℕ → ℕ) (kind : ℕ) → kind < 34 → ((k : ℕ) → f k ≡ g k + cond (eqb k kind) 1 0) → of_every f ≡ of_every g + 1
every_but_one f g kind low each = of_spread f ∙ spread_with f g (λ k. 1) kind each 0 34 (omega arith) (omega arith) ∙ ap (λ n. n + 1) (sym (of_spread g))

module _ (hand : List ℕ) (melds : List Meld) (seen : List ℕ) where
  -- a tile of a kind with a live copy is drawn
  module _ (kind : ℕ) (long : kind < length hand) (some : 0 < live_of hand melds seen kind) where
    pub drawn_live : (k : ℕ) → live_of hand melds seen k ≡ live_of (with_one hand kind) melds seen k + cond (eqb k kind) 1 0
    drawn_live k = ⊎_elim here other (cases_eq k kind)
      where
        other : k ≢ kind → live_of hand melds seen k ≡ live_of (with_one hand kind) melds seen k + cond (eqb k kind) 1 0
        other ne = omega (arith, more_other hand kind k ne, ap once (ne_eqb k kind ne))

        here : k ≡ kind → live_of hand melds seen k ≡ live_of (with_one hand kind) melds seen k + cond (eqb k kind) 1 0
        here same =
            omega (arith, ap once (eq-eqb k kind same), more_here hand kind long, some, ap (live_of hand melds seen) same, ap (live_of (with_one hand kind) melds seen) same)

  -- a tile of such a kind is drawn and thrown at once
  module _ (kind : ℕ) (long : kind < length seen) (some : 0 < live_of hand melds seen kind) where
    pub passed_live : (k : ℕ) → live_of hand melds seen k ≡ live_of hand melds (with_one seen kind) k + cond (eqb k kind) 1 0
    passed_live k = ⊎_elim here other (cases_eq k kind)
      where
        other : k ≢ kind → live_of hand melds seen k ≡ live_of hand melds (with_one seen kind) k + cond (eqb k kind) 1 0
        other ne = omega (arith, more_other seen kind k ne, ap once (ne_eqb k kind ne))

        here : k ≡ kind → live_of hand melds seen k ≡ live_of hand melds (with_one seen kind) k + cond (eqb k kind) 1 0
        here same =
            omega (arith, ap once (eq-eqb k kind same), more_here seen kind long, some, ap (live_of hand melds seen) same, ap (live_of hand melds (with_one seen kind)) same)

  -- a discard is seen, so no more copies are live and no fewer
  module _ (kind : ℕ) (long : kind < length hand) (seen_long : kind < length seen) (held : 0 < slice_index hand kind) where
    pub discard_live : (k : ℕ) → live_of (without_one hand kind) melds (with_one seen kind) k ≡ live_of hand melds seen k
    discard_live k = ⊎_elim here other (cases_eq k kind)
      where
        other : k ≢ kind → live_of (without_one hand kind) melds (with_one seen kind) k ≡ live_of hand melds seen k
        other ne =
            let less = one_less hand (without_one hand kind) kind (slice_index hand kind - 1) long refl (omega (arith, held)) in
            omega (arith, less.elsewhere k ne, more_other seen kind k ne)

        here : k ≡ kind → live_of (without_one hand kind) melds (with_one seen kind) k ≡ live_of hand melds seen k
        here same =
            let less = one_less hand (without_one hand kind) kind (slice_index hand kind - 1) long refl (omega (arith, held)) in
            omega (arith, less.here, more_here seen kind seen_long, held, ap (live_of hand melds seen) same, ap (live_of (without_one hand kind) melds (with_one seen kind)) same)
