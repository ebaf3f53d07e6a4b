-- Kinds put into a set one by one, from the lowest on.
use Rattle.std.proofs.Common.{◌≡◌, ℕ, zero, suc, ◌+◌, ◌*◌, ◌<◌, ◌≤◌, ◌↔◌, min, inl, inr, List, [], ◌∷◌, refl, sym, ap, ◌∙◌, subst, arith}
use Rattle.std.proofs.lemmas.Bool.{cases_lt, cases_eq, both_ways}
use Rattle.std.specs.Prelude.{slice_index_or}
use Rattle.riichi_tiles.specs.Kinds.{first_of, kinds_of}
use Rattle.riichi_tiles.specs.declared.suit.Suit.{Suit}
use Rattle.riichi_tiles.specs.declared.suit.Suit.TheVariants.{Characters, Circles, Bamboos, Honours}
use Rattle.riichi_tiles.specs.HeldKinds.{is_held, with_kind, IsMarked}
use Rattle.riichi_tiles.proofs.KindSets.{none_at, with_kind_other, with_kind_same}
use Rattle.riichi_split.specs.Marks.{Adds, MarksBelow}

pub adds_none : (P : ℕ → Type 0) (number marks : ℕ) → ((kind : ℕ) → kind < number → P kind → ⊥) → Adds P number marks marks
adds_none P number marks none = record {
  each = λ kind. (λ m. inl m, λ h. elim h [ inl m ↦ m | inr s ↦ absurd (none kind s.0 s.1) ]);
}

pub adds-yes : (P : ℕ → Type 0) (number old marks : ℕ) → P number → Adds P number old marks → Adds P (number + 1) old (with_kind marks number)
adds-yes P number old marks w a = record {
  each = λ kind. elim (cases_eq kind number) [
    | inl e ↦ (λ m. inr (omega arith, subst P (sym e) w), λ h. ap (is_held (with_kind marks number)) e ∙ with_kind_same marks number)
    | inr n ↦
        let o = with_kind_other marks number kind n in
        let i = a.each kind in (
          λ m. elim (i.0 (sym o ∙ m)) [ inl b ↦ inl b | inr s ↦ inr (omega (arith, s.0), s.1) ],
          λ h. o ∙ i.1 (elim h [ inl b ↦ inl b | inr s ↦ inr (omega (arith, s.0, n), s.1) ]),
        )
  ];
}

-- no further kind is so
pub adds-to : (P : ℕ → Type 0) (number end old marks : ℕ) → number ≤ end → ((kind : ℕ) → number ≤ kind → kind < end → P kind → ⊥) → Adds P number old marks → Adds P end old marks
adds-to P number end old marks order none a = record {
  each = λ kind. let i = a.each kind in (
    λ m. elim (i.0 m) [ inl b ↦ inl b | inr s ↦ inr (omega (arith, s.0, order), s.1) ],
    λ h. i.1 (elim h [
      | inl b ↦ inl b
      | inr s ↦ elim (cases_lt kind number) [ inl l ↦ inr (l, s.1) | inr g ↦ absurd (none kind g s.0 s.1) ]
    ]),
  );
}

-- just one kind is so
pub adds_one : (P : ℕ → Type 0) (only marks : ℕ) → only < 34 → P only → ((kind : ℕ) → kind < 34 → P kind → kind ≡ only) → Adds P 34 marks (with_kind marks only)
adds_one P only marks small w one =
    adds-to P (only + 1) 34 marks (with_kind marks only) (omega (arith, small)) (λ kind low high p. omega (arith, low, one kind high p))
    (adds-yes P only marks marks w (adds_none P only marks (λ kind low p. omega (arith, low, one kind (omega (arith, low, small)) p))))

-- ---- where no kind was in it

-- of all kinds, where it holds of kinds alone
pub marked-all : (P : ℕ → Type 0) (marks : ℕ) → ((kind : ℕ) → P kind → kind < 34) → MarksBelow P 34 marks → (kind : ℕ) → IsMarked marks kind ↔ P kind
marked-all P marks kinds m kind = let i = m.each kind in (
  λ t. elim (i.0 t) [ inl was ↦ absurd (both_ways _ (none_at kind) was) | inr so ↦ so.1 ],
  λ p. i.1 (inr (kinds kind p, p)),
)

-- ---- suit by suit

abbrev pub every_suit : List Suit
every_suit = Characters ∷ Circles ∷ Bamboos ∷ Honours ∷ []

-- the suits before one have nine kinds each
suit_place : (i : ℕ) → i < 4 → (let suit = slice_index_or every_suit i Characters in (min (9 * i) 34 ≡ first_of suit) × (first_of suit + kinds_of suit ≡ min (9 * (i + 1)) 34))
suit_place zero few = (refl, refl)
suit_place (suc zero) few = (refl, refl)
suit_place (suc (suc zero)) few = (refl, refl)
suit_place (suc (suc (suc zero))) few = (refl, refl)
suit_place (suc (suc (suc (suc i)))) few = absurd (omega arith)

pub marked_before : (P : ℕ → Type 0) (i marks : ℕ) → i < 4 → MarksBelow P (min (9 * i) 34) marks → MarksBelow P (first_of (slice_index_or every_suit i Characters)) marks
marked_before P i marks few m = subst (λ (n : ℕ). MarksBelow P n marks) (suit_place i few).0 m

pub marked_with : (P : ℕ → Type 0) (i marks : ℕ) → i < 4 → (let suit = slice_index_or every_suit i Characters in MarksBelow P (first_of suit + kinds_of suit) marks → MarksBelow P (min (9 * (i + 1)) 34) marks)
marked_with P i marks few m = subst (λ (n : ℕ). MarksBelow P n marks) (suit_place i few).1 m
