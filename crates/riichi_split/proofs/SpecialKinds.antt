-- Which kinds may complete seven pairs or the orphans.
use Rattle.std.proofs.Common.{◌≡◌, ◌≢◌, ℕ, ◌+◌, ◌<◌, ◌≤◌, ◌⊎◌, IsTrue, inl, inr, List, length, get_or, refl, sym, arith}
use Rattle.std.proofs.lemmas.Bool.{cases_eq}
use Rattle.std.proofs.lemmas.Bool.Decides.{nat_tests}
use Rattle.std.proofs.lemmas.List.{get_or-set_other}
use Rattle.std.proofs.lemmas.Grind.{get_or-set_at}
use Rattle.riichi_tiles.specs.Kinds.{is_orphan}
use Rattle.riichi_tiles.specs.Forms.{orphan_copies}
use Rattle.riichi_split.specs.SpecialWaits.{IsSpecialWait, CompletesPairs, CompletesOrphans, Adds, AddsSpecial}
use Rattle.riichi_tiles.proofs.EverySet.{few-orphans}
use Rattle.riichi_tiles.proofs.KindSums.{get_or-more}

-- a kind that is neither none nor two is the one that is completed
pub single_completed : (c : List ℕ) (kind single : ℕ) → length c ≡ 34 → kind < 34 → single < 34 → get_or c single 0 ≢ 0 → get_or c single 0 ≢ 2 → CompletesPairs c kind → kind ≡ single
single_completed c kind single long small low none two s = elim (cases_eq single kind) [
  | inl e ↦ sym e
  | inr n ↦ let o = get_or-more c kind single 1 (omega (arith, long, small)) in elim (s.two_or_none single low) [
    | inl z ↦ absurd (none (grind (arith, nat_tests, o, z)))
    | inr t ↦ absurd (two (grind (arith, nat_tests, o, t)))
  ]
]

-- where each is none or two, none is completed
pub none_completed : (c : List ℕ) (kind : ℕ) → length c ≡ 34 → kind < 34 → (get_or c kind 0 ≡ 0) ⊎ (get_or c kind 0 ≡ 2) → CompletesPairs c kind → ⊥
none_completed c kind long small h s =
    let o = get_or-more c kind kind 1 (omega (arith, long, small)) in
    elim (s.two_or_none kind small) [
      | inl z ↦ elim h [ inl a ↦ grind (arith, nat_tests, o, z, a) | inr b ↦ grind (arith, nat_tests, o, z, b) ]
      | inr t ↦ elim h [ inl a ↦ grind (arith, nat_tests, o, t, a) | inr b ↦ grind (arith, nat_tests, o, t, b) ]
    ]

held-orphan : (doubled kind : ℕ) → IsTrue (is_orphan kind) → 0 < orphan_copies doubled kind
held-orphan doubled kind o = grind (arith, nat_tests, o)

-- the kind that is completed isn't one that is still lacking
lacked-completed : (c : List ℕ) (kind lacked : ℕ) → lacked < 34 → IsTrue (is_orphan lacked) → get_or c lacked 0 ≡ 0 → lacked ≢ kind → CompletesOrphans c kind → ⊥
lacked-completed c kind lacked l o z n h =
    omega (arith, get_or-set_other c kind lacked (get_or c kind 0 + 1) 0 n, h.at lacked l, z, held-orphan h.doubled lacked o)

is-orphan : (doubled kind : ℕ) → 0 < orphan_copies doubled kind → IsTrue (is_orphan kind)
is-orphan doubled kind some = grind (arith, nat_tests)

-- what completes the orphans is held beside orphans alone
pub orphans_alone : (c : List ℕ) (kind : ℕ) → length c ≡ 34 → kind < 34 → CompletesOrphans c kind → (k : ℕ) → k < 34 → 0 < get_or c k 0 → IsTrue (is_orphan k)
orphans_alone c kind long small h k low some = is-orphan h.doubled k (omega (arith, h.at k low, get_or-more c kind k 1 (omega (arith, long, small)), some))

-- a fifth copy completes nothing
pub fifth_completes_none : (c : List ℕ) (kind : ℕ) → length c ≡ 34 → 4 ≤ get_or c kind 0 → IsSpecialWait c kind → ⊥
fifth_completes_none c kind long four w =
    let o = get_or-set_at c kind kind (get_or c kind 0 + 1) 0 refl (omega (arith, long, w.0)) in
    elim w.1 [
      | inl s ↦ elim (s.two_or_none kind w.0) [ inl z ↦ omega (arith, o, z, four) | inr t ↦ omega (arith, o, t, four) ]
      | inr h ↦ omega (arith, o, h.at kind w.0, few-orphans h.doubled kind, four)
    ]

-- the kind that is completed is the one that is lacking
pub lacked_is : (c : List ℕ) (kind lacked : ℕ) → lacked < 34 → IsTrue (is_orphan lacked) → get_or c lacked 0 ≡ 0 → CompletesOrphans c kind → kind ≡ lacked
lacked_is c kind lacked l o z h = elim (cases_eq lacked kind) [ inl e ↦ sym e | inr n ↦ absurd (lacked-completed c kind lacked l o z n h) ]

pub adds_both : (c : List ℕ) (old middle marks : ℕ) → Adds (CompletesPairs c) 34 old middle → Adds (CompletesOrphans c) 34 middle marks → AddsSpecial c 34 old marks
adds_both c old middle marks pairs orphans = record {
  each = λ kind. let p = pairs.each kind in let o = orphans.each kind in (
    λ m. elim (o.0 m) [
      | inl b ↦ elim (p.0 b) [ inl a ↦ inl a | inr s ↦ inr (s.0, (s.0, inl s.1)) ]
      | inr s ↦ inr (s.0, (s.0, inr s.1))
    ],
    λ h. elim h [
      | inl a ↦ o.1 (inl (p.1 (inl a)))
      | inr s ↦ elim s.1.1 [ inl q ↦ o.1 (inl (p.1 (inr (s.0, q)))) | inr r ↦ o.1 (inr (s.0, r)) ]
    ],
  );
}
