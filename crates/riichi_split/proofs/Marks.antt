-- The marks of the kinds that a hand waits for.
use Rattle.std.proofs.Common.{ap, ◌≡◌, ℕ, ◌+◌, ◌*◌, ◌<◌, ◌≤◌, ◌↔◌, true, false, List, length, get_or, refl, sym, ◌∙◌, arith, ltb, IsTrue, inl, inr}
use Rattle.std.proofs.lemmas.Bool.{cases_lt, and_parts, and_from, both_ways, ltb-true, lt-ltb}
use Rattle.std.proofs.lemmas.Bool.Decides.{nat_tests, same_from_decides}
use Rattle.std.proofs.lemmas.List.{nil_from_length, length-set}
use Rattle.std.proofs.lemmas.Grind.{get_or-set_at}
use Rattle.riichi_tiles.specs.HeldKinds.{is_held, IsMarked}
use Rattle.riichi_tiles.specs.Tiles.{IsCounts}
use Rattle.riichi_tiles.proofs.KindSets.{same_set, where_at, where_past}
use Rattle.riichi_hand.specs.HandParts.{HandParts}
use Rattle.riichi_hand.proofs.OutcomeLemmas.{no_faults}
use Rattle.riichi_hand.specs.Hand.{copies_held, size, is_thirteen, has_five_copies, IsHand}
use Rattle.std.specs.List.{sum}
use Rattle.riichi_tiles.specs.Melds.{tiles}
use Rattle.riichi_tiles.specs.declared.meld.Meld.{Meld}
use Rattle.riichi_split.specs.SpecialWaits.{AddsSpecial}
use Rattle.riichi_split.specs.Winning.{HasReading, HasSplit}
use Rattle.riichi_split.proofs.SpecialKinds.{fifth_completes_none}
use Rattle.riichi_split.specs.Waits.{with_one, IsWait, is_wait, waits_of}
use Rattle.riichi_split.specs.ReadingsOf.{readings_of}
use Rattle.riichi_split.proofs.AnyTile.{HasShape, some-reading, reading-iff}
use Rattle.riichi_split.proofs.EveryReading.{every_reading}

-- ---- one kind

length-with_one : (counts : List ℕ) (kind : ℕ) → length (with_one counts kind) ≡ length counts
length-with_one counts kind = simp length-set

held-with_one : (counts : List ℕ) (kind : ℕ) → kind < length counts → 0 < get_or (with_one counts kind) kind 0
held-with_one counts kind l = let e = get_or-set_at counts kind kind (get_or counts kind 0 + 1) 0 refl l in omega (arith, e)

reading-test : (hand : HandParts) (kind : ℕ) → IsCounts hand.concealed → length hand.melds ≤ 4 → IsTrue (ltb 0 (length (readings_of (with_one hand.concealed kind) (length hand.melds) kind))) ↔ HasReading (with_one hand.concealed kind) (length hand.melds) kind
reading-test hand kind counts few =
    some-reading (with_one hand.concealed kind) (length hand.melds) kind (readings_of (with_one hand.concealed kind) (length hand.melds) kind)
    (every_reading (with_one hand.concealed kind) (length hand.melds) kind (length-with_one hand.concealed kind ∙ counts.each_kind) few)

is_wait-iff : (hand : HandParts) (kind : ℕ) → kind < 34 → IsCounts hand.concealed → length hand.melds ≤ 4 → (is_wait hand kind ≡ true) ↔ IsWait hand kind
is_wait-iff hand kind l counts few =
    let some = ltb 0 (length (readings_of (with_one hand.concealed kind) (length hand.melds) kind)) in
    let held = ltb (copies_held hand.concealed hand.melds kind) 4 in
    let test = reading-test hand kind counts few in (
      λ t. let p = and_parts held some t in record { of_a_kind = l; some_left = ltb-true (copies_held hand.concealed hand.melds kind) 4 p.0; completes = test.0 p.1 },
      λ w. and_from held some (lt-ltb (copies_held hand.concealed hand.melds kind) 4 w.some_left) (test.1 w.completes),
    )

-- ---- all kinds

pub mark_of : (hand : HandParts) (kind : ℕ) → kind < 34 → is_held (waits_of hand) kind ≡ is_wait hand kind
unfolding waits_of
mark_of hand kind l = where_at (is_wait hand) kind l

past_kinds : (hand : HandParts) (kind : ℕ) → 34 ≤ kind → is_held (waits_of hand) kind ≡ false
unfolding waits_of
past_kinds hand kind past = where_past (is_wait hand) kind past

pub marked-iff : (hand : HandParts) (kind : ℕ) → IsCounts hand.concealed → length hand.melds ≤ 4 → IsMarked (waits_of hand) kind ↔ IsWait hand kind
marked-iff hand kind counts few =
    elim (cases_lt kind 34) [
      | inl l ↦ let i = is_wait-iff hand kind l counts few in (λ t. i.0 (sym (mark_of hand kind l) ∙ t), λ w. mark_of hand kind l ∙ i.1 w)
      | inr g ↦ (λ t. absurd (both_ways _ (past_kinds hand kind g) t), λ w. absurd (omega (arith, g, w.of_a_kind)))
    ]

-- a set of just the waits
pub all_marked : (hand : HandParts) (marks : ℕ) → IsCounts hand.concealed → length hand.melds ≤ 4 → ((kind : ℕ) → IsMarked marks kind ↔ IsWait hand kind) → marks ≡ waits_of hand
all_marked hand marks counts few each = same_set marks (waits_of hand) (λ kind. same_from_decides (is_held marks kind) (is_held (waits_of hand) kind) (each kind) (marked-iff hand kind counts few))

-- ---- the three shapes

-- a wait makes one of them
wait-shape : (hand : HandParts) (kind : ℕ) → IsCounts hand.concealed → IsWait hand kind ↔ ((kind < 34) × (copies_held hand.concealed hand.melds kind < 4) × HasShape (with_one hand.concealed kind) (length hand.melds))
wait-shape hand kind counts =
    let i = λ (l : kind < 34). reading-iff (with_one hand.concealed kind) (length hand.melds) kind (length-with_one hand.concealed kind ∙ counts.each_kind) (held-with_one hand.concealed kind (omega (arith, counts.each_kind))) in (
      λ w. (w.of_a_kind, w.some_left, (i w.of_a_kind).1 w.completes),
      λ h. record { of_a_kind = h.0; some_left = h.1; completes = (i h.0).0 h.2 },
    )

-- the kinds that complete sets and a pair
abbrev pub AreStandard : HandParts → ℕ → Type 0
AreStandard hand marks = (kind : ℕ) → IsMarked marks kind ↔ ((kind < 34) × (get_or hand.concealed kind 0 < 4) × HasSplit (with_one hand.concealed kind) (length hand.melds))

-- without melds
pub closed-waits : (hand : HandParts) (old marks : ℕ) → IsCounts hand.concealed → length hand.melds ≡ 0 → AreStandard hand old → AddsSpecial hand.concealed 34 old marks → (kind : ℕ) → IsMarked marks kind ↔ IsWait hand kind
closed-waits hand old marks counts none standard adds kind =
    let s = wait-shape hand kind counts in
    let a = adds.each kind in
    let o = standard kind in
    let t : tiles hand.melds kind ≡ 0 = ap (λ (melds : List Meld). tiles melds kind) (nil_from_length hand.melds none) in (
      λ m. elim (a.0 m) [
        | inl b ↦ let h = o.0 b in s.1 (h.0, omega (arith, h.1, t), inl h.2)
        | inr w ↦ elim (cases_lt (get_or hand.concealed kind 0) 4) [
          | inl l ↦ s.1 (w.1.0, omega (arith, l, t), inr (elim w.1.1 [ inl pairs ↦ inl (none, pairs) | inr orphans ↦ inr (none, orphans) ]))
          | inr four ↦ absurd (fifth_completes_none hand.concealed kind counts.each_kind four w.1)
        ]
      ],
      λ w. let h = s.0 w in a.1 (elim h.2 [
        | inl split ↦ inl (o.1 (h.0, omega (arith, h.1, t), split))
        | inr special ↦ inr (h.0, (h.0, elim special [ inl pairs ↦ inl pairs.1 | inr orphans ↦ inr orphans.1 ]))
      ]),
    )

-- beside melds
pub open-waits : (hand : HandParts) (old marks : ℕ) → IsCounts hand.concealed → 0 < length hand.melds → AreStandard hand old → ((kind : ℕ) → IsMarked marks kind ↔ ((kind < 34) × IsMarked old kind × (copies_held hand.concealed hand.melds kind < 4))) → (kind : ℕ) → IsMarked marks kind ↔ IsWait hand kind
open-waits hand old marks counts some standard left kind =
    let s = wait-shape hand kind counts in
    let o = standard kind in
    let i = left kind in (
      λ m. let h = i.0 m in let b = o.0 h.1 in s.1 (b.0, h.2, inl b.2),
      λ w. let h = s.0 w in i.1 (
        h.0,
        o.1 (
          h.0,
          omega (arith, h.1),
          elim h.2 [
            | inl split ↦ split
            | inr special ↦ absurd (elim special [ inl pairs ↦ omega (arith, pairs.0, some) | inr orphans ↦ omega (arith, orphans.0, some) ])
          ],
        ),
        h.1,
      ),
    )

pub thirteen_tiles : (hand : HandParts) → IsHand hand → sum hand.concealed + 3 * length hand.melds ≡ 13
thirteen_tiles hand h =
    let t : is_thirteen hand.concealed hand.melds ≡ true = (no_faults (is_thirteen hand.concealed hand.melds) (has_five_copies hand.concealed hand.melds) h).0 in
    let e : size hand.concealed hand.melds ≡ 13 = grind (arith, nat_tests) in
    e

pub few_melds : (hand : HandParts) → IsHand hand → length hand.melds ≤ 4
few_melds hand h = let e = thirteen_tiles hand h in omega (arith, e)
