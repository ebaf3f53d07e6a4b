-- Sets of kinds as numbers.
use Rattle.std.proofs.Common.{◌≡◌, ℕ, ◌+◌, ◌-◌, ◌*◌, ◌<◌, ◌≤◌, Bool, true, false, List, get_or, length, refl, sym, ap, ◌∙◌, arith, bit_and}
use Rattle.std.proofs.lemmas.List.{ext_get_or}
use Rattle.std.proofs.lemmas.List.FromFn.{get_or-map-range_with_len, length-map-range_with_len}
use Rattle.std.proofs.lemmas.Nat.Bits.{bit_at_cat_high, bit_at_cat_low, bit_at_ones}
use Rattle.std.specs.Prelude.{◌==◌, ◌&&◌, slice_index}
use Rattle.riichi_rows.specs.Marks.{has_rank}
use Rattle.riichi_shape.specs.LackedKinds.{suits_lack}
use Rattle.riichi_shape.proofs.AcceptedLemmas.{some_few}
use Rattle.riichi_tiles.specs.Kinds.{IsOfSuit, first_of, suit_of}
use Rattle.riichi_tiles.specs.Suits.{of_suit}
use Rattle.riichi_tiles.specs.declared.by_suit.BySuit.{BySuit}
use Rattle.riichi_tiles.specs.declared.suit.Suit.{Suit}
use Rattle.riichi_tiles.specs.declared.suit.Suit.TheVariants.{Characters, Circles, Bamboos, Honours}
use Rattle.riichi_tiles.proofs.Suits.{own_suit}
use Rattle.riichi_rows.specs.declared.rank_set.RankSet.{RankSet}
use Rattle.riichi_tiles.specs.HeldKinds.{is_held}
use Rattle.riichi_tiles.proofs.KindSets.{both_at}
use Rattle.riichi_shape.specs.KindBits.{copies_among, copies_at}

-- ---- the copies of the kinds of a set

pub among_at : (copies : List ℕ) (set kind : ℕ) → kind < 34 → get_or (copies_among copies set) kind 0 ≡ copies_at copies set kind
unfolding copies_among
among_at copies set kind low = get_or-map-range_with_len (copies_at copies set) 0 34 kind kind 0 low (omega arith)

pub among_long : (copies : List ℕ) (set : ℕ) → length (copies_among copies set) ≡ 34
unfolding copies_among
among_long copies set = length-map-range_with_len (copies_at copies set) 0 34

pub are_among : (taken copies : List ℕ) (set : ℕ) → length taken ≡ 34 → ((kind : ℕ) → kind < 34 → get_or taken kind 0 ≡ copies_at copies set kind) → taken ≡ copies_among copies set
are_among taken copies set long each = ext_get_or 0 taken (copies_among copies set) (long ∙ sym (among_long copies set)) (λ kind low. each kind (omega arith) ∙ sym (among_at copies set kind (omega arith)))

pub among_same : (copies others : List ℕ) (set other : ℕ) → ((kind : ℕ) → kind < 34 → copies_at copies set kind ≡ copies_at others other kind) → copies_among copies set ≡ copies_among others other
among_same copies others set other each = are_among (copies_among copies set) others other (among_long copies set) (λ kind low. among_at copies set kind low ∙ each kind low)

pub few_among : (copies : List ℕ) (set : ℕ) → ((kind : ℕ) → slice_index copies kind ≤ 4) → (kind : ℕ) → slice_index (copies_among copies set) kind ≤ 4
few_among copies set few = some_few (copies_among copies set) copies (is_held set) (among_long copies set) few (among_at copies set)

-- ---- the sets of four suits as one

module _ (upper lower n : ℕ) (below : lower < 512) (is : n ≡ upper * 512 + lower) where
  pub in_lower : (kind : ℕ) → kind < 9 → is_held n kind ≡ is_held lower kind
  unfolding is_held
  in_lower kind low = ap (λ m. is_held m kind) is ∙ ap (λ b. b == 1) (bit_at_cat_low upper 9 lower kind low)

  pub in_upper : (kind : ℕ) → 9 ≤ kind → is_held n kind ≡ is_held upper (kind - 9)
  unfolding is_held
  in_upper kind high = ap (λ m. is_held m kind) is ∙ ap (λ b. b == 1) (bit_at_cat_high upper 9 lower kind below high)

-- seven of nine bits
in_seven : (n kind : ℕ) → kind < 7 → is_held (bit_and n 127) kind ≡ is_held n kind
unfolding is_held
in_seven n kind low = both_at n 127 kind ∙ ap (λ b. is_held n kind && (b == 1)) (bit_at_ones 7 kind low) ∙ and_true (is_held n kind)
  where
    and_true : (b : Bool) → (b && true) ≡ b
    and_true true = refl
    and_true false = refl

module _ (suits : BySuit RankSet) (m p s h n : ℕ) (m_low : m < 512) (p_low : p < 512) (s_low : s < 512) (is : n ≡ ((bit_and h 127 * 512 + s) * 512 + p) * 512 + m)
    (m_is : (rank : ℕ) → rank < 9 → is_held m rank ≡ has_rank suits.characters rank) (p_is : (rank : ℕ) → rank < 9 → is_held p rank ≡ has_rank suits.circles rank)
    (s_is : (rank : ℕ) → rank < 9 → is_held s rank ≡ has_rank suits.bamboos rank) (h_is : (rank : ℕ) → rank < 9 → is_held h rank ≡ has_rank suits.honours rank) where
  at_place : (rank other : ℕ) (set : ℕ) → rank ≡ other → is_held set rank ≡ is_held set other
  at_place rank other set e = ap (is_held set) e

  first : (kind : ℕ) → 9 ≤ kind → is_held n kind ≡ is_held ((bit_and h 127 * 512 + s) * 512 + p) (kind - 9)
  first kind high = in_upper ((bit_and h 127 * 512 + s) * 512 + p) m n m_low is kind high

  second : (kind : ℕ) → 18 ≤ kind → is_held n kind ≡ is_held (bit_and h 127 * 512 + s) (kind - 18)
  second kind high = first kind (omega arith) ∙ in_upper (bit_and h 127 * 512 + s) p ((bit_and h 127 * 512 + s) * 512 + p) p_low refl (kind - 9) (omega arith) ∙ at_place (kind - 9 - 9) (kind - 18) (bit_and h 127 * 512 + s) (omega arith)

  third : (kind : ℕ) → 27 ≤ kind → is_held n kind ≡ is_held (bit_and h 127) (kind - 27)
  third kind high = second kind (omega arith) ∙ in_upper (bit_and h 127) s (bit_and h 127 * 512 + s) s_low refl (kind - 18) (omega arith) ∙ at_place (kind - 18 - 9) (kind - 27) (bit_and h 127) (omega arith)

  pub at_suit : (suit : Suit) (kind : ℕ) → IsOfSuit suit kind → is_held n kind ≡ has_rank (of_suit suits suit) (kind - first_of suit)
  at_suit Characters kind of = in_lower ((bit_and h 127 * 512 + s) * 512 + p) m n m_low is kind (omega (arith, of.high)) ∙ m_is kind (omega (arith, of.high)) ∙ ap (has_rank suits.characters) (let e : kind ≡ kind - 0 = omega arith in e)
  at_suit Circles kind of = first kind of.low ∙ in_lower (bit_and h 127 * 512 + s) p ((bit_and h 127 * 512 + s) * 512 + p) p_low refl (kind - 9) (omega (arith, of.high)) ∙ p_is (kind - 9) (omega (arith, of.high))
  at_suit Bamboos kind of = second kind of.low ∙ in_lower (bit_and h 127) s (bit_and h 127 * 512 + s) s_low refl (kind - 18) (omega (arith, of.high)) ∙ s_is (kind - 18) (omega (arith, of.high))
  at_suit Honours kind of = third kind of.low ∙ in_seven h (kind - 27) (omega (arith, of.high)) ∙ h_is (kind - 27) (omega (arith, of.high))

  pub suits_at : (kind : ℕ) → kind < 34 → is_held n kind ≡ suits_lack suits kind
  suits_at kind inside = at_suit (suit_of kind) kind (own_suit kind inside)
