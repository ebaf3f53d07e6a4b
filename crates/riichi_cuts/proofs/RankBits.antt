-- The ranks of four suits as kinds.
use Rattle.std.proofs.Common.{◌≡◌, ℕ, ◌+◌, ◌-◌, ◌*◌, ◌<◌, ◌≤◌, Bool, true, false, refl, ap, ◌∙◌, arith, bit_and}
use Rattle.std.proofs.lemmas.Nat.Bits.{bit_at_cat_high, bit_at_cat_low, bit_at_ones}
use Rattle.std.specs.Prelude.{◌==◌, ◌&&◌}
use Rattle.riichi_tiles.specs.HeldKinds.{is_held}
use Rattle.riichi_tiles.specs.Kinds.{IsOfSuit, first_of, rank_of, suit_of}
use Rattle.riichi_tiles.specs.Suits.{of_suit}
use Rattle.riichi_tiles.specs.declared.by_suit.BySuit.{BySuit}
use Rattle.riichi_tiles.specs.declared.suit.Suit.{Suit}
use Rattle.riichi_tiles.specs.declared.suit.Suit.TheVariants.{Characters, Circles, Bamboos, Honours}
use Rattle.riichi_tiles.proofs.KindSets.{both_at}
use Rattle.riichi_tiles.proofs.Suits.{own_suit}

in-lower : (upper lower kind : ℕ) → kind < 9 → is_held (upper * 512 + lower) kind ≡ is_held lower kind
unfolding is_held
in-lower upper lower kind low = ap (λ b. b == 1) (bit_at_cat_low upper 9 lower kind low)

in-upper : (upper lower kind : ℕ) → lower < 512 → 9 ≤ kind → is_held (upper * 512 + lower) kind ≡ is_held upper (kind - 9)
unfolding is_held
in-upper upper lower kind below high = ap (λ b. b == 1) (bit_at_cat_high upper 9 lower kind below high)

-- seven of nine
in-seven : (n kind : ℕ) → kind < 7 → is_held (bit_and n 127) kind ≡ is_held n kind
unfolding is_held
in-seven n kind low = both_at n 127 kind ∙ ap (λ b. is_held n kind && (b == 1)) (bit_at_ones 7 kind low) ∙ and_true (is_held n kind)
  where
    and_true : (b : Bool) → (b && true) ≡ b
    and_true true = refl
    and_true false = refl

-- nine bits for each suit, the characters lowest
at_suit : (m p s h : ℕ) → m < 512 → p < 512 → s < 512 → (suit : Suit) (kind : ℕ) → IsOfSuit suit kind →
    is_held (((bit_and h 127 * 512 + s) * 512 + p) * 512 + m) kind ≡ is_held (of_suit (record { characters = m; circles = p; bamboos = s; honours = h }) suit) (kind - first_of suit)
at_suit m p s h m_low p_low s_low Characters kind is =
    in-lower ((bit_and h 127 * 512 + s) * 512 + p) m kind is.high ∙ ap (is_held m) (let at : kind ≡ kind - 0 = omega arith in at)
at_suit m p s h m_low p_low s_low Circles kind is =
    in-upper ((bit_and h 127 * 512 + s) * 512 + p) m kind m_low is.low ∙ in-lower (bit_and h 127 * 512 + s) p (kind - 9) (omega (arith, is.high))
at_suit m p s h m_low p_low s_low Bamboos kind is =
    in-upper ((bit_and h 127 * 512 + s) * 512 + p) m kind m_low (omega (arith, is.low)) ∙ in-upper (bit_and h 127 * 512 + s) p (kind - 9) p_low (omega (arith, is.low))
    ∙ in-lower (bit_and h 127) s (kind - 9 - 9) (omega (arith, is.high)) ∙ ap (is_held s) (let at : kind - 9 - 9 ≡ kind - 18 = omega arith in at)
at_suit m p s h m_low p_low s_low Honours kind is =
    in-upper ((bit_and h 127 * 512 + s) * 512 + p) m kind m_low (omega (arith, is.low)) ∙ in-upper (bit_and h 127 * 512 + s) p (kind - 9) p_low (omega (arith, is.low))
    ∙ in-upper (bit_and h 127) s (kind - 9 - 9) s_low (omega (arith, is.low))
    ∙ in-seven h (kind - 9 - 9 - 9) (omega (arith, is.high)) ∙ ap (is_held h) (let at : kind - 9 - 9 - 9 ≡ kind - 27 = omega arith in at)

pub at_kind : (ranks : BySuit ℕ) (m p s h all kind : ℕ) → m ≡ ranks.characters → p ≡ ranks.circles → s ≡ ranks.bamboos → h ≡ ranks.honours →
    ranks.characters < 512 → ranks.circles < 512 → ranks.bamboos < 512 → all ≡ ((bit_and h 127 * 512 + s) * 512 + p) * 512 + m → kind < 34 → is_held all kind ≡ is_held (of_suit ranks (suit_of kind)) (rank_of kind)
at_kind ranks m p s h all kind m_is p_is s_is h_is m_low p_low s_low is low =
    ap (λ n. is_held n kind) (is ∙ same ranks.honours ranks.bamboos ranks.circles ranks.characters h s p m h_is s_is p_is m_is)
    ∙ at_suit ranks.characters ranks.circles ranks.bamboos ranks.honours m_low p_low s_low (suit_of kind) kind (own_suit kind low)
  where
    same : (a b c d e f g i : ℕ) → e ≡ a → f ≡ b → g ≡ c → i ≡ d → ((bit_and e 127 * 512 + f) * 512 + g) * 512 + i ≡ ((bit_and a 127 * 512 + b) * 512 + c) * 512 + d
    same a b c d e f g i e-is f-is g-is i-is = cc
