-- What the tiles of suits leave over by three.
use Rattle.std.proofs.Common.{◌≡◌, ◌≢◌, ℕ, ◌+◌, ◌<◌, ◌≤◌, ◌%◌, inl, inr, length, get_or, ap, ◌∙◌, subst, arith}
use Rattle.std.proofs.lemmas.List.{length-set}
use Rattle.std.proofs.lemmas.List.Sums.{sum_by-set}
use Rattle.std.specs.List.{sum}
use Rattle.riichi_tiles.specs.Kinds.{suit_of}
use Rattle.riichi_tiles.specs.Suits.{of_suit, over_suits}
use Rattle.riichi_tiles.specs.declared.by_suit.BySuit.{BySuit}
use Rattle.riichi_tiles.specs.declared.suit.Suit.{Suit}
use Rattle.riichi_tiles.proofs.Suits.{cases_suit, le_over, of_suit_with_other, over_placed, placed, placed-own}
use Rattle.riichi_split.specs.SuitTiles.{OneSuit, AreSets, AreSetsAndPair, Completes, with_tile}
use Rattle.riichi_split.proofs.SuitCuts.{sum_of_sets, sum_with_pair}
use Rattle.riichi_cuts.specs.SuitCut.{Makes}

-- ---- one suit

sum-with : (tiles : OneSuit) (rank : ℕ) → length tiles.held ≡ 9 → rank < 9 → sum (with_tile tiles rank).held ≡ sum tiles.held + 1
sum-with tiles rank nine low = omega (arith, sum_by-set (λ x. x) tiles.held rank (get_or tiles.held rank 0 + 1) 0 (omega (arith, nine, low)))

-- one more makes sets only of tiles that leave two over
pub no_sets : (tiles : OneSuit) (rank : ℕ) → length tiles.held ≡ 9 → (sum tiles.held % 3 ≡ 2 → ⊥) → rank < 9 → Makes AreSets tiles rank → ⊥
no_sets tiles rank nine other low makes = other (omega (arith, sum-with tiles rank nine low, sum_of_sets (with_tile tiles rank) makes.1))

-- and sets and a pair only of those that leave one
pub no_pair : (tiles : OneSuit) (rank : ℕ) → length tiles.held ≡ 9 → (sum tiles.held % 3 ≡ 1 → ⊥) → rank < 9 → Makes AreSetsAndPair tiles rank → ⊥
no_pair tiles rank nine other low makes =
    let still = length-set tiles.held rank (get_or tiles.held rank 0 + 1) ∙ nine in
    other (omega (arith, sum-with tiles rank nine low, sum_with_pair (with_tile tiles rank) still makes.1))

-- ---- four suits

-- where a kind completes them, each suit that has neither the tile nor the pair is sets
sets-beside : (suits : BySuit OneSuit) (kind : ℕ) (c : Completes suits kind) (suit : Suit) → suit ≢ suit_of kind → suit ≢ c.wins.pair → AreSets (of_suit suits suit)
sets-beside suits kind c suit apart other = subst AreSets (of_suit_with_other suits (suit_of kind) suit _ apart) (c.wins.others suit other)

-- one of a suit, and none of the others
abbrev one : Suit → Suit → ℕ
one own = placed own 1 0 0 0

one-own : (own suit : Suit) → suit ≡ own → one own suit ≡ 1
one-own own suit same = ap (one own) same ∙ placed-own own 1 0 0 0

-- two suits at most have one each
few : (f : Suit → ℕ) (own pair : Suit) → ((suit : Suit) → f suit ≤ 1) → ((suit : Suit) → suit ≢ own → suit ≢ pair → f suit ≡ 0) → over_suits f ≤ 2
few f own pair most none =
    let below : (suit : Suit) → f suit ≤ one own suit + one pair suit = λ suit.
    elim (cases_suit suit own) [
      | inl same ↦ omega (arith, most suit, one-own own suit same)
      | inr apart ↦ elim (cases_suit suit pair) [ inl same ↦ omega (arith, most suit, one-own pair suit same) | inr other ↦ omega (arith, none suit apart other) ]
    ] in
    let total = λ (s : Suit). over_placed (λ suit n m. n) s 1 0 0 0 0 0 0 0 in
    omega (arith, le_over f (λ suit. one own suit + one pair suit) below, total own, total pair)

pub few_leaving : (suits : BySuit OneSuit) (leaving : BySuit ℕ) (kind : ℕ) → Completes suits kind → ((suit : Suit) → of_suit leaving suit ≤ 1) → ((suit : Suit) → sum (of_suit suits suit).held % 3 ≡ 0 → of_suit leaving suit ≡ 0) → over_suits (of_suit leaving) ≤ 2
few_leaving suits leaving kind c most none =
    few (of_suit leaving) (suit_of kind) c.wins.pair most (λ suit apart other. none suit (sum_of_sets (of_suit suits suit) (sets-beside suits kind c suit apart other)))
