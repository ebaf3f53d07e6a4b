-- The kinds that complete suits which are cut.
use Rattle.std.proofs.Common.{◌≡◌, ℕ, ◌+◌, ◌-◌, ◌^◌, ◌<◌, ◌↔◌, inl, inr, get_or, sym, ap, ◌∙◌, subst, arith}
use Rattle.std.proofs.lemmas.Bool.{cases_lt, cases_eq, both_ways}
use Rattle.riichi_tiles.specs.HeldKinds.{IsMarked, is_held}
use Rattle.riichi_tiles.specs.Kinds.{first_of, kinds_of, rank_of, suit_of}
use Rattle.riichi_tiles.specs.Suits.{of_suit}
use Rattle.riichi_tiles.specs.declared.by_suit.BySuit.{BySuit}
use Rattle.riichi_tiles.specs.declared.suit.Suit.{Suit}
use Rattle.riichi_tiles.proofs.KindSets.{none_at, past_at}
use Rattle.riichi_tiles.proofs.Suits.{kinds_few, one_of, own_suit}
use Rattle.riichi_split.specs.Marks.{MarksBelow}
use Rattle.riichi_split.specs.SuitTiles.{OneSuit, AreCounted, AreSets, AreSetsAndPair, Completes, HasPairs, total_of}
use Rattle.riichi_split.proofs.PairTotals.{IsAsked, by-none, by-pair, by-sets, full-iff}
use Rattle.riichi_cuts.specs.SuitCut.{AreBeside, AreCuts, Makes}
use Rattle.riichi_cuts.specs.declared.suit_cut.SuitCut.{SuitCut}

-- ---- a rank of a suit

rank-iff : (P : ℕ → Type 0) (marks rank : ℕ) → rank < 9 → MarksBelow P 9 marks → IsMarked marks rank ↔ P rank
rank-iff P marks rank low m = let i = m.each rank in (
  λ t. elim (i.0 t) [ inl was ↦ absurd (both_ways _ (none_at rank) was) | inr so ↦ so.1 ],
  λ p. i.1 (inr (low, p)),
)

-- how many pairs the suits are by their cuts
pub record AreTold (tiles : BySuit OneSuit) (cuts : BySuit SuitCut) (pairs : BySuit ℕ) : Type 0 where
  pub cut : AreCuts tiles cuts
  pub told : (suit : Suit) → of_suit pairs suit ≡ (of_suit cuts suit).pairs

counted : (tiles : BySuit OneSuit) (cuts : BySuit SuitCut) (pairs : BySuit ℕ) → AreTold tiles cuts pairs → AreCounted tiles pairs
counted tiles cuts pairs are = record {
  each = λ suit. subst (HasPairs (of_suit tiles suit)) (sym (are.told suit)) (are.cut suit).pairs;
  few = λ suit. omega (arith, are.told suit, (are.cut suit).few);
}

-- what completes the hand is a rank of which some are left, as what is marked is
left-of : (tiles : BySuit OneSuit) (suit : Suit) (rank : ℕ) → rank < kinds_of suit → Completes tiles (first_of suit + rank) → get_or (of_suit tiles suit).held rank 0 < 4
left-of tiles suit rank small c = elim (cases_lt (get_or (of_suit tiles suit).held rank 0) 4) [ inl left ↦ left | inr full ↦ absurd (full-iff tiles suit rank small full c) ]

both-left : (M C : Type 0) (held : ℕ) → (M → held < 4) → (C → held < 4) → (held < 4 → M ↔ C) → M ↔ C
both-left M C held marked completes i = (λ m. (i (marked m)).0 m, λ c. (i (completes c)).1 c)

at-rank : (tiles : BySuit OneSuit) (cuts : BySuit SuitCut) (pairs : BySuit ℕ) (suit : Suit) (rank others marks : ℕ) → AreTold tiles cuts pairs → rank < kinds_of suit → others + of_suit pairs suit ≡ total_of pairs →
    AreBeside (of_suit cuts suit) others marks → IsMarked marks rank ↔ Completes tiles (first_of suit + rank)
at-rank tiles cuts pairs suit rank others marks are small beside chosen =
    let own = of_suit tiles suit in
    let held = get_or own.held rank 0 in
    let low : rank < 9 = omega (arith, small, kinds_few suit) in
    let asked : held < 4 → IsAsked tiles pairs suit rank others = λ left. record { counted = counted tiles cuts pairs are; small = small; left = left; beside = beside } in
    let at : ℕ → Type 0 = λ n. IsAsked tiles pairs suit rank n in
    let completes = left-of tiles suit rank small in
    elim (cases_eq others 0) [
      | inl none ↦
          let i = rank-iff (Makes AreSetsAndPair own) marks rank low (subst (MarksBelow (Makes AreSetsAndPair own) 9) (sym (chosen.pair none)) (are.cut suit).pair) in
          both-left _ _ held (λ m. (i.0 m).0) completes
          (λ left. by-pair tiles pairs suit rank (is_held marks rank) (subst at none (asked left)) (λ m. (i.0 m).1, λ pair. i.1 (left, pair)))
      | inr some ↦ elim (cases_eq others 1) [
        | inl one ↦
            let i = rank-iff (Makes AreSets own) marks rank low (subst (MarksBelow (Makes AreSets own) 9) (sym (chosen.sets one)) (are.cut suit).sets) in
            both-left _ _ held (λ m. (i.0 m).0) completes
            (λ left. by-sets tiles pairs suit rank (is_held marks rank) (subst at one (asked left)) (λ m. (i.0 m).1, λ sets. i.1 (left, sets)))
        | inr more ↦ (
          λ m. absurd (both_ways _ (ap (λ n. is_held n rank) (chosen.none (omega (arith, some, more))) ∙ none_at rank) m),
          λ c. absurd (by-none tiles pairs suit rank others (asked (completes c)) some more c),
        )
      ]
    ]

-- ---- all kinds

-- the ranks of each suit that complete the hand
abbrev pub EachBeside : BySuit SuitCut → BySuit ℕ → BySuit ℕ → Type 0
EachBeside cuts pairs ranks = (suit : Suit) → AreBeside (of_suit cuts suit) (total_of pairs - of_suit pairs suit) (of_suit ranks suit)

pub kinds-iff : (tiles : BySuit OneSuit) (cuts : BySuit SuitCut) (pairs ranks : BySuit ℕ) (marks kind : ℕ) → AreTold tiles cuts pairs → EachBeside cuts pairs ranks → marks < 2 ^ 34 →
    ((k : ℕ) → k < 34 → is_held marks k ≡ is_held (of_suit ranks (suit_of k)) (rank_of k)) → IsMarked marks kind ↔ Completes tiles kind
kinds-iff tiles cuts pairs ranks marks kind are beside few each = elim (cases_lt kind 34) [
  | inl low ↦
      let suit = suit_of kind in
      let is = own_suit kind low in
      let own : first_of suit + rank_of kind ≡ kind = omega (arith, is.low) in
      let i = at-rank tiles cuts pairs suit (rank_of kind) (total_of pairs - of_suit pairs suit) (of_suit ranks suit) are (omega (arith, is.low, is.high)) (omega (arith, one_of (of_suit pairs) suit)) (beside suit) in
      let e = each kind low in
      (λ m. subst (Completes tiles) own (i.0 (sym e ∙ m)), λ c. e ∙ i.1 (subst (Completes tiles) (sym own) c))
  | inr past ↦ (λ m. absurd (both_ways _ (past_at marks kind few past) m), λ c. absurd (omega (arith, past, c.of_a_kind)))
]
