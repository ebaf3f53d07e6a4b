-- The nine counts of a suit, filled rank by rank.
use Rattle.std.proofs.Common.{◌≡◌, ℕ, ◌+◌, ◌<◌, ◌≤◌, inl, inr, Bool, List, length, get_or, replicate, set, refl, sym, ap, ◌∙◌, ⊎_elim, arith}
use Rattle.std.proofs.lemmas.Bool.{cases_lt, cases_eq}
use Rattle.std.proofs.lemmas.List.{length-set, get_or-set_other, get_or_past, ext_get_or}
use Rattle.std.proofs.lemmas.List.FromFn.{length-map-range_with_len, get_or-map-range_with_len}
use Rattle.std.proofs.lemmas.Grind.{get_or-set_at}
use Rattle.riichi_tiles.specs.declared.suit.Suit.{Suit}
use Rattle.riichi_tiles.proofs.Suits.{kinds_last}
use Rattle.riichi_tiles.specs.Kinds.{first_of, kinds_of, has_runs}
use Rattle.riichi_split.proofs.Lists.{replicate-at}
use Rattle.riichi_split.specs.SuitTiles.{OneSuit, nine_from, tiles_of_suit}

-- the ranks below one have the suit's counts, and the others none
pub record IsFilledTo (counts : List ℕ) (suit : Suit) (held : List ℕ) (rank : ℕ) : Type 0 where
  pub nine : length held ≡ 9
  pub below : (k : ℕ) → k < rank → get_or held k 0 ≡ get_or counts (first_of suit + k) 0
  pub above : (k : ℕ) → rank ≤ k → get_or held k 0 ≡ 0

pub filled_none : (counts : List ℕ) (suit : Suit) → IsFilledTo counts suit (replicate 9 0) 0
filled_none counts suit = record { nine = refl; below = λ k l. absurd (omega arith); above = λ k l. replicate-at 9 k 0 }

pub filled_more : (counts : List ℕ) (suit : Suit) (held : List ℕ) (rank v : ℕ) → rank < 9 → v ≡ get_or counts (first_of suit + rank) 0 → IsFilledTo counts suit held rank → IsFilledTo counts suit (set held rank v) (rank + 1)
filled_more counts suit held rank v l e i = record {
  nine = length-set held rank v ∙ i.nine;
  below = λ k h. elim (cases_eq k rank) [
    | inl same ↦ get_or-set_at held rank k v 0 same (omega (arith, i.nine)) ∙ e ∙ ap (λ j. get_or counts (first_of suit + j) 0) (sym same)
    | inr ne ↦ get_or-set_other held rank k v 0 ne ∙ i.below k (omega arith)
  ];
  above = λ k h. get_or-set_other held rank k v 0 (omega arith) ∙ i.above k (omega arith);
}

-- past the kinds of a suit of fewer than nine there are none
past-last : (suit : Suit) (rank : ℕ) → rank < 9 → kinds_of suit ≤ rank → 34 ≤ first_of suit + rank
past-last suit rank l h = ⊎_elim (λ nine. absurd (omega (arith, l, h, nine))) (λ last. omega (arith, h, last)) (kinds_last suit)

pub filled-all : (counts : List ℕ) (suit : Suit) (held : List ℕ) (rank : ℕ) → length counts ≡ 34 → kinds_of suit ≤ rank → IsFilledTo counts suit held rank → held ≡ nine_from (λ k. get_or counts k 0) (first_of suit)
filled-all counts suit held rank long all i =
    let f = λ (k : ℕ). get_or counts k 0 in
    ext_get_or 0 held (nine_from f (first_of suit)) (i.nine ∙ sym (length-map-range_with_len f (first_of suit) 9)) (λ k l.
    let small : k < 9 = omega (arith, i.nine) in
    let at = get_or-map-range_with_len f (first_of suit) 9 k (first_of suit + k) 0 small refl in
    elim (cases_lt k rank) [
      | inl h ↦ i.below k h ∙ sym at
      | inr h ↦ i.above k h ∙ sym (at ∙ get_or_past counts (first_of suit + k) 0 (omega (arith, long, past-last suit k small (omega arith))))
    ])

-- two suits with the same tiles
pub same-suit : (h k : List ℕ) (r s : Bool) → h ≡ k → r ≡ s → ◌≡◌ {A = OneSuit} (record { held = h; has_runs = r }) (record { held = k; has_runs = s })
same-suit h k r s e f = cc

pub filled_suit : (counts : List ℕ) (suit : Suit) (held : List ℕ) (rank : ℕ) (runs : Bool) → length counts ≡ 34 → kinds_of suit ≤ rank → runs ≡ has_runs suit → IsFilledTo counts suit held rank → ◌≡◌ {A = OneSuit} (record { held = held; has_runs = runs }) (tiles_of_suit counts suit)
filled_suit counts suit held rank runs long all is i = same-suit held (nine_from (λ k. get_or counts k 0) (first_of suit)) runs (has_runs suit) (filled-all counts suit held rank long all i) is

pub ruleset of_facts = (filled_none, filled_more, filled_suit)
