-- What the tiles of each suit leave over beside sets of three: two in the pair's suit, none in the others.
use Rattle.std.proofs.Common.{◌≡◌, ◌≢◌, ℕ, ◌%◌, List, length, get_or, sym, ap, ◌∙◌, subst, inl, inr, arith}
use Rattle.std.specs.List.{range_with_len, sum}
use Rattle.std.proofs.lemmas.List.{get_or_past}
use Rattle.riichi_tiles.specs.declared.block.Block.{Block}
use Rattle.riichi_tiles.specs.declared.suit.Suit.{Suit}
use Rattle.riichi_tiles.specs.declared.suit.Suit.TheVariants.{Honours}
use Rattle.riichi_tiles.specs.Kinds.{first_of, kinds_of, suit_of}
use Rattle.riichi_tiles.proofs.Suits.{cases_suit, only_over, only_suit}
use Rattle.riichi_tiles.specs.Suits.{over_suits}
use Rattle.std.specs.Prelude.{sum_by}
use Rattle.riichi_split.specs.Readings.{IsSplit}
use Rattle.riichi_split.specs.SuitTiles.{AreSets, AreSetsAndPair, tiles_of_suit}
use Rattle.riichi_split.proofs.SuitCuts.{sum_of_sets, sum_with_pair}
use Rattle.riichi_split.proofs.SplitSuits.{won-by, suit-is, nine-length}

abbrev pub rest : List ℕ → Suit → ℕ
rest c suit = sum_by (λ k. get_or c k 0) (range_with_len (first_of suit) (kinds_of suit)) % 3

-- past the last honour there are no tiles
sum-of : (c : List ℕ) (suit : Suit) → length c ≡ 34 → sum_by (λ k. get_or c k 0) (range_with_len (first_of suit) (kinds_of suit)) ≡ sum (tiles_of_suit c suit).held
sum-of c Honours long = omega (arith, get_or_past c 34 0 (omega arith), get_or_past c 35 0 (omega arith))
sum-of c other long = omega arith

record HasRests (c : List ℕ) (pair : ℕ) : Type 0 where
  two : rest c (suit_of pair) ≡ 2
  none : (other : Suit) → other ≢ suit_of pair → rest c other ≡ 0

rests-of : (c : List ℕ) (melds : ℕ) (sets : List Block) (pair : ℕ) → length c ≡ 34 → IsSplit c melds sets pair → HasRests c pair
rests-of c melds sets pair long split =
    let w = won-by c melds sets pair long split in
    let own = w.0.pair in
    let is = only_suit own pair w.1 in record {
      two = ap (rest c) is ∙ ap (λ n. n % 3) (sum-of c own long) ∙ sum_with_pair (tiles_of_suit c own) (nine-length (λ k. get_or c k 0) (first_of own)) (subst AreSetsAndPair (suit-is c own) w.0.has_pair);
      none = λ other ne. ap (λ n. n % 3) (sum-of c other long) ∙ sum_of_sets (tiles_of_suit c other) (subst AreSets (suit-is c other) (w.0.others other (λ e. ne (e ∙ sym is))));
    }

pub rests-two : (c : List ℕ) (melds : ℕ) (sets : List Block) (pair : ℕ) → length c ≡ 34 → IsSplit c melds sets pair → (over_suits (rest c) ≡ 2) × (rest c (suit_of pair) ≡ 2)
rests-two c melds sets pair long split = let r = rests-of c melds sets pair long split in (only_over (rest c) (suit_of pair) r.none ∙ r.two, r.two)

-- the suit that leaves two has the pair
pub has-pair : (c : List ℕ) (melds : ℕ) (sets : List Block) (pair : ℕ) (suit : Suit) → length c ≡ 34 → IsSplit c melds sets pair → rest c suit ≡ 2 → suit ≡ suit_of pair
has-pair c melds sets pair suit long split two =
    let r = rests-of c melds sets pair long split in
    elim (cases_suit suit (suit_of pair)) [ inl same ↦ same | inr ne ↦ absurd (omega (arith, two, r.none suit ne)) ]
