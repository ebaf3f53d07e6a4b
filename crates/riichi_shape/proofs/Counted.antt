-- Sets and a pair as one list of blocks.
use Rattle.std.proofs.Common.{◌≡◌, ℕ, ◌+◌, ◌<◌, List, [], ◌∷◌, length, refl, ◌∙◌, arith}
use Rattle.std.proofs.lemmas.List.Elements.{All-nil, All-cons, All-head, All-tail}
use Rattle.std.proofs.lemmas.List.Sums.{sum_by-cons}
use Rattle.std.specs.Prelude.{All, count_by, slice_index}
use Rattle.riichi_tiles.specs.Kinds.{IsRunLow}
use Rattle.riichi_tiles.specs.Blocks.{IsSet, total, is_pair}
use Rattle.riichi_tiles.specs.declared.block.Block.{Block}
use Rattle.riichi_tiles.specs.declared.block.Block.TheVariants.{Run, Triplet, Pair}
use Rattle.riichi_rows.specs.Suit.{is_set}
use Rattle.riichi_rows.proofs.Blocks.{set_of, has_pair}
use Rattle.riichi_tiles.specs.Forms.{IsSetsAndPair}

-- a block of the 34 kinds
abbrev pub IsOfKinds : Block → Type 0
IsOfKinds (Run low) = IsRunLow low
IsOfKinds (Triplet kind) = kind < 34
IsOfKinds (Pair kind) = kind < 34

-- so many sets and one pair, in any order, add up to the multiset
pub record AreCounted (sets : ℕ) (wanted : List ℕ) : Type 0 where
  pub blocks : List Block
  pub of_kinds : All IsOfKinds blocks
  pub has_sets : count_by is_set blocks ≡ sets
  pub has_pair : count_by is_pair blocks ≡ 1
  pub adds_up : (kind : ℕ) → kind < 34 → slice_index wanted kind ≡ total blocks kind

of_kind : (b : Block) → IsSet b → IsOfKinds b
of_kind (Run low) is = is
of_kind (Triplet kind) is = is
of_kind (Pair kind) is = absurd is

all_of_kinds : (bs : List Block) → All IsSet bs → All IsOfKinds bs
all_of_kinds [] all = All-nil IsOfKinds
all_of_kinds (b ∷ bs) all = All-cons IsOfKinds b bs (of_kind b (All-head IsSet b bs all)) (all_of_kinds bs (All-tail IsSet b bs all))

one_set : (b : Block) → IsSet b → (set_of b ≡ 1) × (has_pair b ≡ 0)
one_set (Run low) is = (refl, refl)
one_set (Triplet kind) is = (refl, refl)
one_set (Pair kind) is = absurd is

count_sets : (bs : List Block) → All IsSet bs → count_by is_set bs ≡ length bs
count_sets [] all = refl
count_sets (b ∷ bs) all = sum_by-cons set_of b bs ∙ omega (arith, count_sets bs (All-tail IsSet b bs all), (one_set b (All-head IsSet b bs all)).0)

count_pairs : (bs : List Block) → All IsSet bs → count_by is_pair bs ≡ 0
count_pairs [] all = refl
count_pairs (b ∷ bs) all = sum_by-cons has_pair b bs ∙ omega (arith, count_pairs bs (All-tail IsSet b bs all), (one_set b (All-head IsSet b bs all)).1)

pub counted : (sets : ℕ) (wanted : List ℕ) → IsSetsAndPair sets wanted → AreCounted sets wanted
counted sets wanted is = record {
  blocks = Pair is.pair ∷ is.blocks;
  of_kinds = All-cons IsOfKinds (Pair is.pair) is.blocks is.made_of.is_kind (all_of_kinds is.blocks is.made_of.are_sets);
  has_sets = sum_by-cons set_of (Pair is.pair) is.blocks ∙ omega (arith, count_sets is.blocks is.made_of.are_sets, is.has_sets);
  has_pair = sum_by-cons has_pair (Pair is.pair) is.blocks ∙ omega (arith, count_pairs is.blocks is.made_of.are_sets);
  adds_up = is.made_of.adds_up;
}

-- ---- the pairs taken out

abbrev paired : List ℕ → List Block
paired [] = []
paired (kind ∷ kinds) = Pair kind ∷ paired kinds

record Sorted (bs : List Block) : Type 0 where
  pub sets : List Block
  pub pairs : List ℕ
  pub are_sets : All IsSet sets
  pub are_kinds : All (λ (kind : ℕ). kind < 34) pairs
  pub has_sets : length sets ≡ count_by is_set bs
  pub has_pairs : length pairs ≡ count_by is_pair bs
  pub adds_up : (kind : ℕ) → total bs kind ≡ total (paired pairs) kind + total sets kind

with_set : (b : Block) (bs : List Block) → IsSet b → Sorted bs → Sorted (b ∷ bs)
with_set b bs is rest = record {
  sets = b ∷ rest.sets;
  pairs = rest.pairs;
  are_sets = All-cons IsSet b rest.sets is rest.are_sets;
  are_kinds = rest.are_kinds;
  has_sets = omega (arith, sum_by-cons set_of b bs, rest.has_sets, (one_set b is).0);
  has_pairs = omega (arith, sum_by-cons has_pair b bs, rest.has_pairs, (one_set b is).1);
  adds_up = λ kind. omega (arith, rest.adds_up kind);
}

sorted : (bs : List Block) → All IsOfKinds bs → Sorted bs
sorted [] all = record { sets = []; pairs = []; are_sets = All-nil IsSet; are_kinds = All-nil (λ (kind : ℕ). kind < 34); has_sets = refl; has_pairs = refl; adds_up = λ kind. refl }
sorted (Run low ∷ bs) all = with_set (Run low) bs (All-head IsOfKinds (Run low) bs all) (sorted bs (All-tail IsOfKinds (Run low) bs all))
sorted (Triplet held ∷ bs) all = with_set (Triplet held) bs (All-head IsOfKinds (Triplet held) bs all) (sorted bs (All-tail IsOfKinds (Triplet held) bs all))
sorted (Pair held ∷ bs) all =
    let rest = sorted bs (All-tail IsOfKinds (Pair held) bs all) in
    record {
      sets = rest.sets;
      pairs = held ∷ rest.pairs;
      are_sets = rest.are_sets;
      are_kinds = All-cons (λ (kind : ℕ). kind < 34) held rest.pairs (All-head IsOfKinds (Pair held) bs all) rest.are_kinds;
      has_sets = omega (arith, sum_by-cons set_of (Pair held) bs, rest.has_sets);
      has_pairs = omega (arith, sum_by-cons has_pair (Pair held) bs, rest.has_pairs);
      adds_up = λ kind. omega (arith, rest.adds_up kind);
    }

pub uncounted : (sets : ℕ) (wanted : List ℕ) → AreCounted sets wanted → IsSetsAndPair sets wanted
uncounted sets wanted is = by_pairs s.pairs s.are_kinds (s.has_pairs ∙ is.has_pair) s.adds_up
  where
    s : Sorted is.blocks
    s = sorted is.blocks is.of_kinds

    by_pairs : (pairs : List ℕ) → All (λ (kind : ℕ). kind < 34) pairs → length pairs ≡ 1 → ((kind : ℕ) → total is.blocks kind ≡ total (paired pairs) kind + total s.sets kind) → IsSetsAndPair sets wanted
    by_pairs [] all one adds = absurd (omega arith)
    by_pairs (pair ∷ []) all one adds = record {
      blocks = s.sets;
      pair = pair;
      made_of = record { are_sets = s.are_sets; is_kind = All-head (λ (kind : ℕ). kind < 34) pair [] all; adds_up = λ kind low. omega (arith, is.adds_up kind low, adds kind) };
      has_sets = s.has_sets ∙ is.has_sets;
    }
    by_pairs (pair ∷ another ∷ pairs) all one adds = absurd (omega arith)
